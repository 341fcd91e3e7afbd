use Rattle.std.proofs.Common.{arith, sym, ap, ◌∙◌, subst, ◌<◌}
use Rattle.braid_hall.proofs.Splits.{splits}
use Rattle.braid_hall.proofs.hall.Hall.split.Goals as goal

pub split_seat-seat-requires : goal.split_seat-seat-requires
split_seat-seat-requires g c = let wide = c.self.invariant.0 in let is = c.pass.view_is in (
  ap (λ p. p.hall) is ∙ (c.requires.hall ∙ sym c.self.view_is),
  omega arith,
  splits _ _ _ _ _ _ c.pass.invariant.rests.lives (ap (λ p. p.number) is ∙ c.requires.first) (subst (λ p. p.made < 4294967295) (sym is) c.requires.few),
)

use Rattle.std.proofs.Common.{false, sym, subst, arith, vec_len}
use Rattle.braid_frame.specs.Framing.{StandsFor}
use Rattle.braid_frame.proofs.Meant.{rests_exactly, none_kept}
use Rattle.braid_frame.proofs.framer.Framer.resting.Goals as goal

pub returns-in_default : goal.returns-in_default
returns-in_default c = record {
  rests = λ us b h. rests_exactly us c.self.inside.state b false (λ t. absurd (cc)) (λ k. absurd (c.in_default.not-Lines k.0)) (subst (λ s. StandsFor us s b) (sym c.self.view_is) h);
}

pub returns-in-Lines : goal.returns-in-Lines
returns-in-Lines c = record {
  rests = λ us b h.
      let k = none_kept c.self.inside.state.kept.items (vec_len c.self.inside.state.kept) c.is_empty.result (omega (arith, c.self.inside.state.kept.ok.0)) c.is_empty.ensures in
      rests_exactly us c.self.inside.state b c.is_empty.result (λ t. (c.in-Lines.is, k.0 t)) (λ t. k.1 t.1) (subst (λ s. StandsFor us s b) (sym c.self.view_is) h);
}

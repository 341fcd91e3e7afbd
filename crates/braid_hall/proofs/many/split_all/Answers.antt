use Rattle.std.proofs.Common.{rules, ◌≡◌, sym, ap, ◌∙◌, subst, ℕ, List, [], ◌∷◌, ◌++◌, ◌+◌, vec_len}
use Rattle.braid_hall.specs.Passes.{PassView, new_pass}
use Rattle.braid_hall.specs.Many.{SplitsAll}
use Rattle.braid_hall.proofs.ManyPasses.{splits_more}
use Rattle.braid_hall.proofs.many.split_all.Goals as goal

pub loop-preserved : goal.loop-preserved
loop-preserved g c =
    let i = c.loop.invariant in
    let s = c.in_ok-pass.ensures.ok in
    let long : vec_len c.push-kept.new.self ≡ vec_len c.loop.passes + 1 = search rules in
    let pushed : c.push-kept.new.self.items ≡ c.loop.passes.items ++ c.in_ok-pass.pass ∷ [] = search rules in
    let items : c.push-kept.new.self.items ≡ c.loop.passes.items ++ new_pass c.loop.root ∷ [] = pushed ∙ ap (λ (w : PassView g.row.B-Entry.Denot). c.loop.passes.items ++ w ∷ []) s.1 in (
      long ∙ ap (λ (n : ℕ). n + 1) i.0,
      subst (λ (z : ℕ × PassView g.row.B-Entry.Denot × List (PassView g.row.B-Entry.Denot)). SplitsAll c.args.hall.now c.args.root.now z.0 z.1 z.2) (λ j. (sym long j, sym s.0 j, sym items j))
          (splits_more c.args.hall.now c.args.root.now (vec_len c.loop.passes) c.loop.root c.loop.passes.items i.1),
    )

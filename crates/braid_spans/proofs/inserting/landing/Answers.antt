use Rattle.std.proofs.Common.{◌≡◌, ℕ, ◌≤◌, arith, below_more, Less}
use Rattle.braid_tree.specs.Keys.{key_cmp}
use Rattle.braid_tree.specs.Rows.{key_at}
use Rattle.braid_spans.specs.declared.run.Run.{Run}
use Rattle.braid_spans.specs.Kept.{stamps_in, IsRunPassed}
use Rattle.braid_spans.proofs.Lists.{if_some}
use Rattle.braid_spans.proofs.inserting.landing.Goals as goal

pub loop-index-preserved : goal.loop-index-preserved
loop-index-preserved c =
    let vs = stamps_in c.args.versions.now in
    let here : IsRunPassed vs c.args.runs.now.list c.args.first c.loop-index.index
    = if_some (λ (r : Run). key_cmp (key_at vs c.args.first) (key_at vs r.first) ≡ Less) _ _ c.get.ensures.value (c.has_greater_key.ensures.greater.0 c.if-has_greater_key.true) in
    record {
      from = omega arith;
      within = omega arith;
      passed = λ k a b. below_more (λ (j : ℕ). c.args.start ≤ j → IsRunPassed vs c.args.runs.now.list c.args.first j) c.loop-index.index (λ j l m. c.loop-index.invariant.passed j m l) (λ m. here) k b a;
    }

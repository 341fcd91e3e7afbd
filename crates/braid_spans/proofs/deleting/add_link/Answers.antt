use Rattle.std.proofs.Common.{◌<◌, arith, Some}
use Rattle.braid_spans.specs.declared.run.Run.{Run}
use Rattle.braid_spans.proofs.Lists.{from_some_and}
use Rattle.braid_spans.proofs.Cutting.{size_set}
use Rattle.braid_spans.proofs.deleting.add_link.Goals as goal

pub set-requires-clause-some : goal.set-requires-clause-some
set-requires-clause-some c = from_some_and (λ (r : Run). 0 < r.len) _ _ c.get-run.ensures.value c.requires.some

pub set-requires-clause-few : goal.set-requires-clause-few
set-requires-clause-few c =
    let s = size_set c.args.runs.now.list c.args.index c.get-run.result (record { first = c.get-run.result.first; start = c.get-run.result.start; len = c.get-run.result.len; origin = c.get-run.result.origin; newest = Some c.len-number.result }) c.get-run.ensures.value in
    omega (arith, s, c.get-run.ensures.size)

use Rattle.std.proofs.Common.{arith, subst, sym}
use Rattle.std.proofs.lemmas.Option.{slice_get_within}
use Rattle.braid_spans.specs.Kept.{RunsView, SpellsAlike}
use Rattle.braid_spans.proofs.Cutting.{alike_same}
use Rattle.braid_spans.proofs.editing.open_behind.Goals as goal
use Rattle.braid_spans.proofs.editing.open_behind.Goals.{then-k-run, else-k-run}

pub overflow_add-result : goal.overflow_add-result
overflow_add-result c = let l = slice_get_within c.args.runs.now.list c.find-index.result c.get-run.result c.get-run.ensures.value in omega (arith, c.get-run.ensures.few, l)

pub returns-clause-alike : goal.returns-clause-alike
returns-clause-alike c = elim c.if-k-run.branch [
  | then-k-run w ↦ subst (λ (v : RunsView). SpellsAlike c.args.runs.now.list v.list) (sym w.runs-is) w.cut.ensures.alike
  | else-k-run w ↦ subst (λ (v : RunsView). SpellsAlike c.args.runs.now.list v.list) (sym w.runs-is) (alike_same c.args.runs.now.list)
]

use Rattle.std.proofs.Common.{None, ◌∙◌, sym, arith}
use Rattle.braid_spans.specs.declared.run.Run.{Run}
use Rattle.braid_spans.specs.Kept.{chains_of}
use Rattle.braid_spans.proofs.SeenSteps.{count_on, count_within}
use Rattle.braid_spans.proofs.visible.count_visible.Goals as goal

-- what is read where no run is
no_run : Run
no_run = record { first = record { version = 0; ordinal = 0 }; start = 0; len = 0; origin = None; newest = None }

pub overflow_add-count : goal.overflow_add-count
unfolding no_run
overflow_add-count c =
    let e = count_on c.args.marks.now (chains_of c.args.links.now) c.args.runs.now c.loop-run.run-index no_run c.loop-run-test.true (sym c.is_visible.ensures.seen ∙ c.if-is_visible.true) in
    let w = count_within c.args.marks.now (chains_of c.args.links.now) c.args.runs.now in
    omega (arith, e, w, c.loop-run.invariant, c.requires.few)

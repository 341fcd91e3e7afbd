use Rattle.std.proofs.Common.{slice_get, None, ap, Some, ◌∙◌, sym, arith}
use Rattle.braid_spans.specs.declared.run.Run.{Run}
use Rattle.braid_spans.specs.Kept.{chains_of}
use Rattle.braid_spans.proofs.SeenSteps.{count_on, count_off, places_off, get_here, get_behind}
use Rattle.braid_spans.proofs.visible.nth_visible.Goals as goal
use Rattle.braid_spans.proofs.visible.nth_visible.Goals.{then-is_visible+else-left-run, else-is_visible}

-- what is read where no run is
no_run : Run
no_run = record { first = record { version = 0; ordinal = 0 }; start = 0; len = 0; origin = None; newest = None }

pub returns-then-left-run-clause-ok : goal.returns-then-left-run-clause-ok
unfolding no_run
returns-then-left-run-clause-ok c =
    sym c.loop-run.invariant.place
    ∙ get_here c.args.marks.now (chains_of c.args.links.now) c.args.runs.now c.loop-run.run-index no_run c.loop-run-test.true c.loop-run.left (sym c.is_visible.ensures.seen ∙ c.if-is_visible.true) c.if-left-run.true
    ∙ ap Some (sym c.place.ensures.value)

pub loop-run-preserved : goal.loop-run-preserved
unfolding no_run
loop-run-preserved c =
    let marks = c.args.marks.now in
    let chains = chains_of c.args.links.now in
    let rs = c.args.runs.now in
    let i = c.loop-run.run-index in
    elim c.if-is_visible.branch [
      | then-is_visible+else-left-run w ↦
          let seen = sym c.is_visible.ensures.seen ∙ w.if-is_visible.true in
          let n = count_on marks chains rs i no_run c.loop-run-test.true seen in
          rw w.left-is record {
            place = get_behind marks chains rs i no_run c.loop-run-test.true c.loop-run.left seen w.if-left-run.false ∙ c.loop-run.invariant.place;
            count = omega (arith, n, c.loop-run.invariant.count, w.if-left-run.false);
          }
      | else-is_visible w ↦
          let seen = sym c.is_visible.ensures.seen ∙ w.if-is_visible.false in
          let n = count_off marks chains rs i no_run c.loop-run-test.true seen in
          rw w.left-is record {
            place = ap (λ t. slice_get t c.loop-run.left) (sym (places_off marks chains rs i no_run c.loop-run-test.true seen)) ∙ c.loop-run.invariant.place;
            count = omega (arith, n, c.loop-run.invariant.count);
          }
    ]

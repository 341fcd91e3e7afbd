use Rattle.std.proofs.Common.{◌+◌, ◌-◌, ◌++◌, None, ◌∙◌, sym, ap, arith, append_assoc, take, drop, get_or}
use Rattle.braid_spans.specs.declared.run.Run.{Run}
use Rattle.braid_spans.specs.Kept.{chains_of}
use Rattle.braid_spans.specs.SeenRuns.{seen_places, places_from}
use Rattle.braid_spans.proofs.SeenSteps.{count_on, count_off, places_off, piece_on}
use Rattle.braid_spans.proofs.visible.push_visible.Goals as goal
use Rattle.braid_spans.proofs.visible.push_visible.Goals.{then-is_visible+in_ok-push_piece, else-is_visible}

-- what is read where no run is
no_run : Run
no_run = record { first = record { version = 0; ordinal = 0 }; start = 0; len = 0; origin = None; newest = None }

pub loop-run-preserved : goal.loop-run-preserved
unfolding no_run
loop-run-preserved c =
    let marks = c.args.marks.now in
    let chains = chains_of c.args.links.now in
    let rs = c.args.runs.now in
    let i = c.loop-run.run-index in
    let inv = c.loop-run.invariant in
    elim c.if-is_visible.branch [
      | then-is_visible+in_ok-push_piece w ↦
          let seen = sym c.is_visible.ensures.seen ∙ w.if-is_visible.true in
          let n = count_on marks chains rs i no_run c.loop-run-test.true seen in
          let r = get_or rs i no_run in
          let rest = seen_places marks chains (drop (i + 1) rs) in
          let skip = w.push_piece.ensures.skip in
          let took = w.in_ok-push_piece.ensures.take in
          rw (w.places-is, w.piece-is) record {
            all = ap (λ z. z ++ take w.push_piece.new.piece.take (drop w.push_piece.new.piece.skip rest)) w.in_ok-push_piece.ensures.ok
                ∙ append_assoc c.loop-run.places.items (take c.loop-run.piece.take (drop c.loop-run.piece.skip (places_from r.first.version r.first.ordinal r.len))) (take w.push_piece.new.piece.take (drop w.push_piece.new.piece.skip rest))
                ∙ ap (λ m. c.loop-run.places.items ++ (take c.loop-run.piece.take (drop c.loop-run.piece.skip (places_from r.first.version r.first.ordinal r.len)) ++ take m (drop w.push_piece.new.piece.skip rest))) took
                ∙ ap (λ m. c.loop-run.places.items ++ (take c.loop-run.piece.take (drop c.loop-run.piece.skip (places_from r.first.version r.first.ordinal r.len)) ++ take (c.loop-run.piece.take - (r.len - c.loop-run.piece.skip)) (drop m rest))) skip
                ∙ ap (λ z. c.loop-run.places.items ++ z) (sym (piece_on marks chains rs i no_run c.loop-run-test.true c.loop-run.piece.skip c.loop-run.piece.take seen))
                ∙ inv.all;
            few = omega (arith, n, inv.few);
            skipped = omega (arith, n, inv.skipped, inv.few, skip);
            taken = omega (arith, n, inv.taken, inv.skipped, inv.few, took);
          }
      | else-is_visible w ↦
          let seen = sym c.is_visible.ensures.seen ∙ w.if-is_visible.false in
          let n = count_off marks chains rs i no_run c.loop-run-test.true seen in
          rw (w.places-is, w.piece-is) record {
            all = ap (λ z. c.loop-run.places.items ++ take c.loop-run.piece.take (drop c.loop-run.piece.skip z)) (sym (places_off marks chains rs i no_run c.loop-run-test.true seen)) ∙ inv.all;
            few = omega (arith, n, inv.few);
            skipped = omega (arith, n, inv.skipped, inv.few);
            taken = omega (arith, n, inv.taken, inv.few);
          }
    ]

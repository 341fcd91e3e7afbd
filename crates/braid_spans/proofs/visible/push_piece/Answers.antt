use Rattle.std.proofs.Common.{◌≡◌, ◌+◌, ◌-◌, ◌++◌, ◌∙◌, sym, ap, arith}
use Rattle.braid_spans.specs.SeenRuns.{places_from}
use Rattle.braid_spans.proofs.SeenSteps.{place_pushed, piece_places}
use Rattle.braid_spans.proofs.visible.push_piece.Goals as goal

pub loop-k-preserved : goal.loop-k-preserved
loop-k-preserved c = record {
  items = place_pushed c.args.places.now.items c.loop-k.places.items c.push_reserved.new.self.items c.place.result c.args.run.now.first.version c.args.run.now.first.ordinal c.min-from.result c.loop-k.k
      c.loop-k.auto.k c.push_reserved.ensures.items c.place.ensures.value c.loop-k.invariant.items;
  room = omega (arith, c.push_reserved.ensures.len, c.push_reserved.ensures.capacity, c.loop-k.invariant.room, c.loop-k-test.true);
}

pub returns-clause-ok : goal.returns-clause-ok
returns-clause-ok c =
    let end : c.loop-k.k - c.min-from.result ≡ c.min-from.result + c.min.result - c.min-from.result = omega (arith, c.loop-k.auto.k, c.loop-k.auto.k-end, c.loop-k-test.false) in
    c.loop-k.invariant.items
    ∙ ap (λ n. c.args.places.now.items ++ places_from c.args.run.now.first.version (c.args.run.now.first.ordinal + c.min-from.result) n) end
    ∙ ap (λ t. c.args.places.now.items ++ t) (sym (piece_places c.args.run.now.first.version c.args.run.now.first.ordinal c.args.run.now.len c.args.piece.now.skip c.args.piece.now.take c.min-from.result (c.min-from.result + c.min.result)
    c.min-from.ensures (ap (λ n. c.min-from.result + n) c.min.ensures)))

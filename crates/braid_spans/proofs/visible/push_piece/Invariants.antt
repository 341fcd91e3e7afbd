use Rattle.std.proofs.Common.{◌≡◌, ◌+◌, ◌-◌, ◌≤◌, ◌++◌, vec_len, vec_capacity}
use Rattle.braid_spans.specs.SeenRuns.{places_from}
use Rattle.braid_spans.proofs.visible.push_piece.Given as goal

abbrev pub invariant-loop-k : goal.invariant-loop-k
invariant-loop-k l = record {
  items : l.places.items ≡ l.fn.places.items ++ places_from l.run.first.version (l.run.first.ordinal + l.from) (l.k - l.from);
  room : vec_len l.places + (l.to - l.k) ≤ vec_capacity l.places;
}

use Rattle.std.proofs.Common.{◌≡◌, ◌-◌, ◌<◌, ◌≤◌, length, take}
use Rattle.braid_spans.specs.SeenRuns.{places_from}
use Rattle.braid_spans.proofs.deleting.neighbours.Given as goal

abbrev pub invariant-loop-len : goal.invariant-loop-len
invariant-loop-len l = record {
  some : 0 < l.len;
  within : l.len ≤ length l.places;
  rising : take l.len l.places ≡ places_from l.first.version l.first.ordinal l.len;
}

abbrev pub decreases-loop-len : goal.decreases-loop-len
decreases-loop-len l = length l.places - l.len

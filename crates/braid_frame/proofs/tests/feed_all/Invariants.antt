use Rattle.std.proofs.Common.{◌≤◌, ◌-◌, List, take, length}
use Rattle.braid_change.specs.Updates.{UpdateView}
use Rattle.braid_frame.specs.Framing.{StandsFor, IsOpen}
use Rattle.braid_frame.proofs.tests.feed_all.Given as goal

abbrev pub invariant-loop-at : goal.invariant-loop-at
invariant-loop-at l = record {
  open_still : IsOpen l.framer;
  within : l.at ≤ length l.bytes;
  stands : (us : List UpdateView) × StandsFor us l.framer (take l.at l.bytes);
}

abbrev pub decreases-loop-at : goal.decreases-loop-at
decreases-loop-at l = length l.bytes - l.at

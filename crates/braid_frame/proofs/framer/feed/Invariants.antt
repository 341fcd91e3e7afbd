use Rattle.std.proofs.Common.{ℕ, ◌≤◌, ◌-◌, List, ◌++◌, take, length}
use Rattle.braid_change.specs.Updates.{UpdateView}
use Rattle.braid_frame.specs.Phases.{IsFraming}
use Rattle.braid_frame.specs.Framing.{StandsFor, IsOpen}
use Rattle.braid_frame.proofs.framer.feed.Given as goal

abbrev pub invariant-loop-taken : goal.invariant-loop-taken
invariant-loop-taken l = record {
  framing : IsFraming l.state;
  open_still : IsOpen l.state;
  within : l.taken ≤ length l.piece;
  stands : (us : List UpdateView) (b : List ℕ) → StandsFor us l.fn.state b → StandsFor us l.state (b ++ take l.taken l.piece);
}

abbrev pub decreases-loop-taken : goal.decreases-loop-taken
decreases-loop-taken l = length l.piece - l.taken

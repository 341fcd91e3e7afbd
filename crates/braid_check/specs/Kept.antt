-- What is kept of a stream's updates while it is read, and why reading stopped.
use Rattle.std.specs.Prelude.{◌≡◌, ℕ, ◌<◌, ◌≤◌, List, length}
use Rattle.braid_io.specs.Outside.{Intake, Moves}
use Rattle.braid_change.specs.Updates.{UpdateView}
use Rattle.braid_grammar.specs.Streams.{IsStream, IsTorn, HaveUpdates, BeginsWith}
use Rattle.braid_frame.specs.Phases.{HasFault}
use Rattle.braid_stream.specs.Pieces.{FailsBehind, EndsBehind}
use Rattle.braid_stream.specs.Readers.{most_bytes}
use Rattle.braid_graph.specs.Frontiers.{frontier_of}
use Rattle.braid_text.specs.Histories.{graph_of, IsLegal, elements_of, deletions_of}
use Rattle.braid_text.specs.Rooms.{replica_limits}
use Rattle.braid_text.specs.declared.accept.Accept.{Accept}
use Rattle.braid_check.specs.declared.stop.Stop.{Stop}
use Rattle.braid_check.specs.declared.stop.Stop.TheVariants as stops
use Rattle.braid_check.specs.Accepted.{AreAccepted, IsRefused, history_of, replica_answer}

-- a history is within the limits of a replica
pub record IsWithin (H : List UpdateView) : Type 0 where
  pub versions : length H ≤ replica_limits.versions
  pub elements : length (elements_of H) ≤ replica_limits.elements
  pub deletions : length (deletions_of H) ≤ replica_limits.deletions
  pub width : length (frontier_of (graph_of H)) ≤ replica_limits.width

-- a resource took these updates of a stream, each of which was accepted
pub record Keeps (us H : List UpdateView) : Type 0 where
  pub accepted : AreAccepted us
  pub history : H ≡ history_of us
  pub legal : IsLegal H
  pub within : IsWithin H

-- behind these updates the bytes have one that is refused with this answer
pub record RefusesOne (us : List UpdateView) (bytes : List ℕ) (answer : Accept) : Type 0 where
  pub update : UpdateView
  pub begins : BeginsWith us update bytes
  pub refused : IsRefused us update
  pub told : answer ≡ replica_answer (history_of us) update

-- why reading stopped, after these bytes with these updates
abbrev pub StopsFor : List UpdateView → List ℕ → Intake → Intake → Stop → Type 0
StopsFor us bytes before after stops.End = EndsBehind bytes before after × IsStream us bytes
    × (length bytes < most_bytes)
StopsFor us bytes before after (stops.Torn at) =
    EndsBehind bytes before after × HaveUpdates us bytes × IsTorn bytes × (at ≡ length bytes)
    × (length bytes < most_bytes)
StopsFor us bytes before after (stops.Fault f) = Moves bytes before after × HasFault us bytes f
    × (length bytes ≤ most_bytes)
StopsFor us bytes before after (stops.Refused answer) =
    Moves bytes before after × RefusesOne us bytes answer × (length bytes ≤ most_bytes)
StopsFor us bytes before after stops.ReadFault = FailsBehind bytes before after × HaveUpdates us bytes
    × (length bytes < most_bytes)
StopsFor us bytes before after stops.Spent = Moves bytes before after × HaveUpdates us bytes
    × (length bytes ≡ most_bytes)

-- a resource took updates from a source, up to where reading stopped
pub record ReadsHistory (H : List UpdateView) (stop : Stop) (before after : Intake) : Type 0 where
  pub updates : List UpdateView
  pub bytes : List ℕ
  pub keeps : Keeps updates H
  pub stops : StopsFor updates bytes before after stop

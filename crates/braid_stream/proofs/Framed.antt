-- What the framer's relation says of the bytes that it was fed.
use Rattle.std.proofs.Common.{ℕ, List, ◌++◌}
use Rattle.braid_change.specs.Updates.{UpdateView}
use Rattle.braid_grammar.specs.Streams.{HaveUpdates}
use Rattle.braid_frame.specs.declared.fed.FrameFault.{FrameFault}
use Rattle.braid_frame.specs.declared.state.State.{State}
use Rattle.braid_frame.specs.Phases.{HasFault}
use Rattle.braid_frame.specs.Framing.{StandsFor, IsOpen, Fails}
use Rattle.braid_frame.proofs.Meant as meant

-- a framer that goes on was fed bytes that complete its updates, and have no fault
pub framed_updates : (us : List UpdateView) (framer : State) (bytes : List ℕ) → StandsFor us framer bytes → IsOpen framer → HaveUpdates us bytes
framed_updates us framer bytes s o = record { completes = meant.completes us framer bytes s; faultless = meant.faultless us framer bytes s o }

-- one that failed was fed bytes that have the fault behind its updates
pub framed_fault : (us : List UpdateView) (bytes piece : List ℕ) (fault : FrameFault) (new : State) → Fails us bytes piece fault new → HasFault us (bytes ++ piece) fault
framed_fault us bytes piece fault new f = meant.failed_fault us new (bytes ++ piece) fault f.stands f.failed

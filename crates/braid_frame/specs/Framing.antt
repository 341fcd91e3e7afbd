-- What a framer that was fed bytes stands for, and what a feed answers.
use Rattle.std.specs.Prelude.{◌≡◌, ℕ, ◌<◌, ◌≤◌, List, [], ◌∷◌, ◌++◌, Option, Some, None, Result, Ok, Err, length, take}
use Rattle.braid_change.specs.Updates.{UpdateView}
use Rattle.braid_grammar.specs.Streams.{IsFault, IsFaultless, EndsWith}
use Rattle.braid_frame.specs.declared.fed.Fed.{Fed}
use Rattle.braid_frame.specs.declared.fed.FrameFault.{FrameFault}
use Rattle.braid_frame.specs.declared.fed.FeedFault.{FeedFault}
use Rattle.braid_frame.specs.declared.fed.FeedFault.TheVariants.{Frame, Memory}
use Rattle.braid_frame.specs.declared.state.Phase.TheVariants.{Faulted, NoMemory}
use Rattle.braid_frame.specs.declared.state.State.{State}
use Rattle.braid_frame.specs.Phases.{StandsAs, IsFraming, IsReading}

-- a framer has answered no fault and no want of memory
abbrev pub IsOpen : State → Type 0
IsOpen framer = IsReading framer.phase

-- a framer has answered this fault
abbrev pub HasFailed : State → FrameFault → Type 0
HasFailed framer fault = framer.phase ≡ Faulted fault

-- a framer has answered want of memory
abbrev pub HadNoMemory : State → Type 0
HadNoMemory framer = framer.phase ≡ NoMemory

-- a framer was fed these bytes, and has answered these updates
pub record StandsFor (us : List UpdateView) (framer : State) (bytes : List ℕ) : Type 0 where
  pub framing : IsFraming framer
  pub stands : StandsAs framer.phase us framer.at framer.kept.items bytes

-- the updates that a feed answered: none or one
abbrev pub updates_of : Option UpdateView → List UpdateView
updates_of None = []
updates_of (Some u) = u ∷ []

-- an update that was answered ends with the bytes
abbrev pub IfEnds : List UpdateView → Option UpdateView → List ℕ → Type 0
IfEnds us None bytes = Unit {0}
IfEnds us (Some u) bytes = EndsWith us u bytes

-- a feed that went on: it took a front of the piece, all of it where it answers no update, and else up to the update's
-- last byte
pub record Takes (us : List UpdateView) (bytes piece : List ℕ) (fed : Fed) (new : State) : Type 0 where
  pub within : fed.taken ≤ length piece
  pub some : 0 < length piece → 0 < fed.taken
  pub whole : fed.update ≡ None → fed.taken ≡ length piece
  pub found : IfEnds us fed.update (bytes ++ take fed.taken piece)
  pub faultless : IsFaultless (bytes ++ take fed.taken piece)
  pub open_still : IsOpen new
  pub stands : StandsFor (us ++ updates_of fed.update) new (bytes ++ take fed.taken piece)

-- a feed that failed: the bytes with the piece have this fault
pub record Fails (us : List UpdateView) (bytes piece : List ℕ) (f : FrameFault) (new : State) : Type 0 where
  pub fault : IsFault (bytes ++ piece) f.at f.reason
  pub failed : HasFailed new f
  pub stands : StandsFor us new (bytes ++ piece)

-- what a feed of a piece answers and leaves, after these bytes
abbrev pub Feeds : List UpdateView → List ℕ → List ℕ → Result Fed FeedFault → State → Type 0
Feeds us bytes piece (Ok fed) new = Takes us bytes piece fed new
Feeds us bytes piece (Err (Frame fault)) new = Fails us bytes piece fault new
Feeds us bytes piece (Err Memory) new = HadNoMemory new

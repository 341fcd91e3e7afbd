-- What one step of a framer leaves.
use Rattle.std.specs.Prelude.{◌≡◌, ℕ, ◌+◌, ◌<◌, ◌≤◌, ◌^◌, List, [], ◌++◌, Result, Ok, Err, length, take}
use Rattle.braid_change.specs.Updates.{UpdateView}
use Rattle.braid_fields.specs.declared.plan.PlanFault.{PlanFault}
use Rattle.braid_fields.specs.declared.plan.PlanFault.TheVariants as plans
use Rattle.braid_grammar.specs.Outcomes.{Outcome, Whole}
use Rattle.braid_grammar.specs.Readings.{next_at}
use Rattle.braid_grammar.specs.Streams.{IsStream}
use Rattle.braid_frame.specs.declared.fed.Fed.{Fed}
use Rattle.braid_frame.specs.declared.fed.FeedFault.{FeedFault}
use Rattle.braid_frame.specs.declared.fed.FeedFault.TheVariants.{Frame, Memory}
use Rattle.braid_frame.specs.declared.state.Phase.{Phase}
use Rattle.braid_frame.specs.declared.state.Phase.TheVariants.{Lines, Body, PatchLines, PatchContent, Faulted, NoMemory}
use Rattle.braid_frame.specs.declared.state.State.{State}
use Rattle.braid_frame.specs.HeadLines.{BeginsWithLine}
use Rattle.braid_frame.specs.Phases.{LeadsTo, StandsAs, IsReading, HasFault}
use Rattle.braid_frame.specs.Framing.{updates_of, IfEnds}

-- lines are being read, those of an update's head or of a patch's
abbrev pub IsInLines : Phase → Type 0
IsInLines Lines = Unit {0}
IsInLines (PatchLines p) = Unit {0}
IsInLines _ = ⊥

-- a content of so many bytes is being read
abbrev pub IsInContent : Phase → ℕ → Type 0
IsInContent (Body begun len) n = n ≡ len
IsInContent (PatchContent p plan) n = (n ≡ plan.len) × (p.used + plan.len < 2 ^ 32)
IsInContent _ n = ⊥

-- the lines of a patch's head are being read, after so many bytes of contents and a range that ended there
abbrev pub IsInPatchLines : Phase → ℕ → ℕ → Type 0
IsInPatchLines (PatchLines p) used before = (used ≡ p.used) × (before ≡ p.before)
IsInPatchLines _ used before = ⊥

-- nothing is kept
abbrev pub IsClean : State → Type 0
IsClean s = (s.kept.items ≡ []) × (s.line ≡ 0)

-- a head, or a content of it, has ended with the bytes, which are a stream of these updates and what is left over; the
-- update that this begins is read from what follows
pub record Resumes (us : List UpdateView) (reads : List ℕ → Outcome UpdateView) (at : ℕ) (bytes : List ℕ) : Type 0 where
  pub front : List ℕ
  pub rest : List ℕ
  pub stream : IsStream us front
  pub spelled : bytes ≡ front ++ rest
  pub place : at ≡ length bytes
  pub goes_on : (more : List ℕ) → next_at (length front) (rest ++ more) ≡ reads more
  pub begins : BeginsWithLine rest

-- the bytes are a stream of these updates and then, behind a gap, the whole of one more, which ends at a place
pub record Completed (us : List UpdateView) (u : UpdateView) (at : ℕ) (bytes : List ℕ) : Type 0 where
  pub front : List ℕ
  pub rest : List ℕ
  pub stream : IsStream us front
  pub whole : next_at (length front) rest ≡ Whole u at []
  pub spelled : bytes ≡ front ++ rest
  pub place : at ≡ length bytes

-- what is left where a line, a head or a content has ended with the bytes: the step took so much of its piece
abbrev pub Finishes : List UpdateView → List ℕ → ℕ → Result Fed FeedFault → State → Type 0
Finishes us bytes taken (Ok fed) new =
    (fed.taken ≡ taken) × StandsAs new.phase (us ++ updates_of fed.update) new.at new.kept.items bytes
    × IsReading new.phase × IfEnds us fed.update bytes
Finishes us bytes taken (Err (Frame f)) new = HasFault us bytes f × (new.phase ≡ Faulted f)
Finishes us bytes taken (Err Memory) new = new.phase ≡ NoMemory

-- what one step leaves, which takes some of its piece
pub record StepsOn (us : List UpdateView) (bytes piece : List ℕ) (fed : Fed) (new : State) : Type 0 where
  pub some : 0 < fed.taken
  pub within : fed.taken ≤ length piece
  pub stands : StandsAs new.phase (us ++ updates_of fed.update) new.at new.kept.items (bytes ++ take fed.taken piece)
  pub open_still : IsReading new.phase
  pub ends : IfEnds us fed.update (bytes ++ take fed.taken piece)

abbrev pub Steps : List UpdateView → List ℕ → List ℕ → Result Fed FeedFault → State → Type 0
Steps us bytes piece (Ok fed) new = StepsOn us bytes piece fed new
Steps us bytes piece (Err (Frame f)) new = HasFault us (bytes ++ piece) f × (new.phase ≡ Faulted f)
Steps us bytes piece (Err Memory) new = new.phase ≡ NoMemory

-- a head that asks for nothing is a fault at the head's place, or there was no memory
abbrev pub IsRefused : ℕ → PlanFault → FeedFault → State → Type 0
IsRefused at (plans.Reason r) fault new = (fault ≡ Frame (record { at = at; reason = r }))
    × (new.phase ≡ Faulted (record { at = at; reason = r }))
IsRefused at plans.Memory fault new = (fault ≡ Memory) × (new.phase ≡ NoMemory)

-- some updates and bytes lead to this phase
abbrev pub IsReached : Phase → ℕ → List ℕ → Type 0
IsReached phase at kept = (us : List UpdateView) × (b : List ℕ) × LeadsTo us phase at kept b

-- whatever updates and bytes lead to this phase
abbrev pub WhereReached : Phase → ℕ → List ℕ → (List UpdateView → List ℕ → Type 0) → Type 0
WhereReached phase at kept P = (us : List UpdateView) (b : List ℕ) → LeadsTo us phase at kept b → P us b

-- behind some updates and bytes what follows is read so
abbrev pub IsResumed : (List ℕ → Outcome UpdateView) → ℕ → Type 0
IsResumed reads at = (us : List UpdateView) × (b : List ℕ) × Resumes us reads at b

-- behind whatever updates and bytes what follows is read so
abbrev pub WhereResumed : (List ℕ → Outcome UpdateView) → ℕ → (List UpdateView → List ℕ → Type 0) → Type 0
WhereResumed reads at P = (us : List UpdateView) (b : List ℕ) → Resumes us reads at b → P us b

-- some updates and bytes end with this update
abbrev pub IsCompleted : UpdateView → ℕ → Type 0
IsCompleted u at = (us : List UpdateView) × (b : List ℕ) × Completed us u at b

-- whatever updates and bytes end with this update
abbrev pub WhereCompleted : UpdateView → ℕ → (List UpdateView → List ℕ → Type 0) → Type 0
WhereCompleted u at P = (us : List UpdateView) (b : List ℕ) → Completed us u at b → P us b

-- What the steps of one call of a reader leave.
use Rattle.std.specs.Prelude.{◌≡◌, ℕ, ◌<◌, ◌≤◌, List, [], ◌∷◌, ◌++◌, Option, Some, None, length}
use Rattle.braid_io.specs.Outside.{Intake, Moves}
use Rattle.braid_change.specs.Updates.{UpdateView}
use Rattle.braid_grammar.specs.Streams.{IsStream, HaveUpdates, BeginsWith, IsTorn}
use Rattle.braid_frame.specs.Phases.{HasFault}
use Rattle.braid_stream.specs.declared.next.Next.{Next}
use Rattle.braid_stream.specs.declared.next.Next.TheVariants.{Update, End, Torn, Fault, ReadFault, Spent, Memory}
use Rattle.braid_stream.specs.declared.next.Ended.{Ended}
use Rattle.braid_stream.specs.declared.next.Ended.TheVariants as ends
use Rattle.braid_stream.specs.declared.reading.Reading.{Reading}
use Rattle.braid_stream.specs.Readers.{most_bytes, GoesOn, HasEnded, HasTaken, HaveAnswer, IsCause, Leaves}

-- the answer of a reader that has ended
abbrev pub answer_of : Ended → Next
answer_of ends.End = End
answer_of (ends.Torn at) = Torn at
answer_of (ends.Fault f) = Fault f
answer_of ends.Spent = Spent
answer_of ends.Memory = Memory

-- all that is held was fed, or the bytes fed completed an update, have a fault, or there was no memory to feed them
abbrev pub FeedsHeld : List UpdateView → List ℕ → Option Next → Reading → Type 0
FeedsHeld us bytes None new = GoesOn new × (new.held ≡ []) × HasTaken us new bytes
FeedsHeld us bytes (Some (Update u)) new = GoesOn new × BeginsWith us u bytes × HasTaken (us ++ u ∷ []) new bytes
FeedsHeld us bytes (Some End) new = ⊥
FeedsHeld us bytes (Some (Torn at)) new = ⊥
FeedsHeld us bytes (Some (Fault f)) new = HasEnded new (Fault f) × HasFault us bytes f
FeedsHeld us bytes (Some ReadFault) new = ⊥
FeedsHeld us bytes (Some Spent) new = ⊥
FeedsHeld us bytes (Some Memory) new = HasEnded new Memory

-- a reader took bytes more, and goes on
pub record TakesMore (us : List UpdateView) (bytes : List ℕ) (new : Reading) (before after : Intake) : Type 0 where
  pub more : List ℕ
  pub moves : Moves more before after
  pub going : GoesOn new
  pub taken : HasTaken us new (bytes ++ more)

-- as far as one call has come, a reader took bytes more, and none where the answer was at hand
pub record TakesOn (us : List UpdateView) (bytes : List ℕ) (new : Reading) (before after : Intake) : Type 0 where
  pub taken : TakesMore us bytes new before after
  pub at_hand : HaveAnswer us bytes → taken.more ≡ []

-- bytes came; or an answer follows from those that there are
abbrev pub Refills : List UpdateView → List ℕ → Option Next → Reading → Intake → Intake → Type 0
Refills us bytes None new before after = TakesMore us bytes new before after
Refills us bytes (Some next) new before after = IsCause us [] bytes before after next × Leaves us bytes next new

-- more bytes were read, and no more than the limit
pub record Rises (old new : Reading) : Type 0 where
  pub rises : old.read < new.read
  pub within : new.read ≤ most_bytes

-- the bytes are a stream, or neither a stream nor at fault
abbrev pub EndsSource : List UpdateView → List ℕ → Next → Reading → Type 0
EndsSource us bytes (Update u) new = ⊥
EndsSource us bytes End new = HasEnded new End × IsStream us bytes
EndsSource us bytes (Torn at) new = HasEnded new (Torn at) × HaveUpdates us bytes × IsTorn bytes × (at ≡ length bytes)
EndsSource us bytes (Fault f) new = ⊥
EndsSource us bytes ReadFault new = ⊥
EndsSource us bytes Spent new = ⊥
EndsSource us bytes Memory new = ⊥

-- What a reader has taken of a stream, and what it answers next.
use Rattle.std.specs.Prelude.{◌≡◌, ℕ, ◌-◌, ◌+◌, ◌<◌, ◌≤◌, List, [], ◌∷◌, ◌++◌, Some, None, length}
use Rattle.braid_io.specs.Outside.{Intake, Moves}
use Rattle.braid_change.specs.Updates.{UpdateView}
use Rattle.braid_grammar.specs.Streams.{IsStream, HaveUpdates, BeginsWith, IsTorn}
use Rattle.braid_frame.specs.declared.fed.FrameFault.{FrameFault}
use Rattle.braid_frame.specs.Phases.{HasFault}
use Rattle.braid_frame.specs.Framing.{StandsFor, IsOpen}
use Rattle.braid_stream.specs.declared.next.Next.{Next}
use Rattle.braid_stream.specs.declared.next.Next.TheVariants.{Update, End, Torn, Fault, ReadFault, Spent, Memory}
use Rattle.braid_stream.specs.declared.next.Ended.TheVariants as ends
use Rattle.braid_stream.specs.declared.reading.Reading.{Reading}
use Rattle.braid_stream.specs.Pieces.{FailsBehind, EndsBehind}

-- the most bytes that are read of one stream
abbrev pub most_bytes : ℕ
most_bytes = 1_099_511_627_776

-- a reader has given no answer that it keeps for good
abbrev pub GoesOn : Reading → Type 0
GoesOn reader = reader.ended ≡ None

-- a reader has given this answer, and keeps it for good
abbrev pub HasEnded : Reading → Next → Type 0
HasEnded reader (Update u) = ⊥
HasEnded reader End = reader.ended ≡ Some ends.End
HasEnded reader (Torn at) = reader.ended ≡ Some (ends.Torn at)
HasEnded reader (Fault f) = reader.ended ≡ Some (ends.Fault f)
HasEnded reader ReadFault = ⊥
HasEnded reader Spent = reader.ended ≡ Some ends.Spent
HasEnded reader Memory = reader.ended ≡ Some ends.Memory

-- A reader that goes on has taken these bytes from its source, and has answered these updates: they are what its framer
-- stands for, followed by what it holds.
pub record HasTaken (us : List UpdateView) (reader : Reading) (bytes : List ℕ) : Type 0 where
  pub fed : List ℕ
  pub stands : StandsFor us reader.framer fed
  pub open_still : IsOpen reader.framer
  pub whole : bytes ≡ fed ++ reader.held
  pub count : reader.read ≡ length bytes
  pub within : length bytes ≤ most_bytes

-- how many bytes a reader may still feed to its framer, within the limit
abbrev pub budget : Reading → ℕ
budget reader = most_bytes - reader.read + length reader.held

-- what is true of every reader: it has ended, or has taken some bytes
abbrev pub IsReadable : Reading → Type 0
IsReadable reader = GoesOn reader → (us : List UpdateView) × (bytes : List ℕ) × HasTaken us reader bytes

-- the next answer is at hand: the bytes begin with these updates and then one more, or have a fault behind these
pub data HaveAnswer (us : List UpdateView) (bytes : List ℕ) : Type 0 where
  update : (u : UpdateView) → BeginsWith us u bytes → HaveAnswer us bytes
  fault : (f : FrameFault) → HasFault us bytes f → HaveAnswer us bytes

-- Why a reader gives an answer, when its source gave these bytes more and all of them are these:
-- an update is the next one that the bytes complete; the source ended, and all bytes are a stream, or are neither a
-- stream nor at fault; they have the fault; the source failed; the limit was read, and there was no end and no fault.
abbrev pub IsCause : List UpdateView → List ℕ → List ℕ → Intake → Intake → Next → Type 0
IsCause us more bytes before after (Update u) = Moves more before after × BeginsWith us u bytes
IsCause us more bytes before after End = EndsBehind more before after × IsStream us bytes × (length bytes < most_bytes)
IsCause us more bytes before after (Torn at) =
    EndsBehind more before after × HaveUpdates us bytes × IsTorn bytes × (at ≡ length bytes)
    × (length bytes < most_bytes)
IsCause us more bytes before after (Fault f) = Moves more before after × HasFault us bytes f
    × (length bytes ≤ most_bytes)
IsCause us more bytes before after ReadFault =
    FailsBehind more before after × HaveUpdates us bytes × (length bytes < most_bytes)
IsCause us more bytes before after Spent =
    Moves more before after × HaveUpdates us bytes × (length bytes ≡ most_bytes)
IsCause us more bytes before after Memory = Moves more before after × (length bytes ≤ most_bytes)

-- what an answer leaves: after an update, or a failed read, the reader goes on, and holds nothing after the latter; after
-- any other answer it has ended with it
abbrev pub Leaves : List UpdateView → List ℕ → Next → Reading → Type 0
Leaves us bytes (Update u) new = GoesOn new × HasTaken (us ++ u ∷ []) new bytes
Leaves us bytes End new = HasEnded new End
Leaves us bytes (Torn at) new = HasEnded new (Torn at)
Leaves us bytes (Fault f) new = HasEnded new (Fault f)
Leaves us bytes ReadFault new = GoesOn new × HasTaken us new bytes × (new.held ≡ [])
Leaves us bytes Spent new = HasEnded new Spent
Leaves us bytes Memory new = HasEnded new Memory

-- one call of a reader that goes on, which had taken these bytes: the source gave some bytes more, or none; and none
-- where the answer was at hand
pub record Answers (us : List UpdateView) (bytes : List ℕ) (next : Next) (new : Reading)
    (before after : Intake) : Type 0 where
  pub more : List ℕ
  pub at_hand : HaveAnswer us bytes → more ≡ []
  pub cause : IsCause us more (bytes ++ more) before after next
  pub leaves : Leaves us (bytes ++ more) next new

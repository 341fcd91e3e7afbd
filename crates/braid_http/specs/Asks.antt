-- What a wire holds, what it answers, and what it reads for that.
use Rattle.std.specs.Prelude.{◌≡◌, ◌≢◌, ℕ, ◌≤◌, ◌⊎◌, List, [], ◌++◌, length, Option, None, Some}
use Rattle.std.specs.Io.KnownBytes.{append_known, prepend_known, IsAtEnd}
use Rattle.braid_io.specs.Outside.{Intake, Moves, Rose}
use Rattle.braid_http.specs.declared.stop.Stop.{Stop}
use Rattle.braid_http.specs.declared.stop.Stop.TheVariants as stops
use Rattle.braid_http.specs.declared.request.Asked.{Asked}
use Rattle.braid_http.specs.declared.request.Asked.TheVariants.{Request, End, Refused, Torn, ReadFault, Memory}
use Rattle.braid_http.specs.Requests.{Answer, asked, refused, IsDecided, IsOpen}

-- a wire: the bytes read past the last message, and the answer that it gives for good, if there is one
pub record WireView : Type 0 where
  pub held : List ℕ
  pub over : Option Stop

-- nothing was read, or the bytes that were there before the last piece decided nothing
abbrev pub WasNeeded : List ℕ → List ℕ → Type 0
WasNeeded held got = (got ≡ [])
    ⊎ ((front piece : List ℕ) × (got ≡ front ++ piece) × (piece ≢ []) × IsOpen (held ++ front))

-- bytes were read onto those held, no more than were needed
pub record Took (held all : List ℕ) (old new : Intake) : Type 0 where
  pub got : List ℕ
  pub all_is : all ≡ held ++ got
  pub moves : Moves got old new
  pub needed : WasNeeded held got

-- the same, and then a read failed
pub record TookAndFailed (held all : List ℕ) (old new : Intake) : Type 0 where
  pub got : List ℕ
  pub all_is : all ≡ held ++ got
  pub taken : new.taken ≡ append_known old.taken got
  pub left : old.left ≡ prepend_known got new.left
  pub never_falls : old.faults ≤ new.faults
  pub rose : Rose old.faults new.faults
  pub needed : WasNeeded held got

-- the bytes read are answered: with the last of the front, which has at most 543,200,000 bytes; `kept` stands behind it
pub record Answers (x : Answer) (held kept : List ℕ) (old new : Intake) : Type 0 where
  pub all : List ℕ
  pub took : Took held all old new
  pub decided : IsDecided x all kept
  pub short : length decided.front ≤ 543_200_000

-- One answer of a wire that held these bytes and now keeps those: a request, which goes, and what is behind it stays;
-- the end of the source where no byte of a request has come; the refusal that the bytes decide; the end of the source
-- inside a request; a failed read; or want of memory, at which all but some front of the bytes is kept.
abbrev pub Asks : Asked → List ℕ → List ℕ → Intake → Intake → Type 0
Asks (Request q) held kept old new = Answers (asked q) held kept old new
Asks End held kept old new = Took held [] old new × (kept ≡ []) × IsAtEnd new.left
Asks (Refused f) held kept old new = (rest : List ℕ) × Answers (refused f) held rest old new
Asks Torn held kept old new = (all : List ℕ) × Took held all old new × (all ≢ []) × IsOpen all × IsAtEnd new.left
Asks ReadFault held kept old new = (all : List ℕ) × TookAndFailed held all old new × IsOpen all
Asks Memory held kept old new = (all passed : List ℕ) × Took held all old new × (all ≡ passed ++ kept)

-- the answer of each end
abbrev pub answer_of : Stop → Asked
answer_of stops.End = End
answer_of (stops.Refused f) = Refused f
answer_of stops.Torn = Torn
answer_of stops.ReadFault = ReadFault
answer_of stops.Memory = Memory

-- what a wire gives for good from an answer on: nothing after a request and after the end of the source
abbrev pub over_of : Asked → Option Stop
over_of (Request q) = None
over_of End = None
over_of (Refused f) = Some (stops.Refused f)
over_of Torn = Some stops.Torn
over_of ReadFault = Some stops.ReadFault
over_of Memory = Some stops.Memory

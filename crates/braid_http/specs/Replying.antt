-- What a wire answers where a reply is awaited, and what it reads for that.
use Rattle.std.specs.Prelude.{◌≡◌, ◌≢◌, ℕ, ◌≤◌, ◌⊎◌, List, [], ◌++◌, Result, Ok, Err, Option, None, Some}
use Rattle.std.specs.Io.KnownBytes.{append_known, prepend_known, IsAtEnd}
use Rattle.braid_io.specs.Outside.{Intake, Moves, Rose}
use Rattle.braid_http.specs.declared.stop.Stop.{Stop}
use Rattle.braid_http.specs.declared.stop.Stop.TheVariants as stops
use Rattle.braid_http.specs.declared.response.ReplyHead.{ReplyHead}
use Rattle.braid_http.specs.declared.response.Replied.{Replied}
use Rattle.braid_http.specs.declared.response.Replied.TheVariants.{Head, Refused, Torn, ReadFault, Memory}
use Rattle.braid_http.specs.Responses.{ReplyAnswer, replied, refused, IsReplyDecided, IsReplyOpen}

-- nothing was read, or the bytes that were there before the last piece decided no reply
abbrev pub WasNeededForReply : List ℕ → List ℕ → Type 0
WasNeededForReply held got =
    (got ≡ []) ⊎ ((front piece : List ℕ) × (got ≡ front ++ piece) × (piece ≢ []) × IsReplyOpen (held ++ front))

-- bytes were read onto those held, no more than a reply needed
pub record TookForReply (held all : List ℕ) (old new : Intake) : Type 0 where
  pub got : List ℕ
  pub all_is : all ≡ held ++ got
  pub moves : Moves got old new
  pub needed : WasNeededForReply held got

-- the same, and then a read failed
pub record TookForReplyAndFailed (held all : List ℕ) (old new : Intake) : Type 0 where
  pub got : List ℕ
  pub all_is : all ≡ held ++ got
  pub taken : new.taken ≡ append_known old.taken got
  pub left : old.left ≡ prepend_known got new.left
  pub never_falls : old.faults ≤ new.faults
  pub rose : Rose old.faults new.faults
  pub needed : WasNeededForReply held got

-- the bytes read are answered: with the last of the front; `kept` stands behind it
pub record AnswersReply (x : ReplyAnswer) (held kept : List ℕ) (old new : Intake) : Type 0 where
  pub all : List ℕ
  pub took : TookForReply held all old new
  pub decided : IsReplyDecided x all kept

-- One answer of a wire that held these bytes and now keeps those: a reply's head, which goes, and what is behind it
-- stays; the refusal that the bytes decide; the end of the source before a head was whole, also where no byte of it had
-- come; a failed read; or want of memory.
abbrev pub Replies : Replied → List ℕ → List ℕ → Intake → Intake → Type 0
Replies (Head head) held kept old new = AnswersReply (replied head) held kept old new
Replies (Refused f) held kept old new = (rest : List ℕ) × AnswersReply (refused f) held rest old new
Replies Torn held kept old new = TookForReply held kept old new × IsReplyOpen kept × IsAtEnd new.left
Replies ReadFault held kept old new = TookForReplyAndFailed held kept old new × IsReplyOpen kept
Replies Memory held kept old new = TookForReply held kept old new

-- the answer of each end; an end of the source is no end between replies
abbrev pub replied_of : Stop → Replied
replied_of stops.End = Torn
replied_of (stops.Refused f) = Refused f
replied_of stops.Torn = Torn
replied_of stops.ReadFault = ReadFault
replied_of stops.Memory = Memory

-- what a wire gives for good from an answer on: nothing after a head
abbrev pub over_of_reply : Replied → Option Stop
over_of_reply (Head head) = None
over_of_reply (Refused f) = Some (stops.Refused f)
over_of_reply Torn = Some stops.Torn
over_of_reply ReadFault = Some stops.ReadFault
over_of_reply Memory = Some stops.Memory

-- what was come by, as an answer
abbrev pub replied_by : Result ReplyHead Stop → Replied
replied_by (Ok head) = Head head
replied_by (Err stop) = replied_of stop

-- why a head that came gives no reply: it is refused, or there was no memory
abbrev pub JudgesReply : Stop → List ℕ → Type 0
JudgesReply stops.End bytes = ⊥
JudgesReply (stops.Refused f) bytes = (rest : List ℕ) × IsReplyDecided (refused f) bytes rest
JudgesReply stops.Torn bytes = ⊥
JudgesReply stops.ReadFault bytes = ⊥
JudgesReply stops.Memory bytes = Unit {0}

-- one answer by the steps of reading
abbrev pub GivesReply : Result ReplyHead Stop → List ℕ → List ℕ → Intake → Intake → Type 0
GivesReply result held kept old new = Replies (replied_by result) held kept old new

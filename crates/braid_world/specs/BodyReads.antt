-- What the steps show by which the updates of a body are read.
use Rattle.std.specs.Prelude.{◌≡◌, ◌<◌, ◌≤◌, ◌⊎◌, ◌+◌, ◌-◌, ◌*◌, ℕ, List, [], ◌∷◌, ◌++◌, Option, Some, None, length}
use Rattle.std.specs.Io.KnownBytes.{prepend_known}
use Rattle.braid_io.specs.Outside.{Intake, Rose}
use Rattle.braid_change.specs.Updates.{UpdateView}
use Rattle.braid_grammar.specs.Streams.{IsStream, HaveUpdates, IsTorn}
use Rattle.braid_frame.specs.Phases.{HasFault}
use Rattle.braid_stream.specs.Readers.{most_bytes, budget}
use Rattle.braid_stream.specs.declared.next.Next.{Next}
use Rattle.braid_stream.specs.declared.next.Next.TheVariants as nexts
use Rattle.braid_http.specs.declared.response.BodyKind.{BodyKind}
use Rattle.braid_http.specs.Bodies.{IsAgainst}
use Rattle.braid_sync.specs.Hearing.{HasData, BeginWith, seen, IsOver, IsCutOff}
use Rattle.braid_sync.specs.Steps.{StreamsOn}
use Rattle.braid_world.specs.declared.body_reading.BodyReading.{BodyReading}
use Rattle.braid_world.specs.declared.body_reading.Came.{Came}
use Rattle.braid_world.specs.declared.body_reading.Came.TheVariants as cames
use Rattle.braid_world.specs.declared.reading_back.Heard.{Heard}
use Rattle.braid_world.specs.declared.reading_back.Last.{Last}
use Rattle.braid_world.specs.declared.reading_back.Last.TheVariants.{Head, Stream, Memory}

-- a reading that goes on has answered these updates, of a body of which this data was taken, and these bytes passed
abbrev pub GoesOn : BodyReading → List UpdateView → List ℕ → List ℕ → Type 0
GoesOn r us content passed = StreamsOn r.wire r.body r.reader r.piece us content passed

-- how much is left to do: each byte is fed once, and each piece is taken up
abbrev pub work : BodyReading → ℕ
work r = 2 * budget r.reader + (1 - length r.piece.left)

-- the body is whole, or the source ended before
abbrev pub BodyEnds : BodyKind → List ℕ → List ℕ → List ℕ → Option (List ℕ) → Type 0
BodyEnds kind content passed rest left = IsOver kind content passed rest left ⊎ IsCutOff kind content passed rest left

-- Why there is no further update behind these, when the body's data in all is this, of the bytes passed: the body ends, and its
-- data is a stream of them, or ends within another one; its data has a fault; its bytes are against it, or a read of the link
-- failed; the limit of a stream; or want of memory.
abbrev pub EndsData : Next → BodyKind → List UpdateView → List ℕ → List ℕ → List ℕ → Intake → Intake → Type 0
EndsData (nexts.Update u) kind us content passed rest i j = ⊥
EndsData nexts.End kind us content passed rest i j = IsStream us content × BodyEnds kind content passed rest j.left
EndsData (nexts.Torn at) kind us content passed rest i j =
    HaveUpdates us content × IsTorn content × (at ≡ length content) × BodyEnds kind content passed rest j.left
EndsData (nexts.Fault f) kind us content passed rest i j = HasFault us (seen content) f
EndsData nexts.ReadFault kind us content passed rest i j =
    IsAgainst kind content passed ⊎ ((i.faults ≤ j.faults) × Rose i.faults j.faults)
EndsData nexts.Spent kind us content passed rest i j = most_bytes ≤ length content
EndsData nexts.Memory kind us content passed rest i j = Unit {0}

-- A reading ended with this answer: the link gave these bytes; of them and of those that the wire held some were passed, and
-- the data in them is more.
pub record Ended (next : Next) (old new : BodyReading) (us : List UpdateView) (content passed : List ℕ)
    (i j : Intake) : Type 0 where
  pub given : List ℕ
  pub used : List ℕ
  pub more : List ℕ
  pub left : i.left ≡ prepend_known given j.left
  pub whole : old.wire.held ++ given ≡ used ++ new.wire.held
  pub comes : HasData new.body.kind (content ++ more) (passed ++ used)
  pub ends : EndsData next new.body.kind us (content ++ more) (passed ++ used) new.wire.held i j

-- A reading went on, which has then answered these updates `vs`, and has less to do.
pub record Went (old new : BodyReading) (vs : List UpdateView) (content passed : List ℕ) (i j : Intake) : Type 0 where
  pub given : List ℕ
  pub used : List ℕ
  pub more : List ℕ
  pub left : i.left ≡ prepend_known given j.left
  pub faults : j.faults ≡ i.faults
  pub whole : old.wire.held ++ given ≡ used ++ new.wire.held
  pub on : GoesOn new vs (content ++ more) (passed ++ used)
  pub less : work new < work old

-- One step of a reading: another piece came; an update; or the end.
abbrev pub Steps : Came → BodyReading → BodyReading → List UpdateView → List ℕ → List ℕ → Intake → Intake → Type 0
Steps cames.Piece old new us content passed i j = Went old new us content passed i j
Steps (cames.Update u) old new us content passed i j =
    Went old new (us ++ u ∷ []) content passed i j × BeginWith (us ++ u ∷ []) (seen content)
Steps (cames.Last next) old new us content passed i j = Ended next old new us content passed i j

-- Data came from the body into a piece that was used up.
pub record Filled (old new : BodyReading) (us : List UpdateView) (content passed : List ℕ) (i j : Intake) : Type 0 where
  pub given : List ℕ
  pub used : List ℕ
  pub more : List ℕ
  pub left : i.left ≡ prepend_known given j.left
  pub faults : j.faults ≡ i.faults
  pub whole : old.wire.held ++ given ≡ used ++ new.wire.held
  pub on : GoesOn new us (content ++ more) (passed ++ used)
  pub reader : new.reader ≡ old.reader
  pub some : 0 < length new.piece.left

-- what the next read of the body brings where the piece is used up: data, or the end
abbrev pub Refilled : Option Next → BodyReading → BodyReading → List UpdateView → List ℕ → List ℕ → Intake → Intake
    → Type 0
Refilled None old new us content passed i j = Filled old new us content passed i j
Refilled (Some next) old new us content passed i j = Ended next old new us content passed i j

-- what the end of the data is behind these updates, where it holds all of them, no other one and no fault
abbrev pub AtEnd : Next → List UpdateView → List ℕ → Type 0
AtEnd (nexts.Update u) us content = ⊥
AtEnd nexts.End us content = IsStream us content
AtEnd (nexts.Torn at) us content = IsTorn content × (at ≡ length content)
AtEnd (nexts.Fault f) us content = ⊥
AtEnd nexts.ReadFault us content = ⊥
AtEnd nexts.Spent us content = ⊥
AtEnd nexts.Memory us content = Unit {0}

-- Why a whole reading ended, by its last answer.
abbrev pub EndsBody : Last → BodyKind → List UpdateView → List ℕ → List ℕ → List ℕ → Intake → Intake → Type 0
EndsBody (Head reply) kind us content passed rest i j = ⊥
EndsBody (Stream next) kind us content passed rest i j = EndsData next kind us content passed rest i j
EndsBody Memory kind us content passed rest i j = Unit {0}

-- The body of a reply was read, of a wire that held these bytes and of a link. Of them `passed` was taken as the body's, with
-- this data in it, and `rest` stands behind; the data begins with the updates that were read.
pub record ReadsBody (kind : BodyKind) (held : List ℕ) (heard : Heard) (i j : Intake) : Type 0 where
  pub given : List ℕ
  pub passed : List ℕ
  pub rest : List ℕ
  pub content : List ℕ
  pub left : i.left ≡ prepend_known given j.left
  pub split : held ++ given ≡ passed ++ rest
  pub comes : HasData kind content passed
  pub begins : BeginWith heard.updates (seen content)
  pub ends : EndsBody heard.last kind heard.updates content passed rest i j

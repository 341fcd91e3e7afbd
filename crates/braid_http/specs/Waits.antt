-- What is known while bytes are waited for.
use Rattle.std.specs.Prelude.{◌≡◌, ◌≢◌, ℕ, ◌<◌, List, [], ◌++◌, length, Result, Ok, Err}
use Rattle.braid_io.specs.Outside.{Intake}
use Rattle.httparse.specs.Grammar.{RequestHead}
use Rattle.braid_http.specs.declared.stop.Stop.{Stop}
use Rattle.braid_http.specs.declared.stop.Stop.TheVariants as stops
use Rattle.braid_http.specs.declared.request.Request.{Request as Requested}
use Rattle.braid_http.specs.declared.request.Asked.{Asked}
use Rattle.braid_http.specs.declared.request.Asked.TheVariants.{Request}
use Rattle.braid_http.specs.declared.held.More.TheVariants as mores
use Rattle.braid_http.specs.declared.reading.Ready.{Ready}
use Rattle.braid_http.specs.Heads.{HeadText, IsHead}
use Rattle.braid_http.specs.HeadReads.{Holds}
use Rattle.braid_http.specs.Chunks.{IsChunked}
use Rattle.braid_http.specs.Requests.{Says, refused, IsDecided, IsOpen}
use Rattle.braid_http.specs.Reads.{Grows}
use Rattle.braid_http.specs.Asks.{Took, Asks, answer_of}

-- a whole head stands at the front of the bytes, and this is what it says
pub record IsReady (ready : Ready) (bytes : List ℕ) : Type 0 where
  pub text : HeadText
  pub read : RequestHead
  pub front : List ℕ
  pub rest : List ℕ
  pub is : IsHead 16_384 front text
  pub says : Says text read ready.framing
  pub holds : Holds ready.head read
  pub used_is : ready.used ≡ length front
  pub whole : bytes ≡ front ++ rest

-- why a head that came gives no request: it is refused, or there was no memory
abbrev pub Judges : Stop → List ℕ → Type 0
Judges stops.End bytes = ⊥
Judges (stops.Refused f) bytes = (rest : List ℕ) × IsDecided (refused f) bytes rest
Judges stops.Torn bytes = ⊥
Judges stops.ReadFault bytes = ⊥
Judges stops.Memory bytes = Unit {0}

-- what an end is as an answer
abbrev pub Stops : Stop → List ℕ → List ℕ → Intake → Intake → Type 0
Stops stop held kept old new = Asks (answer_of stop) held kept old new

-- what was come by, as an answer
abbrev pub asked_by : Result Requested Stop → Asked
asked_by (Ok request) = Request request
asked_by (Err stop) = answer_of stop

abbrev pub Gives : Result Requested Stop → List ℕ → List ℕ → Intake → Intake → Type 0
Gives result held kept old new = Asks (asked_by result) held kept old new

-- why a read inside a request gave nothing
abbrev pub Breaks : Stop → List ℕ → List ℕ → Intake → Intake → Type 0
Breaks stops.End held kept old new = ⊥
Breaks (stops.Refused f) held kept old new = ⊥
Breaks stops.Torn held kept old new = Grows mores.End held kept old new
Breaks stops.ReadFault held kept old new = Grows mores.Failed held kept old new
Breaks stops.Memory held kept old new = Grows mores.Memory held kept old new

-- why a read for a head gave nothing
abbrev pub BreaksHead : Stop → List ℕ → List ℕ → Intake → Intake → Type 0
BreaksHead stops.End held kept old new = (held ≡ []) × Grows mores.End held kept old new
BreaksHead (stops.Refused f) held kept old new = ⊥
BreaksHead stops.Torn held kept old new = (held ≢ []) × Grows mores.End held kept old new
BreaksHead stops.ReadFault held kept old new = Grows mores.Failed held kept old new
BreaksHead stops.Memory held kept old new = Grows mores.Memory held kept old new

-- with fewer bytes than this nothing is decided
abbrev pub OpenBelow : ℕ → List ℕ → Type 0
OpenBelow whole held = (more : List ℕ) → length (held ++ more) < whole → IsOpen (held ++ more)

-- a chunked body was taken behind the head, and this is its data
pub record TookChunks (content : List ℕ) (head held kept : List ℕ) (old new : Intake) : Type 0 where
  pub all : List ℕ
  pub body : List ℕ
  pub took : Took held all old new
  pub is : IsChunked 2_097_152 content body
  pub whole : all ≡ (head ++ body) ++ kept

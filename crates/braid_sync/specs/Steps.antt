-- What the functions of the client show one another.
use Rattle.std.specs.Prelude.{◌≡◌, ◌≢◌, ◌<◌, ◌≤◌, ◌⊎◌, ℕ, List, [], ◌∷◌, ◌++◌, Option, Some, None, Result, Ok, Err, length, codes}
use Rattle.std.specs.Io.KnownBytes.{append_known, prepend_known}
use Rattle.braid_io.specs.Outside.{Intake, Outflow, Rose}
use Rattle.braid_change.specs.Updates.{UpdateView}
use Rattle.braid_grammar.specs.Streams.{IsStream, HaveUpdates, BeginsWith, IsTorn}
use Rattle.braid_frame.specs.Phases.{HasFault}
use Rattle.braid_stream.specs.declared.reading.Reading.{Reading}
use Rattle.braid_stream.specs.Readers.{most_bytes, budget, GoesOn, HasTaken}
use Rattle.braid_http.specs.declared.body.Body.{Body}
use Rattle.braid_http.specs.declared.body.BodyState.{BodyState}
use Rattle.braid_http.specs.declared.body.BodyState.TheVariants as states
use Rattle.braid_http.specs.declared.response.ReplyHead.{ReplyHead}
use Rattle.braid_http.specs.Asks.{WireView}
use Rattle.braid_http.specs.Bodies.{HasBegun}
use Rattle.braid_http.specs.BodyReads.{HasRead, GoesOn as LivesOn}
use Rattle.braid_http.specs.Responses.{replied, IsReplyDecided}
use Rattle.braid_outbox.specs.Replicas.{ReplicaView}
use Rattle.braid_sync.specs.declared.place.Place.{Place}
use Rattle.braid_sync.specs.declared.end.SyncEnd.{SyncEnd}
use Rattle.braid_sync.specs.declared.end.SyncEnd.TheVariants as ends
use Rattle.braid_sync.specs.declared.learn.Taken.{Taken}
use Rattle.braid_sync.specs.declared.learn.Taken.TheVariants as takens
use Rattle.braid_sync.specs.Pieces.{PieceView}
use Rattle.braid_sync.specs.declared.hear.Heard.{Heard}
use Rattle.braid_sync.specs.declared.hear.Heard.TheVariants as heards
use Rattle.braid_sync.specs.declared.hear.Stream.{Stream}
use Rattle.braid_sync.specs.Talks.{Said, Failing, nothing_failed, dial_failed, read_failed, write_failed, print_failed}
use Rattle.braid_sync.specs.Learning.{refusal_end, answer_to, learnt, Refuses}
use Rattle.braid_sync.specs.Hearing.{HasData, HaveAll, BeginWith, seen, IsOver, IsCutOff, IsBadChunk}
use Rattle.braid_sync.specs.Opening.{EndsHead}
use Rattle.braid_sync.specs.Posting.{IsReply, EndsReply}
use Rattle.braid_sync.specs.Syncs.{failing}
use Rattle.braid_sync.specs.Follows.{answer_word}

-- the counts of failed reads and of failed writes of a link rose only as this call failed, which is no dial
abbrev pub RoseOn : Failing → ℕ → ℕ → ℕ → ℕ → Type 0
RoseOn nothing_failed i j o p = (j ≡ i) × (p ≡ o)
RoseOn dial_failed i j o p = ⊥
RoseOn read_failed i j o p = (i ≤ j) × Rose i j × (p ≡ o)
RoseOn write_failed i j o p = (j ≡ i) × (o ≤ p) × Rose o p
RoseOn print_failed i j o p = (j ≡ i) × (p ≡ o)

-- the word of what was learnt
abbrev pub taken_word : Taken → List ℕ
taken_word takens.New = codes "New"
taken_word takens.Known = codes "Known"
taken_word takens.Confirmed = codes "Confirmed"

-- What a link did since it was new, or since some moment: it gave these bytes and took those, has these left, and its counts
-- rose only as this call failed.
pub record Does (sent given : List ℕ) (failed : Failing) (i j : Intake) (o p : Outflow) : Type 0 where
  pub taken : j.taken ≡ append_known i.taken given
  pub left : i.left ≡ prepend_known given j.left
  pub written : p.written ≡ append_known o.written sent
  pub counts : RoseOn failed i.faults j.faults o.faults p.faults

-- what was said on a link that did this
abbrev pub said_on : Place → List ℕ → List ℕ → Intake → Said
said_on place sent given j = record { server = place.server; sent = sent; given = given; left = j.left }

-- the end that a result is: none where it goes on
abbrev pub end_of : {A : Type 0} → Result A SyncEnd → Option SyncEnd
end_of (Ok x) = None
end_of (Err end) = Some end

-- which call failed, where a result says that one did
abbrev pub failing_in : {A : Type 0} → Result A SyncEnd → Failing
failing_in (Ok x) = nothing_failed
failing_in (Err end) = failing end

-- a head that was judged; want of memory may come for any
abbrev pub Judges : Result (List (List ℕ)) SyncEnd → Result (List (List ℕ)) SyncEnd → Type 0
Judges (Ok V) judged = judged ≡ Ok V
Judges (Err end) judged = (judged ≡ Err end) ⊎ (end ≡ ends.Memory)

-- an update that was learnt, and the replica that this leaves; one that is refused leaves it as it was
abbrev pub Takes : Result Taken SyncEnd → ReplicaView → UpdateView → ReplicaView → Type 0
Takes (Ok taken) r u q = (refusal_end (answer_to r u) ≡ None) × (taken_word taken ≡ answer_word (answer_to r u))
    × (q ≡ learnt r u)
Takes (Err end) r u q = (Refuses r u end ⊎ (end ≡ ends.Memory)) × (q ≡ r)

-- the head of a reply was read of a wire that held these bytes: it stands at the front of those and of the bytes given
abbrev pub ReadsHead : Result ReplyHead SyncEnd → List ℕ → List ℕ → List ℕ → Option (List ℕ) → Type 0
ReadsHead (Ok head) held given kept left = IsReplyDecided (replied head) (held ++ given) kept
ReadsHead (Err end) held given kept left =
    ((server sent : List ℕ)
    → EndsHead end (record { server = server; sent = sent; given = held ++ given; left = left }))
    ⊎ (end ≡ ends.Memory)

-- a reply was read whole of a wire that held these bytes
abbrev pub ReadsReply : Result ℕ SyncEnd → List ℕ → List ℕ → List ℕ → Option (List ℕ) → Type 0
ReadsReply (Ok status) held given kept left = IsReply status (held ++ given) kept left
ReadsReply (Err end) held given kept left =
    (EndsReply end (held ++ given) left × ((status : ℕ) → end ≢ ends.Peer status)) ⊎ (end ≡ ends.Memory)

-- A stream of updates that goes on. Behind the head of its reply `passed` was taken as the body's, with this data in it; its
-- reader has taken the first of the data and answered these updates, and the piece has the rest of the data.
pub record StreamsOn (wire : WireView) (body : Body) (reader : Reading) (piece : PieceView) (us : List UpdateView)
    (content passed : List ℕ) : Type 0 where
  pub taken : List ℕ
  pub content_is : content ≡ taken ++ piece.left
  pub has : HasTaken us reader taken
  pub going : GoesOn reader
  pub read : HasRead body content passed
  pub live : LivesOn body.state body.kind
  pub wire_open : wire.over ≡ None

-- a stream goes on, behind some updates
abbrev pub IsGoing : Stream → Type 0
IsGoing s = (us : List UpdateView) × (content : List ℕ) × (passed : List ℕ)
    × StreamsOn s.wire s.body s.reader s.piece us content passed

-- What a reader that has taken these bytes answers of those and of the ones that the piece has left; `all` is both. No answer
-- is at hand, and all are taken; an update, and some are left; a fault; the limit; or want of memory. A piece has no end.
abbrev pub AtHand : Option Heard → Reading → Reading → PieceView → List UpdateView → List ℕ → List ℕ → Type 0
AtHand None old new rest us taken all = HasTaken us new all × GoesOn new × (rest.left ≡ []) × HaveAll us all
AtHand (Some (heards.Update u)) old new rest us taken all =
    (front : List ℕ) × HasTaken (us ++ u ∷ []) new (taken ++ front) × GoesOn new × (all ≡ (taken ++ front) ++ rest.left)
    × BeginsWith us u (taken ++ front) × (budget new < budget old)
AtHand (Some heards.Whole) old new rest us taken all = ⊥
AtHand (Some heards.Cut) old new rest us taken all = ⊥
AtHand (Some heards.BadChunk) old new rest us taken all = ⊥
AtHand (Some (heards.Fault f)) old new rest us taken all = HasFault us (seen all) f
AtHand (Some heards.ReadFault) old new rest us taken all = ⊥
AtHand (Some heards.Spent) old new rest us taken all = HaveUpdates us (seen all) × (most_bytes ≤ length all)
AtHand (Some heards.Memory) old new rest us taken all = Unit {0}

-- What a reader answers behind the end of the data, which completes these updates and has no fault: it is a stream, or ends
-- within an update; or there was no memory.
abbrev pub AtEnd : Heard → List UpdateView → List ℕ → Type 0
AtEnd (heards.Update u) us all = ⊥
AtEnd heards.Whole us all = IsStream us all
AtEnd heards.Cut us all = IsTorn all
AtEnd heards.BadChunk us all = ⊥
AtEnd (heards.Fault f) us all = ⊥
AtEnd heards.ReadFault us all = ⊥
AtEnd heards.Spent us all = ⊥
AtEnd heards.Memory us all = Unit {0}

-- why a read of a body failed, by the state that it left
abbrev pub Fails : Heard → BodyState → Type 0
Fails heard states.Open = heard ≡ heards.Cut
Fails heard states.Done = heard ≡ heards.Cut
Fails heard states.Torn = heard ≡ heards.Cut
Fails heard states.BadChunk = heard ≡ heards.BadChunk
Fails heard states.SourceFailed = heard ≡ heards.ReadFault

-- What comes next of a stream that had answered these updates, when the body's data in all is this, of the bytes passed: an
-- update, behind which the stream goes on; the end of the body, whose data is these updates, or ends within another; the end
-- of the source before the body is whole; bytes against the body; a fault of the data; a failed read; the limit; or want of
-- memory.
abbrev pub IsHeard : Heard → WireView → Body → Reading → PieceView → List UpdateView → List ℕ → List ℕ → Intake → Type 0
IsHeard (heards.Update u) wire body reader piece us content passed j =
    StreamsOn wire body reader piece (us ++ u ∷ []) content passed × BeginWith (us ++ u ∷ []) (seen content)
IsHeard heards.Whole wire body reader piece us content passed j =
    IsStream us content × (length content < most_bytes) × IsOver body.kind content passed wire.held j.left
IsHeard heards.Cut wire body reader piece us content passed j =
    HaveAll us content
    × ((IsOver body.kind content passed wire.held j.left × IsTorn content)
    ⊎ IsCutOff body.kind content passed wire.held j.left)
IsHeard heards.BadChunk wire body reader piece us content passed j = IsBadChunk body.kind us content passed
IsHeard (heards.Fault f) wire body reader piece us content passed j = HasFault us (seen content) f
IsHeard heards.ReadFault wire body reader piece us content passed j = HaveAll us content
    × HasBegun body.kind content passed × (wire.held ≡ [])
IsHeard heards.Spent wire body reader piece us content passed j = HaveUpdates us (seen content)
    × (most_bytes ≤ length content)
IsHeard heards.Memory wire body reader piece us content passed j = Unit {0}

-- which call failed, where what is heard says that one did
abbrev pub failing_heard : Heard → Failing
failing_heard (heards.Update u) = nothing_failed
failing_heard heards.Whole = nothing_failed
failing_heard heards.Cut = nothing_failed
failing_heard heards.BadChunk = nothing_failed
failing_heard (heards.Fault f) = nothing_failed
failing_heard heards.ReadFault = read_failed
failing_heard heards.Spent = nothing_failed
failing_heard heards.Memory = nothing_failed

-- One call of a stream that goes on: the link gave these bytes; of them and of those that the wire held some were passed, and
-- the data in them is more; and this is heard.
pub record StreamsNext (heard : Heard) (old new : Stream) (us : List UpdateView) (content passed : List ℕ)
    (i j : Intake) (o p : Outflow) : Type 0 where
  pub given : List ℕ
  pub used : List ℕ
  pub more : List ℕ
  pub does : Does [] given (failing_heard heard) i j o p
  pub whole : old.wire.held ++ given ≡ used ++ new.wire.held
  pub comes : HasData new.body.kind (content ++ more) (passed ++ used)
  pub hears : IsHeard heard new.wire new.body new.reader new.piece us (content ++ more) (passed ++ used) j

-- what is heard is no update
abbrev pub IsLast : Heard → Type 0
IsLast (heards.Update u) = ⊥
IsLast heards.Whole = Unit {0}
IsLast heards.Cut = Unit {0}
IsLast heards.BadChunk = Unit {0}
IsLast (heards.Fault f) = Unit {0}
IsLast heards.ReadFault = Unit {0}
IsLast heards.Spent = Unit {0}
IsLast heards.Memory = Unit {0}

-- the next data of a body was taken for the piece, all of whose bytes were used: some has come, and the stream goes on; or
-- there is an answer, which is no update
abbrev pub Refills : Option Heard → Stream → Stream → List UpdateView → List ℕ → List ℕ → Intake → Intake → Outflow
    → Outflow → Type 0
Refills None old new us content passed i j o p =
    (given : List ℕ) × (used : List ℕ) × (more : List ℕ) × Does [] given nothing_failed i j o p
    × (old.wire.held ++ given ≡ used ++ new.wire.held)
    × StreamsOn new.wire new.body new.reader new.piece us (content ++ more) (passed ++ used) × (more ≢ [])
Refills (Some heard) old new us content passed i j o p = IsLast heard
    × StreamsNext heard old new us content passed i j o p

-- an update costs a reader of a stream bytes that it may read, or bytes that it holds
abbrev pub Costs : Reading → Reading → Type 0
Costs old new = (new.read ≤ most_bytes)
    × ((old.read < new.read) ⊎ ((new.read ≡ old.read) × (length new.held < length old.held)))

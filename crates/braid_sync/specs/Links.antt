-- What the functions of the client show one another of whole links, of a dialer, and of what is printed.
use Rattle.std.specs.Prelude.{◌≡◌, ◌<◌, ◌⊎◌, ℕ, List, [], ◌∷◌, ◌++◌, Option, Some, None, Result, Ok, Err, length}
use Rattle.braid_io.specs.Outside.{Intake, Outflow, WritesAll, WritesPart}
use Rattle.braid_io.specs.Dialers.{Talk, Dialing, Reaches}
use Rattle.braid_change.specs.Updates.{UpdateView}
use Rattle.braid_stream.specs.Readers.{most_bytes}
use Rattle.braid_http.specs.declared.refusal.Refusal.TheVariants.{BadChunk as Against}
use Rattle.braid_http.specs.declared.response.BodyKind.{BodyKind}
use Rattle.braid_http.specs.declared.body.BodyState.{BodyState}
use Rattle.braid_http.specs.declared.body.BodyState.TheVariants as states
use Rattle.braid_http.specs.Bodies.{HasBegun, IsAgainst}
use Rattle.braid_outbox.specs.Replicas.{ReplicaView}
use Rattle.braid_sync.specs.declared.place.Place.{Place}
use Rattle.braid_sync.specs.declared.end.SyncEnd.{SyncEnd}
use Rattle.braid_sync.specs.declared.end.SyncEnd.TheVariants as ends
use Rattle.braid_sync.specs.declared.hear.Heard.{Heard}
use Rattle.braid_sync.specs.declared.hear.Heard.TheVariants as heards
use Rattle.braid_sync.specs.declared.opening.Subscription.{Subscription}
use Rattle.braid_sync.specs.Talks.{Said, TellAll, Gains, Failing, FailedBy}
use Rattle.braid_sync.specs.Learning.{answer_to, learnt, refusal_end, Refuses}
use Rattle.braid_sync.specs.Hearing.{IsOver, IsCutOff}
use Rattle.braid_sync.specs.Opening.{Opens, opened, ended, IsFrontOf, IsPartOf}
use Rattle.braid_sync.specs.Posting.{put_text, IsReply, EndsReply, IsWithin, IsHeadOf, Confirms}
use Rattle.braid_sync.specs.Syncs.{failing, SyncText, IsTo}
use Rattle.braid_sync.specs.Follows.{FollowText, Prints, line_of}
use Rattle.braid_sync.specs.Steps.{StreamsOn, failing_in}

-- a subscription was begun on a link: its stream stands behind the head, or there is an end
abbrev pub OpensOn : Place → ReplicaView → Said → Result Subscription SyncEnd → Type 0
OpensOn place r said (Ok s) =
    Opens place r said (opened s.stream.body.kind s.current s.stream.wire.held)
    × StreamsOn s.stream.wire s.stream.body s.stream.reader s.stream.piece [] [] []
OpensOn place r said (Err end) = Opens place r said (ended end)

-- what a sync makes of what is heard: an update, or an end
abbrev pub HeardInSync : Result UpdateView SyncEnd → Heard → Type 0
HeardInSync result (heards.Update u) = result ≡ Ok u
HeardInSync result heards.Whole = result ≡ Err ends.Cut
HeardInSync result heards.Cut = result ≡ Err ends.Cut
HeardInSync result heards.BadChunk = result ≡ Err (ends.BadHead Against)
HeardInSync result (heards.Fault f) = result ≡ Err (ends.BadStream f)
HeardInSync result heards.ReadFault = result ≡ Err ends.ReadFault
HeardInSync result heards.Spent = result ≡ Err ends.Spent
HeardInSync result heards.Memory = result ≡ Err ends.Memory

-- what a follow makes of it: where the body is whole and its data a stream, there is no update and no end
abbrev pub HeardInFollow : Result (Option UpdateView) SyncEnd → Heard → Type 0
HeardInFollow result (heards.Update u) = result ≡ Ok (Some u)
HeardInFollow result heards.Whole = result ≡ Ok None
HeardInFollow result heards.Cut = result ≡ Err ends.Cut
HeardInFollow result heards.BadChunk = result ≡ Err (ends.BadHead Against)
HeardInFollow result (heards.Fault f) = result ≡ Err (ends.BadStream f)
HeardInFollow result heards.ReadFault = result ≡ Err ends.ReadFault
HeardInFollow result heards.Spent = result ≡ Err ends.Spent
HeardInFollow result heards.Memory = result ≡ Err ends.Memory

-- what a failed read of a body is as an end, by the state that it left
abbrev pub EndsAs : SyncEnd → BodyState → Type 0
EndsAs end states.Open = end ≡ ends.Cut
EndsAs end states.Done = end ≡ ends.Cut
EndsAs end states.Torn = end ≡ ends.Cut
EndsAs end states.BadChunk = end ≡ ends.BadHead Against
EndsAs end states.SourceFailed = end ≡ ends.ReadFault

-- a body was passed: it is whole at the front of these bytes; or an end came
abbrev pub PassesBody : Result (Unit {0}) SyncEnd → BodyKind → List ℕ → List ℕ → Option (List ℕ) → Type 0
PassesBody (Ok x) kind bytes rest left =
    (content passed : List ℕ) × (bytes ≡ passed ++ rest) × IsOver kind content passed rest left × IsWithin kind content
PassesBody (Err ends.Cut) kind bytes rest left =
    (content passed : List ℕ) × (bytes ≡ passed ++ rest) × IsCutOff kind content passed rest left
    × (length content < most_bytes)
PassesBody (Err (ends.BadHead f)) kind bytes rest left =
    (content passed : List ℕ) × (bytes ≡ passed ++ rest) × (f ≡ Against) × IsAgainst kind content passed
    × (length content < most_bytes)
PassesBody (Err ends.ReadFault) kind bytes rest left =
    (content passed : List ℕ) × (bytes ≡ passed ++ rest) × HasBegun kind content passed × (rest ≡ [])
    × (length content < most_bytes)
PassesBody (Err ends.Spent) kind bytes rest left =
    (content passed : List ℕ) × (bytes ≡ passed ++ rest) × HasBegun kind content passed × (length content ≡ most_bytes)
PassesBody (Err end) kind bytes rest left = ⊥

-- One PUT of the first unsent update u, of which `sent` was sent, and of the bytes that the wire held and those given the
-- reply was read: it was taken and is confirmed; or an end came, and the replica is as it was.
abbrev pub PostsOf : Place → ReplicaView → Result (Unit {0}) SyncEnd → List ℕ → List ℕ → List ℕ → Option (List ℕ)
    → ReplicaView → UpdateView → Type 0
PostsOf place r (Ok x) sent bytes rest left q u = (sent ≡ put_text place u) × IsReply 200 bytes rest left
    × Confirms r (u ∷ []) q
PostsOf place r (Err ends.WriteFault) sent bytes rest left q u = (q ≡ r) × IsPartOf sent (put_text place u)
    × (bytes ≡ rest)
PostsOf place r (Err ends.Memory) sent bytes rest left q u = (q ≡ r) × IsFrontOf sent (put_text place u)
PostsOf place r (Err end) sent bytes rest left q u = (q ≡ r) × (sent ≡ put_text place u) × EndsReply end bytes left

abbrev pub PostsOne : Place → ReplicaView → Result (Unit {0}) SyncEnd → List ℕ → List ℕ → List ℕ → Option (List ℕ)
    → ReplicaView → Type 0
PostsOne place r result sent bytes rest left q =
    (u : UpdateView) × IsHeadOf r u × PostsOf place r result sent bytes rest left q u

-- One dial to the server of a place: a link that is up; or an end, at which the dialer gained nothing.
abbrev pub DialsTo : {K : Type 0} → (K → Intake) → (K → Outflow) → Place → Result K SyncEnd → Dialing → Dialing → Type 0
DialsTo intake outflow place (Ok link) old new = Reaches place.server (intake link) (outflow link) old new
DialsTo intake outflow place (Err end) old new = ((end ≡ ends.DialFault) ⊎ (end ≡ ends.Memory)) × Gains [] old new
    × FailedBy (failing end) [] old new

-- one link was dialled to the server of a place and hung up, of which P is true
pub record TalksOnce (place : Place) (failed : Failing) (P : Said → Type 0) (old new : Dialing) : Type 0 where
  pub talk : Talk
  pub said : Said
  pub to : IsTo place said
  pub gains : Gains (talk ∷ []) old new
  pub told : TellAll (talk ∷ []) (said ∷ [])
  pub failed_is : FailedBy failed (talk ∷ []) old new
  pub holds : P said

-- one link was dialled and hung up; or none could be dialled, and all beside the dialer is as it was
abbrev pub Talks : {A : Type 0} → Place → Result A SyncEnd → (Said → Type 0) → Type 0 → Dialing → Dialing → Type 0
Talks place result P kept old new =
    TalksOnce place (failing_in result) P old new
    ⊎ (kept × ((result ≡ Err ends.DialFault) ⊎ (result ≡ Err ends.Memory)) × Gains [] old new
    × FailedBy (failing_in result) [] old new)

-- a sync, as it stands when it ends: Ok is Done
abbrev pub end_in_sync : Result (Unit {0}) SyncEnd → SyncEnd
end_in_sync (Ok x) = ends.Done
end_in_sync (Err end) = end

pub record SyncsAs (place : Place) (r q : ReplicaView) (result : Result (Unit {0}) SyncEnd)
    (old new : Dialing) : Type 0 where
  pub talks : List Talk
  pub saids : List Said
  pub gains : Gains talks old new
  pub told : TellAll talks saids
  pub failed : FailedBy (failing_in result) talks old new
  pub text : SyncText place r saids q (end_in_sync result)

-- a line was written whole, or a front of it and not all
abbrev pub PrintsOne : Result (Unit {0}) SyncEnd → List ℕ → Outflow → Outflow → Type 0
PrintsOne (Ok x) line old new = WritesAll line old new
PrintsOne (Err end) line old new = (end ≡ ends.OutFault) × WritesPart line old new

-- an update was learnt and its line printed; or was learnt and its line was not written whole; or was not learnt
abbrev pub LearnsAndPrints : Result (Unit {0}) SyncEnd → ReplicaView → UpdateView → ReplicaView → Outflow → Outflow
    → Type 0
LearnsAndPrints (Ok x) r u q old new = (refusal_end (answer_to r u) ≡ None) × (q ≡ learnt r u)
    × WritesAll (line_of r u) old new
LearnsAndPrints (Err ends.OutFault) r u q old new = (refusal_end (answer_to r u) ≡ None) × (q ≡ learnt r u)
    × WritesPart (line_of r u) old new
LearnsAndPrints (Err end) r u q old new = (Refuses r u end ⊎ (end ≡ ends.Memory)) × (q ≡ r) × (new ≡ old)

-- a follow on a link, or over a dialer: its text, and what was printed of it
pub record FollowsOn (place : Place) (count : ℕ) (r : ReplicaView) (said : Said) (result : Result (Unit {0}) SyncEnd)
    (n : ℕ) (q : ReplicaView) (out_old out_new : Outflow) : Type 0 where
  pub lines : List ℕ
  pub line : List ℕ
  pub text : FollowText place count r (said ∷ []) lines n line q (end_in_sync result)
  pub printed : Prints lines line out_old out_new

pub record FollowsOver (place : Place) (count : ℕ) (r q : ReplicaView) (result : Result (Unit {0}) SyncEnd) (n : ℕ)
    (old new : Dialing) (out_old out_new : Outflow) : Type 0 where
  pub talks : List Talk
  pub saids : List Said
  pub lines : List ℕ
  pub line : List ℕ
  pub gains : Gains talks old new
  pub told : TellAll talks saids
  pub failed : FailedBy (failing_in result) talks old new
  pub text : FollowText place count r saids lines n line q (end_in_sync result)
  pub printed : Prints lines line out_old out_new

-- How a subscription is begun on a link: what is sent, and how the head of its reply is judged.
use Rattle.std.specs.Prelude.{◌≡◌, ◌≢◌, ℕ, List, [], ◌++◌, Ok, Err}
use Rattle.std.specs.Io.KnownBytes.{IsAtEnd}
use Rattle.braid_fields.specs.Places.{IsServer, IsPath}
use Rattle.braid_http.specs.declared.call.Call.TheVariants.{Subscribe}
use Rattle.braid_http.specs.declared.response.ReplyHead.{ReplyHead}
use Rattle.braid_http.specs.declared.response.BodyKind.{BodyKind}
use Rattle.braid_http.specs.Calls.{request_text}
use Rattle.braid_http.specs.Responses.{replied, refused, IsReplyDecided, IsReplyOpen}
use Rattle.braid_outbox.specs.Replicas.{ReplicaView, resume_of}
use Rattle.braid_sync.specs.declared.place.Place.{Place}
use Rattle.braid_sync.specs.declared.end.SyncEnd.{SyncEnd}
use Rattle.braid_sync.specs.declared.end.SyncEnd.TheVariants as ends
use Rattle.braid_sync.specs.Talks.{Said}
use Rattle.braid_sync.specs.Judging.{judge}

-- a place that may be asked: the address of a server, and a path
pub record IsPlace (place : Place) : Type 0 where
  pub server : IsServer place.server
  pub path : IsPath place.path

-- the bytes that ask for the updates which a replica has not confirmed
abbrev pub subscription_text : Place → ReplicaView → List ℕ
subscription_text place r = request_text (Subscribe place.server place.path (resume_of r))

-- the bytes were sent in part, and not whole
abbrev pub IsPartOf : List ℕ → List ℕ → Type 0
IsPartOf sent text = (rest : List ℕ) × (rest ≢ []) × (text ≡ sent ++ rest)

-- some of the bytes were sent, or all
abbrev pub IsFrontOf : List ℕ → List ℕ → Type 0
IsFrontOf sent text = (rest : List ℕ) × (text ≡ sent ++ rest)

-- Why no head of a reply came: the bytes given are refused; the source has ended before they decide one; a read failed
-- before they do.
abbrev pub EndsHead : SyncEnd → Said → Type 0
EndsHead ends.Cut said = IsReplyOpen said.given × IsAtEnd said.left
EndsHead (ends.BadHead f) said = (rest : List ℕ) × IsReplyDecided (refused f) said.given rest
EndsHead ends.ReadFault said = IsReplyOpen said.given
EndsHead end said = ⊥

-- how a subscription is begun: a reply is open to be read, with its kind of body, the version that its head names as the
-- current one, and what was given behind the head; or there is an end
pub data Begun : Type 0 where
  opened : BodyKind → List (List ℕ) → List ℕ → Begun
  ended : SyncEnd → Begun

-- A subscription is begun on a link. In the order of the rows: the request could not be written whole, and nothing was read;
-- it was sent and no head came; a head came and is judged to be an end; or it names the current version; or there was no
-- memory at some point, and a part of the request was sent, or all of it.
pub data Opens (place : Place) (r : ReplicaView) (said : Said) : Begun → Type 0 where
  unwritten : IsPartOf said.sent (subscription_text place r) → said.given ≡ []
      → Opens place r said (ended ends.WriteFault)
  headless : (end : SyncEnd) → said.sent ≡ subscription_text place r → EndsHead end said
      → Opens place r said (ended end)
  turned_down : (head : ReplyHead) (rest : List ℕ) (end : SyncEnd) → said.sent ≡ subscription_text place r
      → IsReplyDecided (replied head) said.given rest → judge head ≡ Err end → Opens place r said (ended end)
  begun : (head : ReplyHead) (rest : List ℕ) (V : List (List ℕ)) → said.sent ≡ subscription_text place r
      → IsReplyDecided (replied head) said.given rest → judge head ≡ Ok V → Opens place r said (opened head.body V rest)
  unaided : IsFrontOf said.sent (subscription_text place r) → Opens place r said (ended ends.Memory)

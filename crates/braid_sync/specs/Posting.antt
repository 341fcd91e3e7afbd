-- How unsent updates are sent on one link, each as a PUT whose reply is read whole before the next is sent.
use Rattle.std.specs.Prelude.{◌≡◌, ◌≢◌, ◌<◌, ◌≤◌, ◌⊎◌, ℕ, List, [], ◌∷◌, ◌++◌, Option, Some, None, length, flat_map}
use Rattle.std.specs.Io.KnownBytes.{IsAtEnd}
use Rattle.braid_change.specs.Updates.{UpdateView}
use Rattle.braid_stream.specs.Readers.{most_bytes}
use Rattle.braid_http.specs.declared.call.Call.TheVariants.{Put}
use Rattle.braid_http.specs.declared.refusal.Refusal.{Refusal}
use Rattle.braid_http.specs.declared.refusal.Refusal.TheVariants.{BadChunk}
use Rattle.braid_http.specs.declared.response.ReplyHead.{ReplyHead}
use Rattle.braid_http.specs.declared.response.BodyKind.{BodyKind}
use Rattle.braid_http.specs.declared.response.BodyKind.TheVariants.{Length, Chunked, ToClose}
use Rattle.braid_http.specs.Bodies.{HasBegun, IsAgainst}
use Rattle.braid_http.specs.Calls.{request_text}
use Rattle.braid_http.specs.Responses.{replied, refused, IsReplyDecided, IsReplyOpen}
use Rattle.braid_outbox.specs.Replicas.{ReplicaView}
use Rattle.braid_sync.specs.declared.place.Place.{Place}
use Rattle.braid_sync.specs.declared.end.SyncEnd.{SyncEnd}
use Rattle.braid_sync.specs.declared.end.SyncEnd.TheVariants as ends
use Rattle.braid_sync.specs.Talks.{Said}
use Rattle.braid_sync.specs.Hearing.{IsOver, IsCutOff}
use Rattle.braid_sync.specs.Opening.{IsPartOf, IsFrontOf}

-- the bytes that send an update
abbrev pub put_text : Place → UpdateView → List ℕ
put_text place u = request_text (Put place.server place.path u)

-- the bytes that send updates, one after the other
abbrev pub put_texts : Place → List UpdateView → List ℕ
put_texts place us = flat_map (put_text place) us

-- the body's data stays below the limit of a stream; one of a length may reach it
abbrev pub IsWithin : BodyKind → List ℕ → Type 0
IsWithin (Length n) content = length content ≤ most_bytes
IsWithin Chunked content = length content < most_bytes
IsWithin ToClose content = length content < most_bytes

-- the head of a reply stands at the front of the bytes, and what has come of its body behind it
pub record HasHead (head : ReplyHead) (bytes : List ℕ) (passed rest : List ℕ) : Type 0 where
  pub behind : List ℕ
  pub decided : IsReplyDecided (replied head) bytes behind
  pub split : behind ≡ passed ++ rest

-- a whole reply of this status stands at the front of the bytes, and these are behind it
pub record IsReply (status : ℕ) (bytes rest : List ℕ) (left : Option (List ℕ)) : Type 0 where
  pub head : ReplyHead
  pub passed : List ℕ
  pub content : List ℕ
  pub has : HasHead head bytes passed rest
  pub status_is : status ≡ head.status
  pub over : IsOver head.body content passed rest left
  pub within : IsWithin head.body content

-- whole replies of status 200, as many as there are updates, stand at the front of the bytes, and these are behind them
abbrev pub Acknowledges : List UpdateView → List ℕ → List ℕ → Option (List ℕ) → Type 0
Acknowledges [] bytes rest left = bytes ≡ rest
Acknowledges (u ∷ us) bytes rest left = (more : List ℕ) × IsReply 200 bytes more left × Acknowledges us more rest left

-- the first unsent updates are these, and they went to the end of the confirmed ones
pub record Confirms (r : ReplicaView) (us : List UpdateView) (q : ReplicaView) : Type 0 where
  pub agent : q.agent ≡ r.agent
  pub confirmed : q.confirmed ≡ r.confirmed ++ us
  pub unsent : r.unsent ≡ us ++ q.unsent

-- the next to be sent
abbrev pub IsHeadOf : ReplicaView → UpdateView → Type 0
IsHeadOf q u = (us : List UpdateView) × (q.unsent ≡ u ∷ us)

-- a reply's body is cut, a chunk of it is bad, a read failed in it, or it has come to the limit of a stream and is not whole
pub record IsInBody (bytes : List ℕ) (B : ReplyHead → List ℕ → List ℕ → List ℕ → Type 0) : Type 0 where
  pub head : ReplyHead
  pub passed : List ℕ
  pub rest : List ℕ
  pub content : List ℕ
  pub has : HasHead head bytes passed rest
  pub holds : B head content passed rest

-- the bytes of a reply's body are against it
abbrev pub IsBadReply : Refusal → List ℕ → Type 0
IsBadReply f bytes = (f ≡ BadChunk)
    × IsInBody bytes (λ head content passed rest. IsAgainst head.body content passed × (length content < most_bytes))

-- Why a reply to a PUT is not the whole reply of status 200 that is awaited: it is whole and has another status; it is
-- refused, or its body is; the source has ended before it was whole; a read failed before; or its body has come to the limit.
abbrev pub EndsReply : SyncEnd → List ℕ → Option (List ℕ) → Type 0
EndsReply ends.Cut bytes left =
    (IsReplyOpen bytes × IsAtEnd left)
    ⊎ IsInBody bytes (λ head content passed rest. IsCutOff head.body content passed rest left
    × (length content < most_bytes))
EndsReply (ends.Peer status) bytes left = (status ≢ 200) × (rest : List ℕ) × IsReply status bytes rest left
EndsReply (ends.BadHead f) bytes left = ((rest : List ℕ) × IsReplyDecided (refused f) bytes rest) ⊎ IsBadReply f bytes
EndsReply ends.ReadFault bytes left =
    IsReplyOpen bytes
    ⊎ IsInBody bytes (λ head content passed rest. HasBegun head.body content passed × (rest ≡ [])
    × (length content < most_bytes))
EndsReply ends.Spent bytes left =
    IsInBody bytes (λ head content passed rest. HasBegun head.body content passed × (length content ≡ most_bytes))
EndsReply end bytes left = ⊥

-- Updates are sent on a link. The first unsent ones were sent and acknowledged, 1,000 at most, and went to the confirmed ones.
-- Then, in the order of the rows: nothing is unsent any more, or these were 1,000; the next could not be written whole; it was
-- written, and its reply is not the one awaited; or there was no memory, and a part of it was written, or all of it.
pub data Posts (place : Place) (r : ReplicaView) (said : Said) : ReplicaView → Option SyncEnd → Type 0 where
  posted : (us : List UpdateView) (rest : List ℕ) (q : ReplicaView) → Confirms r us q → length us ≤ 1_000
      → ((q.unsent ≡ []) ⊎ (length us ≡ 1_000)) → said.sent ≡ put_texts place us
      → Acknowledges us said.given rest said.left
      → Posts place r said q None
  unwritten : (us : List UpdateView) (u : UpdateView) (part rest : List ℕ) (q : ReplicaView) → Confirms r us q
      → length us < 1_000
      → IsHeadOf q u → IsPartOf part (put_text place u) → said.sent ≡ put_texts place us ++ part
      → Acknowledges us said.given rest said.left
      → Posts place r said q (Some ends.WriteFault)
  unanswered : (us : List UpdateView) (u : UpdateView) (rest : List ℕ) (q : ReplicaView) (end : SyncEnd)
      → Confirms r us q → length us < 1_000
      → IsHeadOf q u → said.sent ≡ put_texts place us ++ put_text place u → Acknowledges us said.given rest said.left
      → EndsReply end rest said.left
      → Posts place r said q (Some end)
  unaided : (us : List UpdateView) (u : UpdateView) (part rest : List ℕ) (q : ReplicaView) → Confirms r us q
      → length us < 1_000
      → IsHeadOf q u → IsFrontOf part (put_text place u) → said.sent ≡ put_texts place us ++ part
      → Acknowledges us said.given rest said.left
      → Posts place r said q (Some ends.Memory)

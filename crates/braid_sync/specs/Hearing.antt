-- How the body of a subscription's reply is read: which updates are learnt, and how the reading ends.
use Rattle.std.specs.Prelude.{◌≡◌, ◌≢◌, ◌<◌, ◌≤◌, ◌⊎◌, ℕ, List, [], ◌∷◌, ◌++◌, Option, Some, None, length, take}
use Rattle.std.specs.Io.KnownBytes.{IsAtEnd}
use Rattle.braid_change.specs.Updates.{UpdateView}
use Rattle.braid_grammar.specs.Streams.{IsStream, HaveUpdates}
use Rattle.braid_frame.specs.Phases.{HasFault}
use Rattle.braid_stream.specs.Readers.{most_bytes}
use Rattle.braid_http.specs.declared.refusal.Refusal.TheVariants.{BadChunk}
use Rattle.braid_http.specs.declared.response.BodyKind.{BodyKind}
use Rattle.braid_http.specs.declared.response.BodyKind.TheVariants.{ToClose}
use Rattle.braid_http.specs.Bodies.{IsBody, HasBegun, IsAgainst}
use Rattle.braid_outbox.specs.Replicas.{ReplicaView}
use Rattle.braid_sync.specs.declared.end.SyncEnd.{SyncEnd}
use Rattle.braid_sync.specs.declared.end.SyncEnd.TheVariants as ends
use Rattle.braid_sync.specs.Learning.{Refuses, Learns}

-- of a body of this kind b has come, and this is the data in it: b is a part of the body, the whole of it, or is against it
-- with its last byte
abbrev pub HasData : BodyKind → List ℕ → List ℕ → Type 0
HasData kind content b = HasBegun kind content b ⊎ (IsBody kind content b ⊎ IsAgainst kind content b)

-- the data that is looked at: no more than the most bytes of a stream
abbrev pub seen : List ℕ → List ℕ
seen content = take most_bytes content

-- the bytes begin with these updates, each whole, one after the other
pub record BeginWith (us : List UpdateView) (bytes : List ℕ) : Type 0 where
  pub front : List ℕ
  pub rest : List ℕ
  pub stream : IsStream us front
  pub spelled : bytes ≡ front ++ rest

-- Behind a reply's head, whose body is of this kind, these bytes were given. Of them `passed` were taken as the body's, with
-- this data in them, and `rest` stands behind; the data begins with these updates, and the replica, which was r, has learnt
-- them one after the other and is q.
pub record Hears (kind : BodyKind) (given : List ℕ) (r : ReplicaView) (passed rest content : List ℕ)
    (us : List UpdateView) (q : ReplicaView) : Type 0 where
  pub split : given ≡ passed ++ rest
  pub comes : HasData kind content passed
  pub begins : BeginWith us (seen content)
  pub learns : Learns r us q

-- The source has ended: where it tells what it has left, that is nothing, and nothing was given behind. Of one that does not
-- tell it, nothing is known of a later read.
abbrev pub IsEnded : List ℕ → Option (List ℕ) → Type 0
IsEnded rest None = Unit {0}
IsEnded rest (Some left) = (left ≡ []) × (rest ≡ [])

-- the body is whole; where only the end of the source ends it, the source has ended
pub record IsOver (kind : BodyKind) (content passed rest : List ℕ) (left : Option (List ℕ)) : Type 0 where
  pub is : IsBody kind content passed
  pub ended : kind ≡ ToClose → IsEnded rest left

-- the source has ended before the body was whole, which is not one that ends with its source
pub record IsCutOff (kind : BodyKind) (content passed rest : List ℕ) (left : Option (List ℕ)) : Type 0 where
  pub framed : kind ≢ ToClose
  pub begun : HasBegun kind content passed
  pub behind : rest ≡ []
  pub ended : IsAtEnd left

-- the data completes these updates and no more, and has no fault; and it is below the limit of a stream
pub record HaveAll (us : List UpdateView) (content : List ℕ) : Type 0 where
  pub have : HaveUpdates us content
  pub short : length content < most_bytes

-- The next update of the data is refused, and this end says why.
pub record IsRefused (us : List UpdateView) (content : List ℕ) (q : ReplicaView) (end : SyncEnd) : Type 0 where
  pub update : UpdateView
  pub begins : BeginWith (us ++ update ∷ []) (seen content)
  pub refuses : Refuses q update end

-- the bytes of the body are against it, behind data that completes these updates alone
abbrev pub IsBadChunk : BodyKind → List UpdateView → List ℕ → List ℕ → Type 0
IsBadChunk kind us content passed = HaveAll us content × IsAgainst kind content passed

-- Why the reading of a body ends where these updates were learnt and the replica is q: the next one is refused; the data has
-- a fault behind them; it has none, and the bytes of the body are against it, the body or the source ended (`cut` says how),
-- or a read failed; or the limit of a stream was read. Want of memory may end it anywhere.
abbrev pub EndsHearing : Type 0 → BodyKind → List ℕ → List ℕ → List ℕ → List UpdateView → ReplicaView → SyncEnd → Type 0
EndsHearing cut kind passed rest content us q ends.Cut = HaveAll us content × cut
EndsHearing cut kind passed rest content us q (ends.BadHead BadChunk) = IsBadChunk kind us content passed
EndsHearing cut kind passed rest content us q (ends.BadStream f) = HasFault us (seen content) f
EndsHearing cut kind passed rest content us q (ends.Clash v) = IsRefused us content q (ends.Clash v)
EndsHearing cut kind passed rest content us q (ends.UnknownParent v) = IsRefused us content q (ends.UnknownParent v)
EndsHearing cut kind passed rest content us q (ends.OutOfRange patch len) =
    IsRefused us content q (ends.OutOfRange patch len)
EndsHearing cut kind passed rest content us q (ends.Full which limit) = IsRefused us content q (ends.Full which limit)
EndsHearing cut kind passed rest content us q ends.ReadFault = HaveAll us content × HasBegun kind content passed
    × (rest ≡ [])
EndsHearing cut kind passed rest content us q ends.Spent = HaveUpdates us (seen content) × (most_bytes ≤ length content)
EndsHearing cut kind passed rest content us q ends.Memory = Unit {0}
EndsHearing cut kind passed rest content us q end = ⊥

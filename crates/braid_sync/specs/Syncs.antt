-- The text of a sync: what is said on its links, the replica that it leaves, and its end.
use Rattle.std.specs.Prelude.{◌≡◌, ◌≢◌, ◌⊎◌, ℕ, List, [], ◌∷◌, Option, Some, None}
use Rattle.braid_io.specs.Dialers.{Talk, Dialing}
use Rattle.braid_change.specs.Updates.{UpdateView}
use Rattle.braid_http.specs.declared.response.BodyKind.{BodyKind}
use Rattle.braid_outbox.specs.Replicas.{ReplicaView}
use Rattle.braid_sync.specs.declared.place.Place.{Place}
use Rattle.braid_sync.specs.declared.end.SyncEnd.{SyncEnd}
use Rattle.braid_sync.specs.declared.end.SyncEnd.TheVariants as ends
use Rattle.braid_sync.specs.Talks.{Said, TellAll, Gains, Failing, nothing_failed, dial_failed, read_failed, write_failed, print_failed, FailedBy}
use Rattle.braid_sync.specs.Learning.{Awaits, HasVersion}
use Rattle.braid_sync.specs.Hearing.{Hears, IsOver, IsCutOff, EndsHearing}
use Rattle.braid_sync.specs.Opening.{Opens, opened, ended}
use Rattle.braid_sync.specs.Posting.{Posts}

-- which call of the outside failed, where an end says that one did
abbrev pub failing : SyncEnd → Failing
failing ends.DialFault = dial_failed
failing ends.ReadFault = read_failed
failing ends.WriteFault = write_failed
failing ends.OutFault = print_failed
failing end = nothing_failed

-- in a sync the body of a reply is cut where it or its source has ended, whatever its data is
abbrev pub IsCut : BodyKind → List ℕ → List ℕ → List ℕ → Option (List ℕ) → Type 0
IsCut kind content passed rest left = IsOver kind content passed rest left ⊎ IsCutOff kind content passed rest left

-- The link of the subscription. In the order of the rows: it was not begun; updates were learnt until the current version
-- was held, before none of them it was, and no end is there; the reading ended before it was held.
pub data Subscribes (place : Place) (r : ReplicaView) (said : Said) : ReplicaView → Option SyncEnd → Type 0 where
  not_begun : (end : SyncEnd) → Opens place r said (ended end) → Subscribes place r said r (Some end)
  caught_up : (kind : BodyKind) (V : List (List ℕ)) (behind passed rest content : List ℕ) (us : List UpdateView)
      (q : ReplicaView)
      → Opens place r said (opened kind V behind) → Hears kind behind r passed rest content us q → Awaits V r us
      → HasVersion q V
      → Subscribes place r said q None
  fell_short : (kind : BodyKind) (V : List (List ℕ)) (behind passed rest content : List ℕ) (us : List UpdateView)
      (q : ReplicaView) (end : SyncEnd)
      → Opens place r said (opened kind V behind) → Hears kind behind r passed rest content us q → Awaits V r us
      → ¬ (HasVersion q V)
      → EndsHearing (IsCut kind content passed rest said.left) kind passed rest content us q end
      → Subscribes place r said q (Some end)

-- a link to the server of the place
abbrev pub IsTo : Place → Said → Type 0
IsTo place said = said.server ≡ place.server

-- The links of PUTs. In the order of the rows: nothing is unsent, and no link is dialled; one is dialled and goes to its end
-- without another end, and further ones follow; one is dialled and ends the sync; none could be dialled; there was no memory
-- to dial.
pub data PostsAll (place : Place) : ReplicaView → List Said → ReplicaView → SyncEnd → Type 0 where
  all_sent : (r : ReplicaView) → r.unsent ≡ [] → PostsAll place r [] r ends.Done
  next_link : (r m q : ReplicaView) (said : Said) (saids : List Said) (end : SyncEnd) → r.unsent ≢ [] → IsTo place said
      → Posts place r said m None → PostsAll place m saids q end → PostsAll place r (said ∷ saids) q end
  link_failed : (r q : ReplicaView) (said : Said) (end : SyncEnd) → r.unsent ≢ [] → IsTo place said
      → Posts place r said q (Some end) → PostsAll place r (said ∷ []) q end
  no_link : (r : ReplicaView) → r.unsent ≢ [] → PostsAll place r [] r ends.DialFault
  no_room : (r : ReplicaView) → r.unsent ≢ [] → PostsAll place r [] r ends.Memory

-- The text of a sync of the replica r: what is said on each link, the replica that it leaves, and its end. In the order of
-- the rows: no link could be dialled; there was no memory to dial; the subscription ends it; the current version is held, and
-- the unsent updates are sent.
pub data SyncText (place : Place) (r : ReplicaView) : List Said → ReplicaView → SyncEnd → Type 0 where
  unreached : SyncText place r [] r ends.DialFault
  unaided : SyncText place r [] r ends.Memory
  cut_short : (said : Said) (q : ReplicaView) (end : SyncEnd) → IsTo place said → Subscribes place r said q (Some end)
      → SyncText place r (said ∷ []) q end
  went_on : (said : Said) (saids : List Said) (m q : ReplicaView) (end : SyncEnd) → IsTo place said
      → Subscribes place r said m None
      → PostsAll place m saids q end → SyncText place r (said ∷ saids) q end

-- A sync over a dialer: it gained these talks, which tell what was said; the call that the end names failed, and no other;
-- and what was said is the text of the sync with this end.
pub record Syncs (place : Place) (r q : ReplicaView) (end : SyncEnd) (old new : Dialing) : Type 0 where
  pub talks : List Talk
  pub saids : List Said
  pub gains : Gains talks old new
  pub told : TellAll talks saids
  pub failed : FailedBy (failing end) talks old new
  pub text : SyncText place r saids q end

-- A sync and the sessions that serve it, both ends at once: what it comes to where each link is given the whole text of a
-- session.
use Rattle.std.specs.Prelude.{◌≡◌, ◌≢◌, ◌⊎◌, ◌+◌, ◌≤◌, ℕ, List, [], ◌∷◌, true, length, take, slice_get, Some}
use Rattle.braid_text.specs.declared.room.Which.{Which}
use Rattle.braid_store.specs.declared.entry.Entry.{Entry}
use Rattle.braid_store.specs.Books.{of_path, IsLegalBook}
use Rattle.braid_http.specs.declared.request.Request.{Request}
use Rattle.braid_outbox.specs.Replicas.{ReplicaView, all_of, frontier}
use Rattle.braid_outbox.specs.Laws.{IsPart}
use Rattle.braid_session.specs.declared.serving.Serving.{Serving}
use Rattle.braid_session.specs.Pieces.{last_mark, NeverFall}
use Rattle.braid_session.specs.InTurn.{IsInTurn}
use Rattle.braid_session.specs.Sessions.{Placed, Course, goes_on, watched, Says, none, direct, turn, watches, SessionText, whole, unmarked, watching}
use Rattle.braid_sync.specs.declared.place.Place.{Place}
use Rattle.braid_sync.specs.declared.end.SyncEnd.{SyncEnd}
use Rattle.braid_sync.specs.declared.end.SyncEnd.TheVariants as ends
use Rattle.braid_sync.specs.Talks.{Said, offered, nothing_failed}
use Rattle.braid_sync.specs.Learning.{HasVersion}
use Rattle.braid_sync.specs.Opening.{IsPlace}
use Rattle.braid_sync.specs.Syncs.{failing, SyncText}
use Rattle.braid_world.specs.Progress.{IsBeside}

-- A link was given, or has left to give, the whole text of a session of this server for the bytes sent on it. The session's marks
-- suffice, and they stand in the history from a lowest to a highest.
pub record IsServed (s : Serving) (book : List Entry) (marks : List ℕ) (low high : ℕ) (said : Said) : Type 0 where
  pub by : ℕ
  pub course : Course
  pub text : SessionText s by book said.sent marks (offered said) course
  pub in_turn : IsInTurn s by book said.sent marks (offered said) course text low high

-- so are these links, one session after the other, from a lowest mark on
abbrev pub AreServed : Serving → List Entry → ℕ → List Said → Type 0
AreServed s book low [] = Unit {0}
AreServed s book low (said ∷ saids) =
    (marks : List ℕ) × (high : ℕ) × IsServed s book marks low high said × AreServed s book high saids

-- A server that has PUTs and subscriptions serves the links of a sync over one legal history. At the first mark of all, n, the
-- path has at most 1,000 heads, which is a limit of each server; and the replica stands beside the path's history, of which it
-- first sees what that mark has.
pub record ServesLinks (s : Serving) (book : List Entry) (n : ℕ) (place : Place) (r : ReplicaView) (first : Said)
    (others : List Said) : Type 0 where
  pub puts : s.puts ≡ true
  pub subscriptions : s.subscriptions ≡ true
  pub legal : IsLegalBook book
  pub place_is : IsPlace place
  pub marks : List ℕ
  pub high : ℕ
  pub first_served : IsServed s book (n ∷ marks) 0 high first
  pub others_served : AreServed s book high others
  pub narrow : length (frontier (of_path (take n book) place.path)) ≤ 1_000
  pub beside : IsBeside (of_path book place.path) (of_path (take n book) place.path) r

-- the same of each link that there is
abbrev pub ServesSync : Serving → List Entry → ℕ → Place → ReplicaView → List Said → Type 0
ServesSync s book n place r [] = Unit {0}
ServesSync s book n place r (said ∷ saids) = ServesLinks s book n place r said saids

-- An end that says of no failed call and of no limit: none of the replica, none of the server, which it tells by the status 507,
-- and not that of a stream.
pub record EndsByItself (end : SyncEnd) : Type 0 where
  pub unfailed : failing end ≡ nothing_failed
  pub has_room : (which : Which) (limit : ℕ) → end ≢ ends.Full which limit
  pub is_taken : end ≢ ends.Peer 507
  pub is_short : end ≢ ends.Spent

-- What a whole sync has come to. Nothing is unsent. The version is held that the server named as the current one, which is the
-- frontier of what the first mark has, and each update of that is confirmed. So is each update that the replica had, and all that
-- is confirmed is in the server's history.
pub record IsSynced (book : List Entry) (n : ℕ) (path : List ℕ) (r q : ReplicaView) : Type 0 where
  pub sent : q.unsent ≡ []
  pub held : HasVersion q (frontier (of_path (take n book) path))
  pub had : IsPart (of_path (take n book) path) q.confirmed
  pub kept : IsPart (all_of r) q.confirmed
  pub landed : IsPart q.confirmed (of_path book path)

-- A sync whose links are all served so is done, where no call failed and no limit was met; or there was no memory.
abbrev pub WholeSync : Type 0
WholeSync =
    (s : Serving) (book : List Entry) (n : ℕ) (place : Place) (r q : ReplicaView) (saids : List Said) (end : SyncEnd)
    → ServesSync s book n place r saids → SyncText place r saids q end → EndsByItself end
    → ((end ≡ ends.Done) × IsSynced book n place.path r q) ⊎ (end ≡ ends.Memory)

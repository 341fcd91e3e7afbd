-- A sync and a follow keep the agent of a replica, and lose no update of it.
use Rattle.std.proofs.Common.{◌≡◌, ℕ, List, [], ◌∷◌, ◌++◌, Option, Some, None, refl, ap, sym, subst, ◌∙◌, append_assoc, inl, inr, Contains}
use Rattle.std.proofs.lemmas.List.Elements.{Contains-append_left, Contains-append_right, Contains-append_cases}
use Rattle.braid_change.specs.Updates.{UpdateView}
use Rattle.braid_text.specs.declared.accept.Accept.TheVariants as accepts
use Rattle.braid_text.specs.Rooms.{replica_limits}
use Rattle.braid_outbox.specs.Replicas.{ReplicaView, all_of, IsSound}
use Rattle.braid_outbox.specs.Learns.{Learnt, Confirmed, Judged, learn_answer, confirm}
use Rattle.braid_outbox.specs.Learns as outbox
use Rattle.braid_outbox.specs.Laws.{LosesNone}
use Rattle.braid_sync.specs.declared.place.Place.{Place}
use Rattle.braid_sync.specs.declared.end.SyncEnd.{SyncEnd}
use Rattle.braid_sync.specs.Talks.{Said}
use Rattle.braid_sync.specs.Learning.{learnt, Learns}
use Rattle.braid_sync.specs.Posting.{Confirms, Posts, posted, unwritten, unanswered, unaided as post_unaided}
use Rattle.braid_sync.specs.Syncs.{Subscribes, not_begun as sync_not_begun, caught_up, fell_short, PostsAll, all_sent, next_link, link_failed, no_link, no_room, SyncText, unreached as sync_unreached, unaided as sync_unaided, cut_short, went_on}
use Rattle.braid_sync.specs.Follows.{FollowText, not_begun, counted, heard_out, broken_off, unprinted, unreached, unaided}
use Rattle.braid_sync.specs.Laws.{GoesOnFrom}

-- the agent stays, and no update is lost
pub record Keeps (r q : ReplicaView) : Type 0 where
  pub agent : q.agent ≡ r.agent
  pub kept : LosesNone r q

keeps_same : (r : ReplicaView) → Keeps r r
keeps_same r = record { agent = refl; kept = λ u c. c }

keeps_then : (r m q : ReplicaView) → Keeps r m → Keeps m q → Keeps r q
keeps_then r m q h k = record { agent = k.agent ∙ h.agent; kept = λ u c. k.kept u (h.kept u c) }

keeps_as : (r m q : ReplicaView) → q ≡ m → Keeps r m → Keeps r q
keeps_as r m q e h = subst (Keeps r) (sym e) h

keeps_all : (r q : ReplicaView) → q.agent ≡ r.agent → all_of r ≡ all_of q → Keeps r q
keeps_all r q a e = record { agent = a; kept = λ u c. subst (λ (us : List UpdateView). Contains us u) e c }

keeps_confirmed : (r : ReplicaView) (us : List UpdateView) → r.unsent ≡ us → Keeps r (confirm r us)
keeps_confirmed r [] e = keeps_same r
keeps_confirmed r (u ∷ us) e = keeps_all r (confirm r (u ∷ us)) refl (ap (λ (t : List UpdateView). r.confirmed ++ t) e ∙ sym (append_assoc r.confirmed (u ∷ []) us))

keeps_new : (C O : List UpdateView) (w u : UpdateView) → Contains (C ++ O) u → Contains ((C ++ w ∷ []) ++ O) u
keeps_new C O w u c =
    elim (Contains-append_cases C O u c) [
      | inl there ↦ Contains-append_left (C ++ w ∷ []) O u (Contains-append_left C (w ∷ []) u there)
      | inr there ↦ Contains-append_right (C ++ w ∷ []) O u there
    ]

keeps_by : (r : ReplicaView) (u : UpdateView) (a : Learnt) → Keeps r (outbox.learnt r u a)
keeps_by r u Confirmed = keeps_confirmed r r.unsent refl
keeps_by r u (Judged accepts.New) = record { agent = refl; kept = λ w c. keeps_new r.confirmed r.unsent u w c }
keeps_by r u (Judged accepts.Known) = keeps_same r
keeps_by r u (Judged (accepts.Clash v)) = keeps_same r
keeps_by r u (Judged (accepts.UnknownParent v)) = keeps_same r
keeps_by r u (Judged (accepts.OutOfRange patch len)) = keeps_same r
keeps_by r u (Judged (accepts.Full which need room)) = keeps_same r
keeps_by r u (Judged accepts.Memory) = keeps_same r

keeps_learnt : (r : ReplicaView) (us : List UpdateView) (q : ReplicaView) → Learns r us q → Keeps r q
keeps_learnt r [] q h = keeps_as r r q h (keeps_same r)
keeps_learnt r (u ∷ us) q h = keeps_then r (learnt r u) q (keeps_by r u (learn_answer replica_limits r u)) (keeps_learnt (learnt r u) us q h.1)

keeps_posted : (r : ReplicaView) (us : List UpdateView) (q : ReplicaView) → Confirms r us q → Keeps r q
keeps_posted r us q c = keeps_all r q c.agent (ap (λ (t : List UpdateView). r.confirmed ++ t) c.unsent ∙ sym (append_assoc r.confirmed us q.unsent) ∙ ap (λ (t : List UpdateView). t ++ q.unsent) (sym c.confirmed))

keeps_link : (place : Place) (r q : ReplicaView) (said : Said) (end : Option SyncEnd) → Posts place r said q end → Keeps r q
keeps_link place r q said _ (posted us rest m c few end sent replies) = keeps_posted r us m c
keeps_link place r q said _ (unwritten us u part rest m c few head is sent replies) = keeps_posted r us m c
keeps_link place r q said _ (unanswered us u rest m end c few head sent replies why) = keeps_posted r us m c
keeps_link place r q said _ (post_unaided us u part rest m c few head is sent replies) = keeps_posted r us m c

keeps_subscribed : (place : Place) (r q : ReplicaView) (said : Said) (end : Option SyncEnd) → Subscribes place r said q end → Keeps r q
keeps_subscribed place r q said _ (sync_not_begun end o) = keeps_same r
keeps_subscribed place r q said _ (caught_up kind V behind passed rest content us m o h a v) = keeps_learnt r us m h.learns
keeps_subscribed place r q said _ (fell_short kind V behind passed rest content us m end o h a v why) = keeps_learnt r us m h.learns

keeps_links : (place : Place) (r q : ReplicaView) (saids : List Said) (end : SyncEnd) → PostsAll place r saids q end → Keeps r q
keeps_links place _ _ _ _ (all_sent r none) = keeps_same r
keeps_links place _ _ _ _ (next_link r m q said saids end some to p more) = keeps_then r m q (keeps_link place r m said None p) (keeps_links place m q saids end more)
keeps_links place _ _ _ _ (link_failed r q said end some to p) = keeps_link place r q said (Some end) p
keeps_links place _ _ _ _ (no_link r some) = keeps_same r
keeps_links place _ _ _ _ (no_room r some) = keeps_same r

pub sync_keeps : (place : Place) (r q : ReplicaView) (saids : List Said) (end : SyncEnd) → SyncText place r saids q end → Keeps r q
sync_keeps place r _ _ _ sync_unreached = keeps_same r
sync_keeps place r _ _ _ sync_unaided = keeps_same r
sync_keeps place r _ _ _ (cut_short said q end to s) = keeps_subscribed place r q said (Some end) s
sync_keeps place r _ _ _ (went_on said saids m q end to s p) = keeps_then r m q (keeps_subscribed place r m said None s) (keeps_links place m q saids end p)

pub follow_keeps : (place : Place) (count : ℕ) (r q : ReplicaView) (saids : List Said) (lines line : List ℕ) (n : ℕ) (end : SyncEnd) → FollowText place count r saids lines n line q end → Keeps r q
follow_keeps place count r _ _ _ _ _ _ unreached = keeps_same r
follow_keeps place count r _ _ _ _ _ _ unaided = keeps_same r
follow_keeps place count r _ _ _ _ _ _ (not_begun said end to o) = keeps_same r
follow_keeps place count r _ _ _ _ _ _ (counted said kind V behind passed rest content us q to o h n) = keeps_learnt r us q h.learns
follow_keeps place count r _ _ _ _ _ _ (heard_out said kind V behind passed rest content us q to o h n w) = keeps_learnt r us q h.learns
follow_keeps place count r _ _ _ _ _ _ (broken_off said kind V behind passed rest content us q end to o h n why) = keeps_learnt r us q h.learns
follow_keeps place count r _ _ _ _ _ _ (unprinted said kind V behind passed rest content line us q m to o h n w) = keeps_then r q m (keeps_learnt r us q h.learns) (keeps_learnt q (w.update ∷ []) m w.learns)

-- what is sound goes on
pub goes_on : (r q : ReplicaView) → IsSound q → Keeps r q → GoesOnFrom r q
goes_on r q sound k = record { sound = sound; agent = k.agent; kept = k.kept }

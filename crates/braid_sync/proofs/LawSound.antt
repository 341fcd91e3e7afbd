-- The replica of a sync and of a follow stays sound.
use Rattle.std.proofs.Common.{◌≡◌, ℕ, List, [], ◌∷◌, ◌++◌, Option, Some, None, ap, sym, subst, ◌∙◌, append_assoc}
use Rattle.std.specs.List.{AllByRecursion}
use Rattle.braid_change.specs.Updates.{UpdateView, IsUpdate}
use Rattle.braid_grammar.specs.Streams.{IsStream}
use Rattle.braid_grammar.proofs.OneUpdate.{spelled_is_update}
use Rattle.braid_text.specs.Histories.{IsLegal}
use Rattle.braid_text.specs.Rooms.{replica_limits}
use Rattle.braid_outbox.specs.Replicas.{ReplicaView, all_of, IsChained, IsSound}
use Rattle.braid_outbox.proofs.Public.{learn_law}
use Rattle.braid_sync.specs.declared.place.Place.{Place}
use Rattle.braid_sync.specs.declared.end.SyncEnd.{SyncEnd}
use Rattle.braid_sync.specs.Talks.{Said}
use Rattle.braid_sync.specs.Learning.{learnt, Learns}
use Rattle.braid_sync.specs.Hearing.{BeginWith, seen}
use Rattle.braid_sync.specs.Posting.{Confirms, Posts, posted, unwritten, unanswered, unaided as post_unaided}
use Rattle.braid_sync.specs.Syncs.{Subscribes, not_begun as sync_not_begun, caught_up, fell_short, PostsAll, all_sent, next_link, link_failed, no_link, no_room, SyncText, unreached as sync_unreached, unaided as sync_unaided, cut_short, went_on}
use Rattle.braid_sync.specs.Follows.{FollowText, not_begun, counted, heard_out, broken_off, unprinted, unreached, unaided}
use Rattle.braid_sync.specs.Laws.{SyncIsSound, FollowIsSound}
use Rattle.braid_sync.proofs.Kept.{sync_keeps, follow_keeps, goes_on}

stream_updates : (us : List UpdateView) (front : List ℕ) → IsStream us front → AllByRecursion IsUpdate us
stream_updates [] front s = tt
stream_updates (u ∷ us) front s = (spelled_is_update u s.first s.is_first, stream_updates us s.rest s.is_rest)

begins_updates : (us : List UpdateView) (b : List ℕ) → BeginWith us b → AllByRecursion IsUpdate us
begins_updates us b k = stream_updates us k.front k.stream

learns_sound : (r : ReplicaView) (us : List UpdateView) (q : ReplicaView) → IsSound r → AllByRecursion IsUpdate us → Learns r us q → IsSound q
learns_sound r [] q sound is h = subst IsSound (sym h) sound
learns_sound r (u ∷ us) q sound is h = learns_sound (learnt r u) us q (learn_law replica_limits r sound u is.0).0 is.1 h.1

-- updates behind the first of a chain are a chain
chained_behind : (us vs : List UpdateView) → IsChained (us ++ vs) → IsChained vs
chained_behind [] vs h = h
chained_behind (u ∷ us) vs h = chained_behind us vs h.1

confirms_sound : (r : ReplicaView) (us : List UpdateView) (q : ReplicaView) → IsSound r → Confirms r us q → IsSound q
confirms_sound r us q sound c =
    let all : all_of r ≡ all_of q =
    ap (λ (t : List UpdateView). r.confirmed ++ t) c.unsent ∙ sym (append_assoc r.confirmed us q.unsent) ∙ ap (λ (t : List UpdateView). t ++ q.unsent) (sym c.confirmed) in
    record { legal = subst IsLegal all sound.legal; chained = chained_behind us q.unsent (subst IsChained c.unsent sound.chained) }

link_sound : (place : Place) (r q : ReplicaView) (said : Said) (end : Option SyncEnd) → IsSound r → Posts place r said q end → IsSound q
link_sound place r q said _ sound (posted us rest m c few full sent taken) = confirms_sound r us m sound c
link_sound place r q said _ sound (unwritten us u part rest m c few head is sent taken) = confirms_sound r us m sound c
link_sound place r q said _ sound (unanswered us u rest m end c few head sent taken why) = confirms_sound r us m sound c
link_sound place r q said _ sound (post_unaided us u part rest m c few head is sent taken) = confirms_sound r us m sound c

subscribed_sound : (place : Place) (r q : ReplicaView) (said : Said) (end : Option SyncEnd) → IsSound r → Subscribes place r said q end → IsSound q
subscribed_sound place r q said _ sound (sync_not_begun end o) = sound
subscribed_sound place r q said _ sound (caught_up kind V behind passed rest content us m o h a v) = learns_sound r us m sound (begins_updates us (seen content) h.begins) h.learns
subscribed_sound place r q said _ sound (fell_short kind V behind passed rest content us m end o h a v why) = learns_sound r us m sound (begins_updates us (seen content) h.begins) h.learns

links_sound : (place : Place) (r q : ReplicaView) (saids : List Said) (end : SyncEnd) → IsSound r → PostsAll place r saids q end → IsSound q
links_sound place _ _ _ _ sound (all_sent r none) = sound
links_sound place _ _ _ _ sound (next_link r m q said saids end some to p more) = links_sound place m q saids end (link_sound place r m said None sound p) more
links_sound place _ _ _ _ sound (link_failed r q said end some to p) = link_sound place r q said (Some end) sound p
links_sound place _ _ _ _ sound (no_link r some) = sound
links_sound place _ _ _ _ sound (no_room r some) = sound

sync_sound : (place : Place) (r q : ReplicaView) (saids : List Said) (end : SyncEnd) → IsSound r → SyncText place r saids q end → IsSound q
sync_sound place r _ _ _ sound sync_unreached = sound
sync_sound place r _ _ _ sound sync_unaided = sound
sync_sound place r _ _ _ sound (cut_short said q end to s) = subscribed_sound place r q said (Some end) sound s
sync_sound place r _ _ _ sound (went_on said saids m q end to s p) = links_sound place m q saids end (subscribed_sound place r m said None sound s) p

heard_sound : (r : ReplicaView) (us : List UpdateView) (q : ReplicaView) (b : List ℕ) → IsSound r → BeginWith us b → Learns r us q → IsSound q
heard_sound r us q b sound begins learns = learns_sound r us q sound (begins_updates us b begins) learns

-- the last of some updates is learnt behind the others
learns_all : (r : ReplicaView) (us : List UpdateView) (u : UpdateView) (q m : ReplicaView) → Learns r us q → Learns q (u ∷ []) m → Learns r (us ++ u ∷ []) m
learns_all r [] u q m h k = subst (λ (x : ReplicaView). Learns x (u ∷ []) m) h k
learns_all r (v ∷ us) u q m h k = (h.0, learns_all (learnt r v) us u q m h.1 k)

follow_sound : (place : Place) (count : ℕ) (r q : ReplicaView) (saids : List Said) (lines line : List ℕ) (n : ℕ) (end : SyncEnd) → IsSound r → FollowText place count r saids lines n line q end → IsSound q
follow_sound place count r _ _ _ _ _ _ sound unreached = sound
follow_sound place count r _ _ _ _ _ _ sound unaided = sound
follow_sound place count r _ _ _ _ _ _ sound (not_begun said end to o) = sound
follow_sound place count r _ _ _ _ _ _ sound (counted said kind V behind passed rest content us q to o h n) = heard_sound r us q (seen content) sound h.begins h.learns
follow_sound place count r _ _ _ _ _ _ sound (heard_out said kind V behind passed rest content us q to o h n w) = heard_sound r us q (seen content) sound h.begins h.learns
follow_sound place count r _ _ _ _ _ _ sound (broken_off said kind V behind passed rest content us q end to o h n why) = heard_sound r us q (seen content) sound h.begins h.learns
follow_sound place count r _ _ _ _ _ _ sound (unprinted said kind V behind passed rest content line us q m to o h n w) = heard_sound r (us ++ w.update ∷ []) m (seen content) sound w.begins (learns_all r us w.update q m h.learns w.learns)

pub sync_is_sound : SyncIsSound
sync_is_sound place r q saids end sound text = goes_on r q (sync_sound place r q saids end sound text) (sync_keeps place r q saids end text)

pub follow_is_sound : FollowIsSound
follow_is_sound place count r q saids lines line n end sound text =
    goes_on r q (follow_sound place count r q saids lines line n end sound text) (follow_keeps place count r q saids lines line n end text)

-- Updates that are learnt one after the other, and one more.
use Rattle.std.proofs.Common.{◌≡◌, ◌≢◌, ℕ, List, [], ◌∷◌, ◌++◌, Some, None, Err, refl, ap, sym, subst, ◌∙◌, append_assoc, append-nil, inl}
use Rattle.braid_change.specs.Updates.{UpdateView}
use Rattle.braid_text.specs.declared.accept.Accept.TheVariants as accepts
use Rattle.braid_outbox.specs.declared.learn.Learn.{Learn}
use Rattle.braid_outbox.specs.declared.learn.Learn.TheVariants as learns
use Rattle.braid_text.specs.Rooms.{replica_limits}
use Rattle.braid_outbox.specs.Replicas.{ReplicaView}
use Rattle.braid_outbox.specs.Learns.{Learnt, Confirmed, Judged, learn_answer, told}
use Rattle.braid_outbox.specs.Learns as outbox
use Rattle.braid_sync.specs.declared.end.SyncEnd.{SyncEnd}
use Rattle.braid_sync.specs.Learning.{refusal_end, answer_to, learnt, Learns, Refuses, HasVersion, Awaits}
use Rattle.braid_sync.specs.Follows.{line_of, lines_of}
use Rattle.braid_sync.specs.Steps.{Takes}

pub one_more_learnt : (r : ReplicaView) (us : List UpdateView) (q : ReplicaView) (u : UpdateView) → Learns r us q → refusal_end (answer_to q u) ≡ None → Learns r (us ++ u ∷ []) (learnt q u)
one_more_learnt r [] q u h k = (subst (λ (x : ReplicaView). refusal_end (answer_to x u) ≡ None) h k, ap (λ (x : ReplicaView). learnt x u) h)
one_more_learnt r (w ∷ us) q u h k = (h.0, one_more_learnt (learnt r w) us q u h.1 k)

pub one_more_awaited : (V : List (List ℕ)) (r : ReplicaView) (us : List UpdateView) (q : ReplicaView) (u : UpdateView) → Learns r us q → Awaits V r us → (HasVersion q V → ⊥) → Awaits V r (us ++ u ∷ [])
one_more_awaited V r [] q u h a n = (subst (λ (x : ReplicaView). HasVersion x V → ⊥) h n, tt)
one_more_awaited V r (w ∷ us) q u h a n = (a.0, one_more_awaited V (learnt r w) us q u h.1 a.1 n)

pub one_more_line : (r : ReplicaView) (us : List UpdateView) (q : ReplicaView) (u : UpdateView) → Learns r us q → lines_of r (us ++ u ∷ []) ≡ lines_of r us ++ line_of q u
one_more_line r [] q u h = append-nil (line_of r u) ∙ ap (λ (x : ReplicaView). line_of x u) (sym h)
one_more_line r (w ∷ us) q u h = ap (λ (t : List ℕ). line_of r w ++ t) (one_more_line (learnt r w) us q u h.1) ∙ sym (append_assoc (line_of r w) (lines_of (learnt r w) us) (line_of q u))

-- a replica that refuses an update stays as it was
kept_by : (r : ReplicaView) (u : UpdateView) (a : Learnt) (end : SyncEnd) → refusal_end (told replica_limits a) ≡ Some end → outbox.learnt r u a ≡ r
kept_by r u Confirmed end e = absurd (cc)
kept_by r u (Judged accepts.New) end e = absurd (cc)
kept_by r u (Judged accepts.Known) end e = refl
kept_by r u (Judged (accepts.Clash v)) end e = refl
kept_by r u (Judged (accepts.UnknownParent v)) end e = refl
kept_by r u (Judged (accepts.OutOfRange patch len)) end e = refl
kept_by r u (Judged (accepts.Full which need room)) end e = refl
kept_by r u (Judged accepts.Memory) end e = refl

-- an answer of a replica, as what was made of the update

pub refused_as : (end : SyncEnd) (a : Learn) (r : ReplicaView) (u : UpdateView) (q : ReplicaView) → refusal_end a ≡ Some end → a ≢ learns.Memory → (a ≢ learns.Memory → a ≡ answer_to r u) → (a ≢ learns.Memory → q ≡ learnt r u) → Takes (Err end) r u q
refused_as end a r u q s m e k =
    let refused : Refuses r u end = subst (λ (x : Learn). refusal_end x ≡ Some end) (e m) s in
    (inl refused, k m ∙ kept_by r u (learn_answer replica_limits r u) end refused)

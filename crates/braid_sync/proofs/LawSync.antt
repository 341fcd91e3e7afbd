-- What was given and which call failed decide a sync.
use Rattle.std.proofs.Common.{◌≡◌, ◌≢◌, List, [], ◌∷◌, inl, inr, ◌⊎◌, refl, ap, sym, subst, ◌∙◌, Some, None, IsSome}
use Rattle.std.specs.List.{AllByRecursion}
use Rattle.braid_outbox.specs.Replicas.{ReplicaView}
use Rattle.braid_sync.specs.declared.place.Place.{Place}
use Rattle.braid_sync.specs.declared.end.SyncEnd.{SyncEnd}
use Rattle.braid_sync.specs.declared.end.SyncEnd.TheVariants as ends
use Rattle.braid_sync.specs.Talks.{Said, Failing, nothing_failed, dial_failed, read_failed}
use Rattle.braid_sync.specs.Posting.{Posts}
use Rattle.braid_sync.specs.Syncs.{failing, Subscribes, PostsAll, all_sent, next_link, link_failed, no_link, no_room, SyncText, unreached, unaided, cut_short, went_on}
use Rattle.braid_sync.specs.Laws.{AreAlike, AllAlike, IsTold, OneSync}
use Rattle.braid_sync.proofs.LawSame.{one_said, alike_back}
use Rattle.braid_sync.proofs.LawPosting.{posted_as, carried_same, carried_or_stopped, stopped_same}
use Rattle.braid_sync.proofs.LawSubscribed.{subscribed_as, caught_one, caught_or_ended, ended_one}

-- how the links of PUTs end where there is none, and what the first one is where there is one
abbrev LinksAs : Place → ReplicaView → List Said → ReplicaView → SyncEnd → Type 0
LinksAs place r [] q end = (q ≡ r) × (((r.unsent ≡ []) × (end ≡ ends.Done)) ⊎ ((r.unsent ≢ []) × ((end ≡ ends.DialFault) ⊎ (end ≡ ends.Memory))))
LinksAs place r (said ∷ saids) q end = ((m : ReplicaView) × Posts place r said m None × PostsAll place m saids q end) ⊎ ((saids ≡ []) × Posts place r said q (Some end))

links_as : (place : Place) (r q : ReplicaView) (saids : List Said) (end : SyncEnd) → PostsAll place r saids q end → LinksAs place r saids q end
links_as place _ _ _ _ (all_sent r n) = (refl, inl (n, refl))
links_as place _ _ _ _ (next_link r m q said saids end n to p k) = inl (m, p, k)
links_as place _ _ _ _ (link_failed r q said end n to p) = inr (refl, p)
links_as place _ _ _ _ (no_link r n) = (refl, inr (n, inl refl))
links_as place _ _ _ _ (no_room r n) = (refl, inr (n, inr refl))

none_alike : (f : Failing) (saids : List Said) → AllAlike f saids [] → saids ≡ []
none_alike f [] a = refl
none_alike f (said ∷ saids) a = absurd a

one_more : (s t : Said) (ss ts : List Said) → s ≡ t → ss ≡ ts → s ∷ ss ≡ t ∷ ts
one_more s t ss ts e f = λ i. e i ∷ f i

-- where no link was dialled no read failed
no_read : (place : Place) (r q : ReplicaView) (end : SyncEnd) → end ≢ ends.Memory → PostsAll place r [] q end → failing end ≡ read_failed → ⊥
no_read place r q end n p f = go (links_as place r q [] end p).1
  where
    go : ((r.unsent ≡ []) × (end ≡ ends.Done)) ⊎ ((r.unsent ≢ []) × ((end ≡ ends.DialFault) ⊎ (end ≡ ends.Memory))) → ⊥
    go (inl h) = let k : nothing_failed ≡ read_failed = sym (ap failing h.1) ∙ f in cc
    go (inr (_, inl e)) = let k : dial_failed ≡ read_failed = sym (ap failing e) ∙ f in cc
    go (inr (_, inr e)) = n e

abbrev Same : List Said → List Said → ReplicaView → ReplicaView → SyncEnd → SyncEnd → Type 0
Same saids others q m end stop = (saids ≡ others) × (q ≡ m) × (end ≡ stop)

no_links_one : (r q m : ReplicaView) (end stop : SyncEnd) → end ≢ ends.Memory → stop ≢ ends.Memory → (q ≡ r) × (((r.unsent ≡ []) × (end ≡ ends.Done)) ⊎ ((r.unsent ≢ []) × ((end ≡ ends.DialFault) ⊎ (end ≡ ends.Memory))))
    → (m ≡ r) × (((r.unsent ≡ []) × (stop ≡ ends.Done)) ⊎ ((r.unsent ≢ []) × ((stop ≡ ends.DialFault) ⊎ (stop ≡ ends.Memory)))) → Same [] [] q m end stop
no_links_one r q m end stop n o h k = (refl, h.0 ∙ sym k.0, go h.1 k.1)
  where
    dialled : (x : SyncEnd) → x ≢ ends.Memory → (x ≡ ends.DialFault) ⊎ (x ≡ ends.Memory) → x ≡ ends.DialFault
    dialled x z (inl e) = e
    dialled x z (inr e) = absurd (z e)

    go : ((r.unsent ≡ []) × (end ≡ ends.Done)) ⊎ ((r.unsent ≢ []) × ((end ≡ ends.DialFault) ⊎ (end ≡ ends.Memory))) → ((r.unsent ≡ []) × (stop ≡ ends.Done)) ⊎ ((r.unsent ≢ []) × ((stop ≡ ends.DialFault) ⊎ (stop ≡ ends.Memory))) → end ≡ stop
    go (inl x) (inl y) = x.1 ∙ sym y.1
    go (inl x) (inr y) = absurd (y.0 x.0)
    go (inr x) (inl y) = absurd (x.0 y.0)
    go (inr x) (inr y) = dialled end n x.1 ∙ sym (dialled stop o y.1)

-- a link that came to its end, and behind which the sync ends, is not one that ended it
ended_behind : (place : Place) (f : Failing) (r m q p : ReplicaView) (s t : Said) (saids : List Said) (end stop : SyncEnd) → f ≡ failing end → f ≡ failing stop → AreAlike f s t → AllAlike f saids [] → IsTold s → end ≢ ends.Memory
    → stop ≢ ends.Memory → Posts place r s m None → PostsAll place m saids q end → Posts place r t p (Some stop) → ⊥
ended_behind place f r m q p s t saids end stop e g a b told n o x y z =
    let late = carried_or_stopped place r f s t m p stop a told g (posted_as place r s m None x) (posted_as place r t p (Some stop) z o) in
    no_read place m q end n (subst (λ k. PostsAll place m k q end) (none_alike f saids b) y) (sym e ∙ g ∙ ap failing late)

told_by : (s t : Said) → s.left ≡ t.left → IsTold s → IsTold t
told_by s t e h = subst IsSome e h

links_one : (place : Place) (f : Failing) (saids others : List Said) (r q m : ReplicaView) (end stop : SyncEnd) → f ≡ failing end → f ≡ failing stop → AllAlike f saids others → AllByRecursion IsTold saids → end ≢ ends.Memory → stop ≢ ends.Memory
    → PostsAll place r saids q end → PostsAll place r others m stop → Same saids others q m end stop
links_one place f [] [] r q m end stop e g a told n o x y = no_links_one r q m end stop n o (links_as place r q [] end x) (links_as place r m [] stop y)
links_one place f [] (t ∷ ts) r q m end stop e g a told n o x y = absurd a
links_one place f (s ∷ ss) [] r q m end stop e g a told n o x y = absurd a
links_one place f (s ∷ ss) (t ∷ ts) r q m end stop e g a told n o x y =
    go (links_as place r q (s ∷ ss) end x) (links_as place r m (t ∷ ts) stop y) (λ k u v. links_one place f ss ts k q m end stop e g a.1 told.1 n o u v)
  where
    go : ((k : ReplicaView) × Posts place r s k None × PostsAll place k ss q end) ⊎ ((ss ≡ []) × Posts place r s q (Some end))
        → ((k : ReplicaView) × Posts place r t k None × PostsAll place k ts m stop) ⊎ ((ts ≡ []) × Posts place r t m (Some stop))
        → ((k : ReplicaView) → PostsAll place k ss q end → PostsAll place k ts m stop → Same ss ts q m end stop) → Same (s ∷ ss) (t ∷ ts) q m end stop
    go (inl h) (inl k) rec =
        let z = carried_same place r s t h.0 k.0 (posted_as place r s h.0 None h.1) (posted_as place r t k.0 None k.1) in
        let w = rec k.0 (subst (λ (i : ReplicaView). PostsAll place i ss q end) z.0 h.2) k.2 in
        (one_more s t ss ts (one_said f s t a.0 z.1) w.0, w.1, w.2)
    go (inl h) (inr k) rec = absurd (ended_behind place f r h.0 q m s t ss end stop e g a.0 (subst (AllAlike f ss) k.0 a.1) told.0 n o h.1 h.2 k.1)
    go (inr h) (inl k) rec =
        absurd (ended_behind place f r k.0 m q t s ts stop end g e (alike_back f s t a.0) (back f ts (subst (λ i. AllAlike f i ts) h.0 a.1)) (told_by s t a.0.left told.0) o n k.1 k.2 h.1)
      where
        back : (f : Failing) (ts : List Said) → AllAlike f [] ts → AllAlike f ts []
        back f [] b = tt
        back f (t ∷ ts) b = absurd b
    go (inr h) (inr k) rec =
        let same = subst (λ i. AreAlike i s t) e a.0 in
        let z = stopped_same place r s t q m end stop same told.0 (sym e ∙ g) (posted_as place r s q (Some end) h.1 n) (posted_as place r t m (Some stop) k.1 o) in
        (one_more s t ss ts (one_said f s t a.0 z.2) (h.0 ∙ sym k.0), z.0, z.1)

abbrev SyncAs : Place → ReplicaView → List Said → ReplicaView → SyncEnd → Type 0
SyncAs place r [] q end = (q ≡ r) × ((end ≡ ends.DialFault) ⊎ (end ≡ ends.Memory))
SyncAs place r (said ∷ saids) q end = ((m : ReplicaView) × Subscribes place r said m None × PostsAll place m saids q end) ⊎ ((saids ≡ []) × Subscribes place r said q (Some end))

sync_as : (place : Place) (r q : ReplicaView) (saids : List Said) (end : SyncEnd) → SyncText place r saids q end → SyncAs place r saids q end
sync_as place r _ _ _ unreached = (refl, inl refl)
sync_as place r _ _ _ unaided = (refl, inr refl)
sync_as place r _ _ _ (cut_short said q end to s) = inr (refl, s)
sync_as place r _ _ _ (went_on said saids m q end to s p) = inl (m, s, p)

one_dial : (end stop : SyncEnd) → end ≢ ends.Memory → stop ≢ ends.Memory → (end ≡ ends.DialFault) ⊎ (end ≡ ends.Memory) → (stop ≡ ends.DialFault) ⊎ (stop ≡ ends.Memory) → end ≡ stop
one_dial end stop n o (inl e) (inl f) = e ∙ sym f
one_dial end stop n o (inl e) (inr f) = absurd (o f)
one_dial end stop n o (inr e) f = absurd (n e)

pub one_sync : OneSync
one_sync place r q m [] [] end stop a told x y f n o = let h = sync_as place r q [] end x in let k = sync_as place r m [] stop y in (refl, h.0 ∙ sym k.0, one_dial end stop n o h.1 k.1)
one_sync place r q m [] (t ∷ ts) end stop a told x y f n o = absurd a
one_sync place r q m (s ∷ ss) [] end stop a told x y f n o = absurd a
one_sync place r q m (s ∷ ss) (t ∷ ts) end stop a told x y f n o = go (sync_as place r q (s ∷ ss) end x) (sync_as place r m (t ∷ ts) stop y)
  where
    told_t : IsTold t
    told_t = told_by s t a.0.left told.0

    go : ((k : ReplicaView) × Subscribes place r s k None × PostsAll place k ss q end) ⊎ ((ss ≡ []) × Subscribes place r s q (Some end))
        → ((k : ReplicaView) × Subscribes place r t k None × PostsAll place k ts m stop) ⊎ ((ts ≡ []) × Subscribes place r t m (Some stop)) → Same (s ∷ ss) (t ∷ ts) q m end stop
    go (inl h) (inl k) =
        let z = caught_one place r s t h.0 k.0 a.0.given (subscribed_as place r s h.0 None h.1) (subscribed_as place r t k.0 None k.1) in
        let w = links_one place (failing end) ss ts k.0 q m end stop refl f a.1 told.1 n o (subst (λ (i : ReplicaView). PostsAll place i ss q end) z.0 h.2) k.2 in
        (one_more s t ss ts (one_said (failing end) s t a.0 z.1) w.0, w.1, w.2)
    go (inl h) (inr k) = absurd (caught_or_ended place r (failing end) s t h.0 m stop a.0 f (subscribed_as place r s h.0 None h.1) (subscribed_as place r t m (Some stop) k.1 told_t o))
    go (inr h) (inl k) = absurd (caught_or_ended place r (failing end) t s k.0 q end (alike_back (failing end) s t a.0) refl (subscribed_as place r t k.0 None k.1) (subscribed_as place r s q (Some end) h.1 told.0 n))
    go (inr h) (inr k) =
        let z = ended_one place r s t q m end stop a.0 (alike_back (failing end) s t a.0) f (subscribed_as place r s q (Some end) h.1 told.0 n) (subscribed_as place r t m (Some stop) k.1 told_t o) in
        (one_more s t ss ts (one_said (failing end) s t a.0 z.2) (h.0 ∙ sym k.0), z.0, z.1)

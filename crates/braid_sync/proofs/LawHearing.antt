-- What was given decides which updates of a body are learnt, and why its reading ends.
use Rattle.std.proofs.Common.{◌≡◌, ◌≢◌, ℕ, ◌≤◌, append_assoc, append-nil, List, [], ◌∷◌, ◌++◌, inl, inr, ◌⊎◌, refl, ap, sym, subst, ◌∙◌, length, drop, Some, None, arith, length-append, take-append-drop}
use Rattle.std.proofs.lemmas.List.{append_cancel_left, take-append-le}
use Rattle.braid_change.specs.Updates.{UpdateView}
use Rattle.braid_grammar.specs.Streams.{HaveUpdates}
use Rattle.braid_frame.specs.declared.fed.FrameFault.{FrameFault}
use Rattle.braid_frame.specs.Phases.{HasFault}
use Rattle.braid_stream.specs.Readers.{most_bytes}
use Rattle.braid_http.specs.declared.refusal.Refusal.TheVariants.{BadChunk}
use Rattle.braid_http.specs.declared.response.BodyKind.{BodyKind}
use Rattle.braid_http.specs.Bodies.{IsBody, HasBegun, IsAgainst}
use Rattle.braid_outbox.specs.Replicas.{ReplicaView}
use Rattle.braid_sync.specs.declared.end.SyncEnd.{SyncEnd}
use Rattle.braid_sync.specs.declared.end.SyncEnd.TheVariants as ends
use Rattle.braid_sync.specs.Learning.{refusal_end, answer_to, learnt, Refuses, Learns, HasVersion, Awaits}
use Rattle.braid_sync.specs.Hearing.{HasData, seen, BeginWith, Hears, HaveAll, IsRefused, EndsHearing}
use Rattle.braid_sync.specs.Syncs.{failing}
use Rattle.braid_sync.proofs.LawFronts.{compare, same_both, take_grows}
use Rattle.braid_sync.proofs.LawStreams.{begins_compare, begins_more, complete_stops, fault_stops, fault_more, same_fault}
use Rattle.braid_sync.proofs.LawData.{data_grows, IsLast, last_of_all, last_against, not_whole_and_against, not_begun_and_against}

-- the reading came to the last data of the body
pub data AtLast (kind : BodyKind) (content passed : List ℕ) : SyncEnd → Type 0 where
  cut_there : IsBody kind content passed ⊎ HasBegun kind content passed → AtLast kind content passed ends.Cut
  bad_there : IsAgainst kind content passed → AtLast kind content passed (ends.BadHead BadChunk)
  failed_there : AtLast kind content passed ends.ReadFault

-- or its end was shown by the data that was there
pub data ByData (content : List ℕ) (us : List UpdateView) (q : ReplicaView) (end : SyncEnd) : Type 0 where
  at_fault : (f : FrameFault) → HasFault us (seen content) f → end ≡ ends.BadStream f → ByData content us q end
  refused : (w : UpdateView) → BeginWith (us ++ w ∷ []) (seen content) → Refuses q w end → ByData content us q end
  spent : HaveUpdates us (seen content) → most_bytes ≤ length content → end ≡ ends.Spent → ByData content us q end

pub data Why (kind : BodyKind) (content passed rest : List ℕ) (us : List UpdateView) (q : ReplicaView) (end : SyncEnd) : Type 0 where
  at_last : HaveAll us content → IsLast kind passed rest → AtLast kind content passed end → Why kind content passed rest us q end
  by_data : ByData content us q end → Why kind content passed rest us q end

-- a body that is cut is whole or begun, and nothing more of it comes
abbrev pub CutsThere : Type 0 → BodyKind → List ℕ → List ℕ → List ℕ → Type 0
CutsThere cut kind content passed rest = cut → (IsBody kind content passed ⊎ HasBegun kind content passed) × IsLast kind passed rest

by_refusal : (content : List ℕ) (us : List UpdateView) (q : ReplicaView) (end : SyncEnd) → IsRefused us content q end → ByData content us q end
by_refusal content us q end h = refused h.update h.begins h.refuses

pub why : (cut : Type 0) (kind : BodyKind) (passed rest content : List ℕ) (us : List UpdateView) (q : ReplicaView) (end : SyncEnd) → CutsThere cut kind content passed rest → end ≢ ends.Memory
    → EndsHearing cut kind passed rest content us q end → Why kind content passed rest us q end
why cut kind passed rest content us q ends.Cut c n h = let k = c h.1 in at_last h.0 k.1 (cut_there k.0)
why cut kind passed rest content us q (ends.BadHead BadChunk) c n h = at_last h.0 (last_against kind content passed rest h.1) (bad_there h.1)
why cut kind passed rest content us q (ends.BadStream f) c n h = by_data (at_fault f h refl)
why cut kind passed rest content us q (ends.Clash v) c n h = by_data (by_refusal content us q (ends.Clash v) h)
why cut kind passed rest content us q (ends.UnknownParent v) c n h = by_data (by_refusal content us q (ends.UnknownParent v) h)
why cut kind passed rest content us q (ends.OutOfRange patch len) c n h = by_data (by_refusal content us q (ends.OutOfRange patch len) h)
why cut kind passed rest content us q (ends.Full which limit) c n h = by_data (by_refusal content us q (ends.Full which limit) h)
why cut kind passed rest content us q ends.ReadFault c n h = at_last h.0 (last_of_all kind passed rest h.2) failed_there
why cut kind passed rest content us q ends.Spent c n h = by_data (spent h.0 h.1 refl)
why cut kind passed rest content us q ends.Memory c n h = absurd (n refl)
why cut kind passed rest content us q end c n h = absurd h

-- bytes that the looked at data of two readings are both at the front of
record Common (c d : List ℕ) : Type 0 where
  bytes : List ℕ
  left : List ℕ
  right : List ℕ
  left_is : bytes ≡ seen c ++ left
  right_is : bytes ≡ seen d ++ right
  full_left : most_bytes ≤ length c → bytes ≡ seen c
  full_right : most_bytes ≤ length d → bytes ≡ seen d

seen_grows : (c d y : List ℕ) → d ≡ c ++ y → (z : List ℕ) × (seen d ≡ seen c ++ z)
seen_grows c d y e = let k = take_grows most_bytes c y in (k.0, ap seen e ∙ k.1)

seen_full : (c d y : List ℕ) → d ≡ c ++ y → most_bytes ≤ length c → seen d ≡ seen c
seen_full c d y e h = ap seen e ∙ take-append-le most_bytes c y h

pub data_compare : (kind : BodyKind) (c p r d q s : List ℕ) → HasData kind c p → HasData kind d q → p ++ r ≡ q ++ s → ((y : List ℕ) × (d ≡ c ++ y)) ⊎ ((y : List ℕ) × (c ≡ d ++ y))
data_compare kind c p r d q s h k e = elim (compare p r q s e) [
  | inl x ↦ inl (data_grows kind c p d q x.0 h k x.1)
  | inr x ↦ inr (data_grows kind d q c p x.0 k h x.1)
]

common : (c d : List ℕ) → ((y : List ℕ) × (d ≡ c ++ y)) ⊎ ((y : List ℕ) × (c ≡ d ++ y)) → Common c d
common c d (inl k) =
    let s = seen_grows c d k.0 k.1 in
    record {
      bytes = seen d;
      left = s.0;
      right = [];
      left_is = s.1;
      right_is = sym (append-nil (seen d));
      full_left = λ h. seen_full c d k.0 k.1 h;
      full_right = λ h. refl;
    }
common c d (inr k) =
    let s = seen_grows d c k.0 k.1 in
    record {
      bytes = seen c;
      left = [];
      right = s.0;
      left_is = sym (append-nil (seen c));
      right_is = s.1;
      full_left = λ h. refl;
      full_right = λ h. seen_full d c k.0 k.1 h;
    }

pub begins_in : (us : List UpdateView) (a z b : List ℕ) → b ≡ a ++ z → BeginWith us a → BeginWith us b
begins_in us a z b e k = subst (BeginWith us) (sym e) (begins_more us a z k)

fault_in : (us : List UpdateView) (a z b : List ℕ) (f : FrameFault) → b ≡ a ++ z → HasFault us a f → HasFault us b f
fault_in us a z b f e k = subst (λ t. HasFault us t f) (sym e) (fault_more us a z f k)

all_of_it : (c : List ℕ) → c ≡ seen c ++ drop most_bytes c
all_of_it c = sym (take-append-drop most_bytes c)

-- what bytes show of the end
data Shows (b : List ℕ) (us : List UpdateView) (q : ReplicaView) (end : SyncEnd) : Type 0 where
  a_fault : (f : FrameFault) → HasFault us b f → end ≡ ends.BadStream f → Shows b us q end
  a_refusal : (w : UpdateView) → BeginWith (us ++ w ∷ []) b → Refuses q w end → Shows b us q end
  no_more : HaveUpdates us b → end ≡ ends.Spent → Shows b us q end

shows_left : (c d : List ℕ) (us : List UpdateView) (q : ReplicaView) (end : SyncEnd) → (k : Common c d) → ByData c us q end → Shows k.bytes us q end
shows_left c d us q end k (at_fault f h e) = a_fault f (fault_in us (seen c) k.left k.bytes f k.left_is h) e
shows_left c d us q end k (refused w h e) = a_refusal w (begins_in (us ++ w ∷ []) (seen c) k.left k.bytes k.left_is h) e
shows_left c d us q end k (spent h m e) = no_more (subst (HaveUpdates us) (sym (k.full_left m)) h) e

shows_right : (c d : List ℕ) (us : List UpdateView) (q : ReplicaView) (end : SyncEnd) → (k : Common c d) → ByData d us q end → Shows k.bytes us q end
shows_right c d us q end k (at_fault f h e) = a_fault f (fault_in us (seen d) k.right k.bytes f k.right_is h) e
shows_right c d us q end k (refused w h e) = a_refusal w (begins_in (us ++ w ∷ []) (seen d) k.right k.bytes k.right_is h) e
shows_right c d us q end k (spent h m e) = no_more (subst (HaveUpdates us) (sym (k.full_right m)) h) e

-- the next of updates is one
next_same : (us : List UpdateView) (v : UpdateView) (vs : List UpdateView) (w : UpdateView) (ws : List UpdateView) (b : List ℕ) → BeginWith (us ++ v ∷ vs) b → BeginWith (us ++ w ∷ ws) b → v ≡ w
next_same us v vs w ws b h k = elim (begins_compare (us ++ v ∷ vs) (us ++ w ∷ ws) b h k) [
  | inl x ↦ first v vs w ws x.0 (append_cancel_left us (w ∷ ws) (v ∷ vs ++ x.0) (x.1 ∙ append_assoc us (v ∷ vs) x.0))
  | inr x ↦ sym (first w ws v vs (x.0 ∷ x.1) (append_cancel_left us (v ∷ vs) (w ∷ ws ++ x.0 ∷ x.1) (x.2 ∙ append_assoc us (w ∷ ws) (x.0 ∷ x.1))))
]
  where
    first : (v : UpdateView) (vs : List UpdateView) (w : UpdateView) (ws xs : List UpdateView) → w ∷ ws ≡ v ∷ (vs ++ xs) → v ≡ w
    first v vs w ws xs e = cc

no_refusal : (q : ReplicaView) (v w : UpdateView) (end : SyncEnd) → v ≡ w → Refuses q v end → refusal_end (answer_to q w) ≡ None → ⊥
no_refusal q v w end e h n = let k : refusal_end (answer_to q w) ≡ Some end = subst (λ x. refusal_end (answer_to q x) ≡ Some end) e h in cc

-- behind the end that bytes show no update is taken
shows_stop : (b : List ℕ) (us : List UpdateView) (q : ReplicaView) (end : SyncEnd) (w : UpdateView) (ws : List UpdateView) → Shows b us q end → BeginWith (us ++ w ∷ ws) b → refusal_end (answer_to q w) ≡ None → ⊥
shows_stop b us q end w ws (a_fault f h e) k n = fault_stops us w ws b f h k
shows_stop b us q end w ws (a_refusal v h e) k n = no_refusal q v w end (next_same us v [] w ws b h k) e n
shows_stop b us q end w ws (no_more h e) k n = complete_stops us w ws b h.completes k

same_refusal : (q : ReplicaView) (v w : UpdateView) (end stop : SyncEnd) → v ≡ w → Refuses q v end → Refuses q w stop → end ≡ stop
same_refusal q v w end stop e h k =
    let a : refusal_end (answer_to q w) ≡ Some end = subst (λ x. refusal_end (answer_to q x) ≡ Some end) e h in
    let b : Some end ≡ Some stop = sym a ∙ k in
    cc

-- bytes show one end
shows_one : (b : List ℕ) (us : List UpdateView) (q : ReplicaView) (end stop : SyncEnd) → Shows b us q end → Shows b us q stop → end ≡ stop
shows_one b us q end stop (a_fault f h e) (a_fault g k s) = e ∙ ap ends.BadStream (same_fault us us b f g h k) ∙ sym s
shows_one b us q end stop (a_fault f h e) (a_refusal w k s) = absurd (fault_stops us w [] b f h k)
shows_one b us q end stop (a_fault f h e) (no_more k s) = absurd (k.faultless f.at f.reason h.0)
shows_one b us q end stop (a_refusal v h e) (a_fault f k s) = absurd (fault_stops us v [] b f k h)
shows_one b us q end stop (a_refusal v h e) (a_refusal w k s) = same_refusal q v w end stop (next_same us v [] w [] b h k) e s
shows_one b us q end stop (a_refusal v h e) (no_more k s) = absurd (complete_stops us v [] b k.completes h)
shows_one b us q end stop (no_more h e) (a_fault f k s) = absurd (h.faultless f.at f.reason k.0)
shows_one b us q end stop (no_more h e) (a_refusal w k s) = absurd (complete_stops us w [] b h.completes k)
shows_one b us q end stop (no_more h e) (no_more k s) = e ∙ sym s

-- where all updates of the last data are learnt, it shows no other end
pub not_by_data : (c d y : List ℕ) (us : List UpdateView) (q : ReplicaView) (end : SyncEnd) → HaveAll us c → c ≡ d ++ y → ByData d us q end → ⊥
not_by_data c d y us q end a e (at_fault f h s) =
    let g = seen_grows d c y e in
    let k = fault_in us (seen c) (drop most_bytes c) c f (all_of_it c) (fault_in us (seen d) g.0 (seen c) f g.1 h) in
    a.have.faultless f.at f.reason k.0
not_by_data c d y us q end a e (refused w h s) =
    let g = seen_grows d c y e in
    complete_stops us w [] c a.have.completes (begins_in (us ++ w ∷ []) (seen c) (drop most_bytes c) c (all_of_it c) (begins_in (us ++ w ∷ []) (seen d) g.0 (seen c) g.1 h))
not_by_data c d y us q end a e (spent h m s) = let n = ap length e in let short = a.short in omega (arith, n, m, short, length-append d y)

same_last : (kind : BodyKind) (c d b : List ℕ) (end stop : SyncEnd) → AtLast kind c b end → AtLast kind d b stop → failing end ≡ failing stop → end ≡ stop
same_last kind c d b _ _ (cut_there h) (cut_there k) f = refl
same_last kind c d b _ _ (cut_there (inl h)) (bad_there k) f = absurd (not_whole_and_against kind c d b h k)
same_last kind c d b _ _ (cut_there (inr h)) (bad_there k) f = absurd (not_begun_and_against kind c d b h k)
same_last kind c d b _ _ (cut_there h) failed_there f = absurd (cc)
same_last kind c d b _ _ (bad_there h) (cut_there (inl k)) f = absurd (not_whole_and_against kind d c b k h)
same_last kind c d b _ _ (bad_there h) (cut_there (inr k)) f = absurd (not_begun_and_against kind d c b k h)
same_last kind c d b _ _ (bad_there h) (bad_there k) f = refl
same_last kind c d b _ _ (bad_there h) failed_there f = absurd (cc)
same_last kind c d b _ _ failed_there (cut_there k) f = absurd (cc)
same_last kind c d b _ _ failed_there (bad_there k) f = absurd (cc)
same_last kind c d b _ _ failed_there failed_there f = refl

-- what is given behind a head, of which each of two readings has passed a front
pub record Two (kind : BodyKind) (c p r d q s : List ℕ) : Type 0 where
  pub first : HasData kind c p
  pub second : HasData kind d q
  pub given : p ++ r ≡ q ++ s

-- two readings that have learnt the same end alike
pub same_end : (kind : BodyKind) (c p r d e s : List ℕ) (us : List UpdateView) (q : ReplicaView) (end stop : SyncEnd) → Two kind c p r d e s → Why kind c p r us q end → Why kind d e s us q stop → failing end ≡ failing stop
    → end ≡ stop
same_end kind c p r d e s us q end stop t (at_last a l x) (at_last b m y) f =
    let i = l d e s t.second (sym t.given) in
    let j = m c p r t.first t.given in
    let same = same_both p e j.0 i.0 j.1 i.1 in
    same_last kind c d p end stop x (subst (λ z. AtLast kind d z stop) (sym same) y) f
same_end kind c p r d e s us q end stop t (at_last a l x) (by_data y) f =
    let i = l d e s t.second (sym t.given) in
    let g = data_grows kind d e c p i.0 t.second t.first i.1 in
    absurd (not_by_data c d g.0 us q stop a g.1 y)
same_end kind c p r d e s us q end stop t (by_data x) (at_last b m y) f =
    let j = m c p r t.first t.given in
    let g = data_grows kind c p d e j.0 t.first t.second j.1 in
    absurd (not_by_data d c g.0 us q end b g.1 x)
same_end kind c p r d e s us q end stop t (by_data x) (by_data y) f =
    let k = common c d (data_compare kind c p r d e s t.first t.second t.given) in
    shows_one k.bytes us q end stop (shows_left c d us q end k x) (shows_right c d us q stop k y)

-- the next update that two readings come to is one
pub next_one : (kind : BodyKind) (c p r d e s : List ℕ) (us : List UpdateView) (v w : UpdateView) → Two kind c p r d e s → BeginWith (us ++ v ∷ []) (seen c) → BeginWith (us ++ w ∷ []) (seen d) → v ≡ w
next_one kind c p r d e s us v w t h k =
    let b = common c d (data_compare kind c p r d e s t.first t.second t.given) in
    next_same us v [] w [] b.bytes (begins_in (us ++ v ∷ []) (seen c) b.left b.bytes b.left_is h) (begins_in (us ++ w ∷ []) (seen d) b.right b.bytes b.right_is k)

pub two_back : (kind : BodyKind) (c p r d e s : List ℕ) → Two kind c p r d e s → Two kind d e s c p r
two_back kind c p r d e s t = record { first = t.second; second = t.first; given = sym t.given }

-- behind the end of one reading the other has no update that is taken
pub none_behind : (kind : BodyKind) (c p r d e s : List ℕ) (us : List UpdateView) (q : ReplicaView) (end : SyncEnd) (w : UpdateView) (ws : List UpdateView) → Two kind c p r d e s → Why kind c p r us q end
    → BeginWith (us ++ w ∷ ws) (seen d) → refusal_end (answer_to q w) ≡ None → ⊥
none_behind kind c p r d e s us q end w ws t (at_last a l x) h n =
    let i = l d e s t.second (sym t.given) in
    let g = data_grows kind d e c p i.0 t.second t.first i.1 in
    complete_stops us w ws c a.have.completes (begins_in (us ++ w ∷ ws) d g.0 c g.1 (begins_in (us ++ w ∷ ws) (seen d) (drop most_bytes d) d (all_of_it d) h))
none_behind kind c p r d e s us q end w ws t (by_data x) h n =
    let k = common c d (data_compare kind c p r d e s t.first t.second t.given) in
    shows_stop k.bytes us q end w ws (shows_left c d us q end k x) (begins_in (us ++ w ∷ ws) (seen d) k.right k.bytes k.right_is h) n

-- of two lists one is the other, or has more behind it
pub data Order (us vs : List UpdateView) : Type 0 where
  same : us ≡ vs → Order us vs
  more : (w : UpdateView) (ws : List UpdateView) → vs ≡ us ++ w ∷ ws → Order us vs
  fewer : (w : UpdateView) (ws : List UpdateView) → us ≡ vs ++ w ∷ ws → Order us vs

order : (us vs : List UpdateView) (b : List ℕ) → BeginWith us b → BeginWith vs b → Order us vs
order us vs b h k = elim (begins_compare us vs b h k) [ inl x ↦ go x.0 x.1 | inr x ↦ fewer x.0 x.1 x.2 ]
  where
    go : (ws : List UpdateView) → vs ≡ us ++ ws → Order us vs
    go [] e = same (sym (e ∙ append-nil us))
    go (w ∷ ws) e = more w ws e

pub orders : (kind : BodyKind) (c p r d e s : List ℕ) (us vs : List UpdateView) → Two kind c p r d e s → BeginWith us (seen c) → BeginWith vs (seen d) → Order us vs
orders kind c p r d e s us vs t h k =
    let b = common c d (data_compare kind c p r d e s t.first t.second t.given) in
    order us vs b.bytes (begins_in us (seen c) b.left b.bytes b.left_is h) (begins_in vs (seen d) b.right b.bytes b.right_is k)

pub learns_same : (r : ReplicaView) (us : List UpdateView) (q m : ReplicaView) → Learns r us q → Learns r us m → q ≡ m
learns_same r [] q m h k = h ∙ sym k
learns_same r (u ∷ us) q m h k = learns_same (learnt r u) us q m h.1 k.1

-- the next update that is learnt is not refused
pub learns_next : (r : ReplicaView) (us : List UpdateView) (w : UpdateView) (ws : List UpdateView) (q m : ReplicaView) → Learns r us q → Learns r (us ++ w ∷ ws) m → refusal_end (answer_to q w) ≡ None
learns_next r [] w ws q m h k = subst (λ (x : ReplicaView). refusal_end (answer_to x w) ≡ None) (sym h) k.0
learns_next r (u ∷ us) w ws q m h k = learns_next (learnt r u) us w ws q m h.1 k.1

-- before the next update the version is not held
pub awaits_next : (V : List (List ℕ)) (r : ReplicaView) (us : List UpdateView) (w : UpdateView) (ws : List UpdateView) (q : ReplicaView) → Learns r us q → Awaits V r (us ++ w ∷ ws) → HasVersion q V → ⊥
awaits_next V r [] w ws q h k v = k.0 (subst (λ (x : ReplicaView). HasVersion x V) h v)
awaits_next V r (u ∷ us) w ws q h k v = awaits_next V (learnt r u) us w ws q h.1 k.1 v

-- two readings of what was given
pub two_of : (kind : BodyKind) (given : List ℕ) (r : ReplicaView) (p s c e t d : List ℕ) (us vs : List UpdateView) (q m : ReplicaView) → Hears kind given r p s c us q → Hears kind given r e t d vs m → Two kind c p s d e t
two_of kind given r p s c e t d us vs q m h k = record { first = h.comes; second = k.comes; given = sym h.split ∙ k.split }

-- behind the end of one reading the other has learnt no more
pub learns_no_more : (kind : BodyKind) (given : List ℕ) (r : ReplicaView) (p s c e t d : List ℕ) (us vs : List UpdateView) (q m : ReplicaView) (end : SyncEnd) (w : UpdateView) (ws : List UpdateView)
    → Hears kind given r p s c us q → Hears kind given r e t d vs m → Why kind c p s us q end → vs ≡ us ++ w ∷ ws → ⊥
learns_no_more kind given r p s c e t d us vs q m end w ws h k y z =
    let n = learns_next r us w ws q m h.learns (subst (λ x. Learns r x m) z k.learns) in
    none_behind kind c p s d e t us q end w ws (two_of kind given r p s c e t d us vs q m h k) y (subst (λ x. BeginWith x (seen d)) z k.begins) n

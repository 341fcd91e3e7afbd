-- What the small calls of a replica rest on.
use Rattle.std.proofs.Common.{◌≡◌, ◌≢◌, ℕ, ◌≤◌, ◌<◌, ◌+◌, ◌-◌, List, [], ◌∷◌, ◌++◌, Bool, true, false, not, cond, nat_lt, refl, sym, ap, subst, ◌∙◌, arith, length, take, drop, reverse, Option, None, Some, zero, suc, get_or}
use Rattle.std.proofs.Math.ListN.{set}
use Rattle.std.proofs.lemmas.Bool.Decides.{nat_tests}
use Rattle.std.proofs.lemmas.List.{length-reverse}
use Rattle.std.proofs.lemmas.Option.{slice_get_past, slice_get-get_or}
use Rattle.std.specs.List.{Contains, slice_get}
use Rattle.std.specs.Option.{IfSome}
use Rattle.std.specs.Cmp.Lexicographic.{pointwise}
use Rattle.std.specs.Ordering.{is_eq}
use Rattle.std.proofs.Common.{nat_eq}
use Rattle.braid_ids.specs.Identifiers.{id_cmp}
use Rattle.braid_ids.specs.Frontiers.{IsRising}
use Rattle.braid_ids.proofs.Members.{no_gap, member_at}
use Rattle.braid_ids.proofs.Rising.{same_bytes}
use Rattle.braid_change.specs.Updates.{UpdateView}
use Rattle.braid_graph.specs.Entries.{HoldsAll}
use Rattle.braid_tree.proofs.Keys.{ids_strict, eq_true, eq_itself}
use Rattle.braid_text.specs.Histories.{graph_of, elements_of, deletions_of}
use Rattle.braid_text.specs.Answers.{IsAnswer, HasRoom, answer_to, needs_of, room_of}
use Rattle.braid_text.specs.declared.room.Room.{Room}
use Rattle.braid_text.specs.declared.accept.Accept.{Accept}
use Rattle.braid_text.specs.declared.accept.Accept.TheVariants.{New, Memory}
use Rattle.braid_text.proofs.Judged.{ids_Decide}
use Rattle.braid_text.proofs.Public.{only_answer}
use Rattle.braid_outbox.specs.Replicas.{ReplicaView, all_of, limits_with}
use Rattle.braid_outbox.specs.Writes.{last_id, with_unsent}
use Rattle.braid_outbox.specs.Learns.{confirm, has_first, acked}
use Rattle.braid_outbox.specs.Kept.{picked, replica_in, IsKept}
use Rattle.braid_outbox.proofs.Picked.{picked_at, picked_past}
use Rattle.braid_outbox.proofs.Keeping.{all_is, alike, within, confirmed_length, with_confirmed, confirmed_kept, with_one_unsent, unsent_kept, with_first, first_kept}

-- the first of the second part stands behind the first part
first_behind : (xs ys : List UpdateView) (n : ℕ) → n ≡ length xs → slice_get (xs ++ ys) n ≡ slice_get ys 0
first_behind [] ys n e = ap (slice_get ys) e
first_behind (x ∷ xs) ys zero e = absurd (omega (arith, e))
first_behind (x ∷ xs) ys (suc n) e = first_behind xs ys n (omega (arith, e))

module _ (agent : List ℕ) (H : List UpdateView) (ns : List ℕ) (c : ℕ) (flags : List Bool) (k : IsKept agent H ns c flags) (q : ReplicaView) (e : replica_in agent H ns c ≡ q) where
  all_now : all_of q ≡ picked H ns
  all_now = sym (ap all_of e) ∙ all_is agent H ns c flags k

  -- an entry
  pub entry_past : (xs : List ℕ) (n : ℕ) → xs ≡ ns → false ≡ nat_lt n (length xs) → None ≡ slice_get (all_of q) n
  entry_past xs n x h = sym (ap (λ K. slice_get K n) all_now ∙ picked_past H ns (within agent H ns c flags k) n (slice_get_past ns n (subst (λ (ys : List ℕ). length ys ≤ n) x far)))
    where
      far : length xs ≤ n
      far = grind (arith, nat_tests)

  pub entry_found : (xs : List ℕ) (n m : ℕ) (o : Option UpdateView) → xs ≡ ns → true ≡ nat_lt n (length xs) → m ≡ get_or xs n m → o ≡ slice_get H m → o ≡ slice_get (all_of q) n
  entry_found xs n m o x h f g = g ∙ sym (ap (λ K. slice_get K n) all_now ∙ picked_at H ns (within agent H ns c flags k) n m (subst (λ (ys : List ℕ). slice_get ys n ≡ Some m) x (slice_get-get_or xs n m near ∙ ap Some (sym f))))
    where
      near : n < length xs
      near = grind (arith, nat_tests)

  pub next_is : (o : Option UpdateView) → o ≡ slice_get (all_of q) c → o ≡ slice_get q.unsent 0
  next_is o h = h ∙ first_behind q.confirmed q.unsent c (sym (confirmed_length agent H ns c flags k) ∙ ap (λ (r : ReplicaView). length r.confirmed) e)

  -- the room
  room_now : (limits : Room) → room_of limits H ≡ room_of limits (all_of q)
  room_now limits = sym ((alike agent H ns c flags k).room limits) ∙ ap (λ (r : ReplicaView). room_of limits (all_of r)) e

  pub room_is : (versions elements deletions width : ℕ) → versions ≡ length H → elements ≡ length (elements_of H) → deletions ≡ length (deletions_of H)
      → (record { versions = 524288 - versions; elements = 33554432 - elements; deletions = 67108864 - deletions; width = width }) ≡ room_of (limits_with width) (all_of q)
  room_is versions elements deletions width a b d = (λ i. record { versions = 524288 - counted i; elements = 33554432 - b i; deletions = 67108864 - d i; width = width }) ∙ room_now (limits_with width)
    where
      counted : versions ≡ length (reverse H)
      counted = a ∙ sym (length-reverse H)

  pub room_fits : (width : ℕ) (room : Room) → room ≡ room_of (limits_with width) (all_of q)
      → (length H + room.versions ≤ 524288) × (length (elements_of H) + room.elements ≤ 33554432) × (length (deletions_of H) + room.deletions ≤ 67108864)
  room_fits width room f = subst (λ (t : Room). (length H + t.versions ≤ 524288) × (length (elements_of H) + t.elements ≤ 33554432) × (length (deletions_of H) + t.deletions ≤ 67108864)) (sym (f ∙ sym (room_now (limits_with width))))
      (let l = length-reverse H in let s = k.few in omega (arith, l, s), let s = k.elements in omega (arith, s), let s = k.deletions in omega (arith, s))

  -- the answer is that of all updates
  pub answer_now : (width : ℕ) (room : Room) (u : UpdateView) (a : Accept) → room ≡ room_of (limits_with width) (all_of q) → IsRising u.parents → IsAnswer room H u a → a ≢ Memory → a ≡ answer_to (room_of (limits_with width) (all_of q)) (all_of q) u
  answer_now width room u a f rising is other = only_answer room H u k.legal rising a is other ∙ sym ((alike agent H ns c flags k).answers room u)
      ∙ ap (λ (r : ReplicaView). answer_to room (all_of r) u) e ∙ ap (λ (t : Room). answer_to t (all_of q) u) f

  roomy : (width : ℕ) (room : Room) (u : UpdateView) → room ≡ room_of (limits_with width) (all_of q) → HasRoom (needs_of H u) room → HasRoom (needs_of H u) (room_of (limits_with width) H)
  roomy width room u f h = subst (HasRoom (needs_of H u)) (f ∙ sym (room_now (limits_with width))) h

  -- a new confirmed update
  pub confirmed_view : (H' : List UpdateView) (u : UpdateView) (ns1 ns' : List ℕ) (c1 c' : ℕ) → H' ≡ H ++ u ∷ [] → ns1 ≡ ns → c1 ≡ c → ns' ≡ take c1 ns1 ++ length ns1 ∷ drop c1 ns1 → c' ≡ c1 + 1
      → replica_in agent H' ns' c' ≡ record { agent = q.agent; confirmed = q.confirmed ++ u ∷ []; unsent = q.unsent }
  confirmed_view H' u ns1 ns' c1 c' h n m x y =
      (λ i. replica_in agent (h i) ((x ∙ (λ j. take (m j) (n j) ++ length (n j) ∷ drop (m j) (n j))) i) ((y ∙ ap (λ t. t + 1) m) i))
      ∙ with_confirmed agent H ns c flags k u ∙ ap (λ (r : ReplicaView). record { agent = r.agent; confirmed = r.confirmed ++ u ∷ []; unsent = r.unsent }) e

  pub confirmed_next : (H' : List UpdateView) (u : UpdateView) (ns1 ns' : List ℕ) (c1 c' : ℕ) (flags1 flags' : List Bool) (width : ℕ) (room : Room)
      → H' ≡ H ++ u ∷ [] → ns1 ≡ ns → c1 ≡ c → flags1 ≡ flags → ns' ≡ take c1 ns1 ++ length ns1 ∷ drop c1 ns1 → c' ≡ c1 + 1 → flags' ≡ flags1 ++ true ∷ []
      → room ≡ room_of (limits_with width) (all_of q) → IsAnswer room H u New → HoldsAll (graph_of q.confirmed) u.parents → IsKept agent H' ns' c' flags'
  confirmed_next H' u ns1 ns' c1 c' flags1 flags' width room h n m f x y z r a held =
      subst (λ (t : List UpdateView). IsKept agent t ns' c' flags') (sym h)
      (subst (λ (t : List ℕ). IsKept agent (H ++ u ∷ []) t c' flags') (sym (x ∙ (λ j. take (m j) (n j) ++ length (n j) ∷ drop (m j) (n j))))
      (subst (λ (t : ℕ). IsKept agent (H ++ u ∷ []) (take c ns ++ length ns ∷ drop c ns) t flags') (sym (y ∙ ap (λ t. t + 1) m))
      (subst (IsKept agent (H ++ u ∷ []) (take c ns ++ length ns ∷ drop c ns) (c + 1)) (sym (z ∙ ap (λ t. t ++ true ∷ []) f))
      (confirmed_kept agent H ns c flags k u width a.0 (roomy width room u r a.1) (subst (λ (t : ReplicaView). HoldsAll (graph_of t.confirmed) u.parents) (sym e) held)))))

  -- a new unsent update
  pub unsent_view : (H' : List UpdateView) (u : UpdateView) (ns1 ns' : List ℕ) (c1 c' : ℕ) → H' ≡ H ++ u ∷ [] → ns1 ≡ ns → c1 ≡ c → ns' ≡ ns1 ++ length ns1 ∷ [] → c' ≡ c1 → replica_in agent H' ns' c' ≡ with_unsent q (u ∷ [])
  unsent_view H' u ns1 ns' c1 c' h n m x y =
      (λ i. replica_in agent (h i) ((x ∙ (λ j. n j ++ length (n j) ∷ [])) i) ((y ∙ m) i)) ∙ with_one_unsent agent H ns c flags k u ∙ ap (λ (r : ReplicaView). with_unsent r (u ∷ [])) e

  pub unsent_next : (H' : List UpdateView) (u : UpdateView) (ns1 ns' : List ℕ) (c1 c' : ℕ) (flags1 flags' : List Bool) (width : ℕ) (room : Room)
      → H' ≡ H ++ u ∷ [] → ns1 ≡ ns → c1 ≡ c → flags1 ≡ flags → ns' ≡ ns1 ++ length ns1 ∷ [] → c' ≡ c1 → flags' ≡ flags1 ++ false ∷ []
      → room ≡ room_of (limits_with width) (all_of q) → IsAnswer room H u New → ((v : List ℕ) → last_id q.unsent ≡ Some v → Contains u.parents v) → IsKept agent H' ns' c' flags'
  unsent_next H' u ns1 ns' c1 c' flags1 flags' width room h n m f x y z r a chain =
      subst (λ (t : List UpdateView). IsKept agent t ns' c' flags') (sym h)
      (subst (λ (t : List ℕ). IsKept agent (H ++ u ∷ []) t c' flags') (sym (x ∙ (λ j. n j ++ length (n j) ∷ [])))
      (subst (λ (t : ℕ). IsKept agent (H ++ u ∷ []) (ns ++ length ns ∷ []) t flags') (sym (y ∙ m))
      (subst (IsKept agent (H ++ u ∷ []) (ns ++ length ns ∷ []) c) (sym (z ∙ ap (λ t. t ++ false ∷ []) f))
      (unsent_kept agent H ns c flags k u width a.0 (roomy width room u r a.1) (λ v g. chain v (sym (ap (λ (t : ReplicaView). last_id t.unsent) e) ∙ g))))))

  -- nothing of it changed
  pub same_view : (H' : List UpdateView) (ns' : List ℕ) (c' : ℕ) → H' ≡ H → ns' ≡ ns → c' ≡ c → replica_in agent H' ns' c' ≡ q
  same_view H' ns' c' h n m = (λ i. replica_in agent (h i) (n i) (m i)) ∙ e

  -- the first unsent update is confirmed
  module _ (some : 0 < length q.unsent) where
    pub first_number : (n : ℕ) × (slice_get ns c ≡ Some n)
    first_number = go (slice_get ns c) refl
      where
        go : (o : Option ℕ) → slice_get ns c ≡ o → (n : ℕ) × (slice_get ns c ≡ Some n)
        go (Some n) f = (n, f)
        go None f = absurd (no_gap q.unsent 0 some (sym (next_is None (sym (ap (λ K. slice_get K c) all_now ∙ picked_past H ns (within agent H ns c flags k) c f)))))

    pub first_flag : IfSome (slice_get ns c) (λ n. n < length flags)
    first_flag = subst (λ (o : Option ℕ). IfSome o (λ n. n < length flags)) (sym first_number.1) (let w = within agent H ns c flags k (first_number.0) (member_at ns c (first_number.0) (first_number.1)) in let z = k.size in omega (arith, w, z))

    set_first : (flags' : List Bool) → IfSome (slice_get ns c) (λ n. flags' ≡ set flags n true) → flags' ≡ set flags (first_number.0) true
    set_first flags' h = subst (λ (o : Option ℕ). IfSome o (λ n. flags' ≡ set flags n true)) (first_number.1) h

    pub first_view : (ns' : List ℕ) (c' : ℕ) → ns' ≡ ns → c' ≡ c + 1 → replica_in agent H ns' c' ≡ confirm q q.unsent
    first_view ns' c' n m = (λ i. replica_in agent H (n i) (m i)) ∙ with_first agent H ns c flags k (first_number.0) (first_number.1) ∙ ap (λ (r : ReplicaView). confirm r r.unsent) e

    pub first_next : (ns' : List ℕ) (c' : ℕ) (flags' : List Bool) → ns' ≡ ns → c' ≡ c + 1 → IfSome (slice_get ns c) (λ n. flags' ≡ set flags n true) → IsKept agent H ns' c' flags'
    first_next ns' c' flags' n m f =
        subst (λ (t : List ℕ). IsKept agent H t c' flags') (sym n)
        (subst (λ (t : ℕ). IsKept agent H ns t flags') (sym m)
        (subst (IsKept agent H ns (c + 1)) (sym (set_first flags' f)) (first_kept agent H ns c flags k (first_number.0) (first_number.1))))

-- acknowledging
pub other_id : (v w : List ℕ) → true ≡ not (pointwise nat_eq w v) → is_eq (id_cmp v w) ≡ false
other_id v w h = go (is_eq (id_cmp v w)) refl
  where
    go : (b : Bool) → is_eq (id_cmp v w) ≡ b → b ≡ false
    go false t = refl
    go true t = let s : pointwise nat_eq w v ≡ true = (ids_Decide w v).1 (sym (eq_true id_cmp ids_strict v w t)) in cc

pub same_id : (v w : List ℕ) → false ≡ not (pointwise nat_eq w v) → is_eq (id_cmp v w) ≡ true
same_id v w h = subst (λ (t : List ℕ). is_eq (id_cmp v t) ≡ true) (sym (same_bytes w v (go (pointwise nat_eq w v) h))) (eq_itself id_cmp ids_strict v)
  where
    go : (b : Bool) → false ≡ not b → b ≡ true
    go true t = refl
    go false t = cc

pub other_first : (v w : List ℕ) (u : UpdateView) (us : List UpdateView) → Some u ≡ slice_get us 0 → w ≡ u.id → true ≡ not (pointwise nat_eq w v) → false ≡ has_first v us
other_first v w u [] e f h = cc
other_first v w u (x ∷ us) e f h = let g : u ≡ x = cc in sym (other_id v x.id (subst (λ (t : List ℕ). true ≡ not (pointwise nat_eq t v)) (f ∙ ap (λ (t : UpdateView). t.id) g) h))

pub same_first : (v w : List ℕ) (u : UpdateView) (us : List UpdateView) → Some u ≡ slice_get us 0 → w ≡ u.id → false ≡ not (pointwise nat_eq w v) → true ≡ has_first v us
same_first v w u [] e f h = cc
same_first v w u (x ∷ us) e f h = let g : u ≡ x = cc in sym (same_id v x.id (subst (λ (t : List ℕ). false ≡ not (pointwise nat_eq t v)) (f ∙ ap (λ (t : UpdateView). t.id) g) h))

pub not_acked : (v : List ℕ) (r : ReplicaView) → false ≡ has_first v r.unsent → r ≡ acked v r
not_acked v r h = ap (λ (b : Bool). cond b (confirm r r.unsent) r) h

pub is_acked : (v : List ℕ) (r q : ReplicaView) → true ≡ has_first v r.unsent → q ≡ confirm r r.unsent → q ≡ acked v r
is_acked v r q h e = e ∙ ap (λ (b : Bool). cond b (confirm r r.unsent) r) h

pub some_first : (u : UpdateView) (us : List UpdateView) → Some u ≡ slice_get us 0 → 0 < length us
some_first u [] e = cc
some_first u (x ∷ us) e = omega arith

-- Frontiers of logs: their members and their order, the parents of a pure merge, and how much narrower a merge makes them.
use Rattle.std.proofs.Common.{◌≡◌, ℕ, ◌≤◌, ◌<◌, ◌+◌, List, [], ◌∷◌, false, not, refl, sym, ap, subst, ◌∙◌, inl, inr, arith, take, filter, length, suc, zero, Less, Option, Some, None, length-take}
use Rattle.std.proofs.lemmas.List.Filters.{length-filter_both}
use Rattle.std.proofs.lemmas.List.Kept.{IsStrictlySortedBy-filter}
use Rattle.std.specs.List.Sorted.{IsStrictlySortedBy}
use Rattle.std.specs.Ordering.{is_eq}
use Rattle.braid_ids.specs.Identifiers.{id_cmp}
use Rattle.braid_ids.specs.Frontiers.{IsRising, rising_ids}
use Rattle.braid_ids.proofs.Inserted.{AllDistinct, member_rising, member_from_rising, length_rising, rises_ids, rising_within}
use Rattle.braid_ids.proofs.Rising.{rising_same}
use Rattle.braid_change.specs.Updates.{UpdateView}
use Rattle.braid_graph.specs.Entries.{Holds, has_id}
use Rattle.braid_graph.specs.Frontiers.{IsParent}
use Rattle.braid_graph.proofs.Frontiers.{frontier_is}
use Rattle.braid_tree.specs.Trees.{Member}
use Rattle.braid_tree.proofs.Member.{all_member, all_from_members}
use Rattle.braid_tree.proofs.Keys.{ids_strict, eq_true, eq_itself}
use Rattle.braid_tree.proofs.Order.{irrefl}
use Rattle.braid_rebase.proofs.Filtered.{member_filter, filter_member, take_member}
use Rattle.braid_rebase.proofs.Members.{contains_member, member_contains, member_map}
use Rattle.braid_text.specs.Histories.{entry_of, graph_of, IsLegalLog}
use Rattle.braid_text.proofs.Held.{id_member, member_id}
use Rattle.braid_text.proofs.Whole.{not_true}
use Rattle.braid_text.proofs.Logs.{Has, false_from, holds_has, has_holds}
use Rattle.braid_text.proofs.Ties.{IsParentIn, newest_free, frontier_names}
use Rattle.braid_outbox.specs.Replicas.{frontier}
use Rattle.braid_outbox.specs.Writes.{merged_of, merge_parents}

pub frontier_rises : (us : List UpdateView) → IsRising (frontier us)
frontier_rises us = (frontier_is (graph_of us)).rising

-- the members of a frontier: identifiers of updates that are no parents
pub frontier_cases : (us : List UpdateView) (v : List ℕ) → Member v (frontier us) → Has us v × (IsParentIn us v → ⊥)
frontier_cases us v m = go (((frontier_is (graph_of us)).exact v).0 (member_contains (frontier us) v m))
  where
    parent : IsParentIn us v → IsParent (graph_of us) v
    parent (w, k, n) = (entry_of w, member_contains (graph_of us) (entry_of w) (member_map entry_of w us k), member_contains w.parents v n)

    go : Holds (graph_of us) v × (IsParent (graph_of us) v → ⊥) → Has us v × (IsParentIn us v → ⊥)
    go (h, none) = (holds_has us v h, λ p. none (parent p))

pub frontier_has : (us : List UpdateView) (u : UpdateView) → Member u us → (IsParentIn us u.id → ⊥) → Member u.id (frontier us)
frontier_has us u m none = elim (frontier_names us u m) [ inl a ↦ a | inr p ↦ absurd (none p) ]

pub newest_in : (u : UpdateView) (us : List UpdateView) → IsLegalLog (u ∷ us) → Member u.id (frontier (u ∷ us))
newest_in u us legal = frontier_has (u ∷ us) u (inl refl) (newest_free u us legal)

-- each identifier is below those after it
rises_first : (v : List ℕ) (ws : List (List ℕ)) → IsRising (v ∷ ws) → (w : List ℕ) → Member w ws → id_cmp v w ≡ Less
unfolding IsStrictlySortedBy
rises_first v ws r w m = all_member (λ (t : List ℕ). id_cmp v t ≡ Less) w ws r.0 m

rises_rest : (v : List ℕ) (ws : List (List ℕ)) → IsRising (v ∷ ws) → IsRising ws
unfolding IsStrictlySortedBy
rises_rest v ws r = r.1

rises_none : IsRising []
unfolding IsStrictlySortedBy
rises_none = tt

rises_more : (v : List ℕ) (ws : List (List ℕ)) → ((w : List ℕ) → Member w ws → id_cmp v w ≡ Less) → IsRising ws → IsRising (v ∷ ws)
unfolding IsStrictlySortedBy
rises_more v ws below r = (all_from_members (λ (t : List ℕ). id_cmp v t ≡ Less) ws below, r)

pub take_rises : (n : ℕ) (ws : List (List ℕ)) → IsRising ws → IsRising (take n ws)
take_rises zero ws r = rises_none
take_rises (suc n) [] r = r
take_rises (suc n) (w ∷ ws) r = rises_more w (take n ws) (λ x m. rises_first w ws r x (take_member x n ws m)) (take_rises n ws (rises_rest w ws r))

pub distinct_rising : (ws : List (List ℕ)) → IsRising ws → AllDistinct ws
distinct_rising [] r = tt
distinct_rising (w ∷ ws) r = ((λ m. irrefl id_cmp ids_strict w (rises_first w ws r w m)), distinct_rising ws (rises_rest w ws r))

-- two rising lists with the same members are one
pub same_rising : (xs ys : List (List ℕ)) → IsRising xs → IsRising ys → ((v : List ℕ) → Member v xs → Member v ys) → ((v : List ℕ) → Member v ys → Member v xs) → xs ≡ ys
same_rising xs ys rx ry to from = rising_same xs ys rx ry (λ v. ((λ c. member_contains ys v (to v (contains_member xs v c))), (λ c. member_contains xs v (from v (contains_member ys v c)))))

-- of a rising list, all but one are others
others_length : (v : List ℕ) (F : List (List ℕ)) → IsRising F → Member v F → length (filter (λ (w : List ℕ). not (is_eq (id_cmp v w))) F) + 1 ≡ length F
others_length v F r m = omega (arith, length-filter_both (λ (w : List ℕ). is_eq (id_cmp v w)) (λ (w : List ℕ). not (is_eq (id_cmp v w))) (λ x. refl) F, one)
  where
    itself : filter (λ (w : List ℕ). is_eq (id_cmp v w)) F ≡ v ∷ []
    itself = same_rising (filter (λ (w : List ℕ). is_eq (id_cmp v w)) F) (v ∷ []) (IsStrictlySortedBy-filter id_cmp (λ (w : List ℕ). is_eq (id_cmp v w)) F r) (rises_more v [] (λ w n. absurd n) rises_none)
        (λ w n. inl (eq_true id_cmp ids_strict v w (member_filter (λ (x : List ℕ). is_eq (id_cmp v x)) w F n).1))
        (λ w n. elim n [
          | inl e ↦ subst (λ (x : List ℕ). Member x (filter (λ (y : List ℕ). is_eq (id_cmp v y)) F)) e (filter_member (λ (x : List ℕ). is_eq (id_cmp v x)) v F m (eq_itself id_cmp ids_strict v))
          | inr k ↦ absurd k
        ])

    one : length (filter (λ (w : List ℕ). is_eq (id_cmp v w)) F) ≡ 1
    one = ap length itself

-- the parents of a merge: 32 members of the frontier, rising, with the last unsent update
merged_in : (last : Option (List ℕ)) (F : List (List ℕ)) → ((v : List ℕ) → last ≡ Some v → Member v F) → (w : List ℕ) → Member w (merged_of last F) → Member w F
merged_in None F there w m = take_member w 32 F m
merged_in (Some v) F there w (inl e) = subst (λ (x : List ℕ). Member x F) e (there v refl)
merged_in (Some v) F there w (inr m) = (member_filter (λ (x : List ℕ). not (is_eq (id_cmp v x))) w F (take_member w 31 (filter (λ (x : List ℕ). not (is_eq (id_cmp v x))) F) m)).0

pub merge_in : (last : Option (List ℕ)) (F : List (List ℕ)) → ((v : List ℕ) → last ≡ Some v → Member v F) → (w : List ℕ) → Member w (merge_parents last F) → Member w F
merge_in last F there w m = merged_in last F there w (member_from_rising w (merged_of last F) m)

merged_few : (last : Option (List ℕ)) (F : List (List ℕ)) → length (merged_of last F) ≤ 32
merged_few None F = omega (arith, length-take 32 F)
merged_few (Some v) F = omega (arith, length-take 31 (filter (λ (x : List ℕ). not (is_eq (id_cmp v x))) F))

pub merge_few : (last : Option (List ℕ)) (F : List (List ℕ)) → length (merge_parents last F) ≤ 32
merge_few last F = omega (arith, merged_few last F, rising_within (merged_of last F))

pub merge_rises : (last : Option (List ℕ)) (F : List (List ℕ)) → IsRising (merge_parents last F)
merge_rises last F = rises_ids (merged_of last F)

pub merge_names : (v : List ℕ) (F : List (List ℕ)) → Member v (merge_parents (Some v) F)
merge_names v F = member_rising v (merged_of (Some v) F) (inl refl)

merged_distinct : (last : Option (List ℕ)) (F : List (List ℕ)) → IsRising F → AllDistinct (merged_of last F)
merged_distinct None F r = distinct_rising (take 32 F) (take_rises 32 F r)
merged_distinct (Some v) F r = (other, distinct_rising (take 31 G) (take_rises 31 G (IsStrictlySortedBy-filter id_cmp (λ (x : List ℕ). not (is_eq (id_cmp v x))) F r)))
  where
    G : List (List ℕ)
    G = filter (λ (x : List ℕ). not (is_eq (id_cmp v x))) F

    other : Member v (take 31 G) → ⊥
    other m = let t = (member_filter (λ (x : List ℕ). not (is_eq (id_cmp v x))) v F (take_member v 31 G m)).1 in
        let f = not_true (is_eq (id_cmp v v)) t in let g = eq_itself id_cmp ids_strict v in cc

-- of a frontier of more than 32 a merge takes 32
wide_merge : (last : Option (List ℕ)) (F : List (List ℕ)) → IsRising F → ((v : List ℕ) → last ≡ Some v → Member v F) → 32 < length F → length (merge_parents last F) ≡ 32
wide_merge last F r there wide = length_rising (merged_of last F) (merged_distinct last F r) ∙ count last there
  where
    count : (last : Option (List ℕ)) → ((v : List ℕ) → last ≡ Some v → Member v F) → length (merged_of last F) ≡ 32
    count None there = omega (arith, wide, length-take 32 F)
    count (Some v) there = omega (arith, wide, others_length v F r (there v refl), length-take 31 (filter (λ (x : List ℕ). not (is_eq (id_cmp v x))) F))

-- after a merge of a frontier of more than 32 it has 31 fewer
pub narrower : (us : List UpdateView) (m : UpdateView) (last : Option (List ℕ)) → IsLegalLog (m ∷ us) → m.parents ≡ merge_parents last (frontier us) → ((v : List ℕ) → last ≡ Some v → Member v (frontier us)) → 32 < length (frontier us)
    → length (frontier (m ∷ us)) + 31 ≡ length (frontier us)
narrower us m last legal named there wide = omega (arith, ap length after, grown, ap length taken, size, length-filter_both (λ (v : List ℕ). has_id v ps) (λ (v : List ℕ). not (has_id v ps)) (λ v. refl) F)
  where
    F : List (List ℕ)
    F = frontier us

    ps : List (List ℕ)
    ps = merge_parents last F

    stays : List (List ℕ)
    stays = filter (λ (v : List ℕ). not (has_id v ps)) F

    size : length ps ≡ 32
    size = wide_merge last F (frontier_rises us) there wide

    taken : filter (λ (v : List ℕ). has_id v ps) F ≡ ps
    taken = same_rising (filter (λ (v : List ℕ). has_id v ps) F) ps (IsStrictlySortedBy-filter id_cmp (λ (v : List ℕ). has_id v ps) F (frontier_rises us)) (merge_rises last F)
        (λ v k. id_member v ps (member_filter (λ (x : List ℕ). has_id x ps) v F k).1)
        (λ v k. filter_member (λ (x : List ℕ). has_id x ps) v F (merge_in last F there v k) (member_id v ps k))

    new : Has us m.id → ⊥
    new h = legal.0.new (has_holds us m.id h)

    fresh : Member m.id stays → ⊥
    fresh k = new (frontier_cases us m.id (member_filter (λ (x : List ℕ). not (has_id x ps)) m.id F k).0).0

    grown : length (rising_ids (m.id ∷ stays)) ≡ suc (length stays)
    grown = length_rising (m.id ∷ stays) (fresh, distinct_rising stays (IsStrictlySortedBy-filter id_cmp (λ (v : List ℕ). not (has_id v ps)) F (frontier_rises us)))

    to : (v : List ℕ) → Member v (frontier (m ∷ us)) → Member v (rising_ids (m.id ∷ stays))
    to v k = member_rising v (m.id ∷ stays) (by (frontier_cases (m ∷ us) v k))
      where
        by : Has (m ∷ us) v × (IsParentIn (m ∷ us) v → ⊥) → Member v (m.id ∷ stays)
        by ((u, inl e, f), none) = inl (ap (λ (t : UpdateView). t.id) e ∙ f)
        by ((u, inr n, f), none) = inr (filter_member (λ (x : List ℕ). not (has_id x ps)) v F
            (subst (λ (x : List ℕ). Member x F) f (frontier_has us u n (λ p. none (p.0, inr p.1, subst (λ (x : List ℕ). Member x (p.0).parents) f p.2))))
            (ap not (false_from (has_id v ps) (λ t. none (m, inl refl, subst (Member v) (sym named) (id_member v ps t))))))

    from : (v : List ℕ) → Member v (rising_ids (m.id ∷ stays)) → Member v (frontier (m ∷ us))
    from v k = by (member_from_rising v (m.id ∷ stays) k)
      where
        stay : Member v F → has_id v ps ≡ false → Member v (frontier (m ∷ us))
        stay n out = go (frontier_cases us v n)
          where
            go : Has us v × (IsParentIn us v → ⊥) → Member v (frontier (m ∷ us))
            go ((u, j, f), none) = subst (λ (x : List ℕ). Member x (frontier (m ∷ us))) f (frontier_has (m ∷ us) u (inr j) (λ p. no p))
              where
                no : IsParentIn (m ∷ us) u.id → ⊥
                no (w, inl e, i) = let t = member_id v ps (subst (Member v) (ap (λ (x : UpdateView). x.parents) (sym e) ∙ named) (subst (λ (x : List ℕ). Member x w.parents) f i)) in cc
                no (w, inr h, i) = none (w, h, subst (λ (x : List ℕ). Member x w.parents) f i)

        by : Member v (m.id ∷ stays) → Member v (frontier (m ∷ us))
        by (inl e) = subst (λ (x : List ℕ). Member x (frontier (m ∷ us))) e (newest_in m us legal)
        by (inr n) = let f = member_filter (λ (x : List ℕ). not (has_id x ps)) v F n in stay f.0 (not_true (has_id v ps) f.1)

    after : frontier (m ∷ us) ≡ rising_ids (m.id ∷ stays)
    after = same_rising (frontier (m ∷ us)) (rising_ids (m.id ∷ stays)) (frontier_rises (m ∷ us)) (rises_ids (m.id ∷ stays)) to from

-- What is sorted by the identifiers of a legal history's updates gives them by rising identifier.
use Rattle.std.proofs.Common.{◌≡◌, ℕ, ◌+◌, ◌<◌, List, [], ◌∷◌, ◌++◌, Bool, true, false, Ordering, Less, Equal, Greater, length, map, reverse, take, get_or, refl, sym, ap, subst, ◌∙◌, inl, inr, arith}
use Rattle.std.specs.List.{AllByRecursion, Contains, IsDistinct}
use Rattle.std.specs.List.Sorted.{IsPermutation, IsSortedByKey}
use Rattle.std.specs.Ordering.{is_lt, is_eq, eq_by_cmp, ordering_reverse}
use Rattle.std.proofs.lemmas.Cmp.{nat_list_cmp_total}
use Rattle.std.proofs.lemmas.List.{get_or-map, length-map, take_more}
use Rattle.std.proofs.lemmas.List.Sorted.{IsPermutation-map, IsPermutation-trans, IsPermutation-sym, IsPermutation-reverse, Contains-permutation}
use Rattle.std.proofs.lemmas.Map.Keys.{IsDistinct-IsPermutation, apart_from_distinct, sorted_from_all_adjacent}
use Rattle.braid_ids.specs.Identifiers.{id_cmp}
use Rattle.braid_ids.specs.Frontiers.{IsRising, rising_ids}
use Rattle.braid_ids.proofs.Ids.{eq_true}
use Rattle.braid_ids.proofs.Inserted.{rises_ids, rising_members}
use Rattle.braid_ids.proofs.Rising.{rising_same}
use Rattle.braid_change.specs.Updates.{UpdateView}
use Rattle.braid_tree.specs.Trees.{Member}
use Rattle.braid_rebase.proofs.Members.{member_contains, in_log}
use Rattle.braid_text.specs.Histories.{IsLegal, IsLegalLog}
use Rattle.braid_text.specs.Digested.{id_in, by_identifier}
use Rattle.braid_text.proofs.Held.{one_update}
use Rattle.braid_text.proofs.Logs.{has_holds}
use Rattle.braid_text.proofs.Digests.{ordered_ids, ordered_there, same_by_ids}

-- an identifier differs from those of updates that have others
all_differ : (v : List ℕ) (ws : List UpdateView) → ((w : UpdateView) → Member w ws → v ≡ w.id → ⊥) → AllByRecursion (λ y. eq_by_cmp id_cmp v y ≡ false) (map id_in ws)
all_differ v [] f = tt
all_differ v (w ∷ ws) f = (go (eq_by_cmp id_cmp v w.id) refl, all_differ v ws (λ x m. f x (inr m)))
  where
    go : (b : Bool) → eq_by_cmp id_cmp v w.id ≡ b → b ≡ false
    go true e = absurd (f w (inl refl) (eq_true v w.id e))
    go false e = refl

-- the identifiers of a legal log differ
distinct_log : (us : List UpdateView) → IsLegalLog us → IsDistinct (eq_by_cmp id_cmp) (map id_in us)
unfolding IsDistinct
distinct_log [] legal = tt
distinct_log (u ∷ us) legal = (all_differ u.id us (λ w m e. legal.0.new (has_holds us u.id (w, m, sym e))), distinct_log us legal.1)

flips : (x y : List ℕ) → eq_by_cmp id_cmp x y ≡ eq_by_cmp id_cmp y x
flips x y = ap is_eq (nat_list_cmp_total.antisymm x y) ∙ turned (id_cmp y x)
  where
    turned : (o : Ordering) → is_eq (ordering_reverse o) ≡ is_eq o
    turned Less = refl
    turned Equal = refl
    turned Greater = refl

-- one of two identifiers is below the other where they differ and the other is not below it
below : (a b : List ℕ) → eq_by_cmp id_cmp a b ≡ false → is_lt (id_cmp b a) ≡ false → id_cmp a b ≡ Less
below a b differ high = go (id_cmp a b) refl
  where
    go : (o : Ordering) → id_cmp a b ≡ o → o ≡ Less
    go Less e = refl
    go Equal e = let h = ap is_eq (sym e) ∙ differ in cc
    go Greater e = let h = ap is_lt (sym (nat_list_cmp_total.antisymm b a ∙ ap ordering_reverse e)) ∙ high in cc

module _ {X : Type 0} (f : X → UpdateView) where
  mapped : (xs : List X) → map id_in (map f xs) ≡ map (λ x. (f x).id) xs
  mapped [] = refl
  mapped (x ∷ xs) = ap (λ t. (f x).id ∷ t) (mapped xs)

  rises : (xs : List X) → IsDistinct (eq_by_cmp id_cmp) (map (λ x. (f x).id) xs) → IsSortedByKey (λ x. (f x).id) id_cmp xs → IsRising (map (λ x. (f x).id) xs)
  rises xs distinct up = sorted_from_all_adjacent nat_list_cmp_total (map (λ x. (f x).id) xs) [] (λ k l. next xs distinct up k (omega (arith, l, length-map xs (λ x. (f x).id))))
    where
      next : (xs : List X) → IsDistinct (eq_by_cmp id_cmp) (map (λ x. (f x).id) xs) → IsSortedByKey (λ x. (f x).id) id_cmp xs → (k : ℕ) → k + 1 < length xs → id_cmp (get_or (map (λ x. (f x).id) xs) k []) (get_or (map (λ x. (f x).id) xs) (k + 1) []) ≡ Less
      next [] distinct up k l = absurd (omega (arith, l))
      next (d ∷ xs) distinct up k l =
          let ids = map (λ x. (f x).id) (d ∷ xs) in
          let here : get_or ids k [] ≡ (f (get_or (d ∷ xs) k d)).id = get_or-map (λ x. (f x).id) (d ∷ xs) k d [] (omega (arith, l)) in
          let there : get_or ids (k + 1) [] ≡ (f (get_or (d ∷ xs) (k + 1) d)).id = get_or-map (λ x. (f x).id) (d ∷ xs) (k + 1) d [] l in
          below (get_or ids k []) (get_or ids (k + 1) []) (apart_from_distinct (eq_by_cmp id_cmp) ids k (k + 1) [] distinct (omega arith) (omega (arith, l, length-map (d ∷ xs) (λ x. (f x).id))))
          (ap is_lt (λ i. id_cmp (there i) (here i)) ∙ up k d (omega arith) l)

  pub sorted_is : (H : List UpdateView) (xs ys : List X) → IsLegal H → map f xs ≡ H → IsPermutation xs ys → IsSortedByKey (λ x. (f x).id) id_cmp ys → map f ys ≡ by_identifier H
  sorted_is H xs ys legal all moved up = same_by_ids (map f ys) (by_identifier H) ids (λ x y m n e. one_update (reverse H) legal x y (in_log H x (there x (member_contains (map f ys) x m))) (in_log H y (member_contains H y (ordered_there H y n))) e)
    where
      moved_all : IsPermutation H (map f ys)
      moved_all = subst (λ (t : List UpdateView). IsPermutation t (map f ys)) all (IsPermutation-map f xs ys moved)

      there : (x : UpdateView) → Contains (map f ys) x → Contains H x
      there x = Contains-permutation (map f ys) H x (IsPermutation-sym H (map f ys) moved_all)

      distinct : IsDistinct (eq_by_cmp id_cmp) (map id_in (map f ys))
      distinct = IsDistinct-IsPermutation (eq_by_cmp id_cmp) flips (map id_in (reverse H)) (map id_in (map f ys))
          (IsPermutation-map id_in (reverse H) (map f ys) (IsPermutation-trans (reverse H) H (map f ys) (IsPermutation-sym H (reverse H) (IsPermutation-reverse H)) moved_all)) (distinct_log (reverse H) legal)

      rising : IsRising (map id_in (map f ys))
      rising = subst IsRising (sym (mapped ys)) (rises ys (subst (IsDistinct (eq_by_cmp id_cmp)) (mapped ys) distinct) up)

      ids_moved : IsPermutation (map id_in H) (map id_in (map f ys))
      ids_moved = IsPermutation-map id_in H (map f ys) moved_all

      ids : map id_in (map f ys) ≡ map id_in (by_identifier H)
      ids = rising_same (map id_in (map f ys)) (rising_ids (map id_in H)) rising (rises_ids (map id_in H)) (λ v. (
        λ c. (rising_members (map id_in H) v).1 (Contains-permutation (map id_in (map f ys)) (map id_in H) v (IsPermutation-sym (map id_in H) (map id_in (map f ys)) ids_moved) c),
        λ c. Contains-permutation (map id_in H) (map id_in (map f ys)) v ids_moved ((rising_members (map id_in H) v).0 c),
      )) ∙ sym (ordered_ids H)

-- one more of a list whose elements stand for updates
pub take_mapped : {X : Type 0} (f : X → UpdateView) (us : List UpdateView) (xs ys : List X) (i : ℕ) (x : X) → map f xs ≡ us → ys ≡ xs → i < length ys → x ≡ get_or ys i x → take i us ++ f x ∷ [] ≡ take (i + 1) us
take_mapped f us xs ys i x all same l is =
    let here : map f ys ≡ us = ap (map f) same ∙ all in
    let at : f x ≡ get_or us i (f x) = ap f is ∙ sym (get_or-map f ys i x (f x) l) ∙ ap (λ (t : List UpdateView). get_or t i (f x)) here in
    ap (λ (t : UpdateView). take i us ++ t ∷ []) at ∙ sym (take_more us i (f x) (omega (arith, l, length-map ys f, ap length here)))

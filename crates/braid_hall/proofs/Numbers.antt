-- The clause on numbers, after a split and after a join.
use Rattle.std.proofs.Common.{◌≡◌, ℕ, ◌+◌, ◌<◌, ◌≢◌, true, false, List, [], ◌∷◌, ◌++◌, length, set, sym, refl, ap, ◌∙◌, subst, ⊎_elim, arith, length-set, length-append, true≢false}
use mathlib.Core.Option.{some}
use lib.ListN.{get_elem?}
use Rattle.std.specs.Prelude.{Contains}
use Rattle.atomic_table.proofs.Lists.{at_set, set_here, set_else, at_longer, at_last}
use Rattle.braid_hall.specs.Histories.{without}
use Rattle.braid_hall.specs.Views.{SplitParts}
use Rattle.braid_hall.specs.Turns.{IsNumbered}
use Rattle.braid_hall.proofs.Places.{at_inside, at_one, at_snoc_place}
use Rattle.braid_hall.proofs.Members.{among_more, among_last, among_split, without_keeps, without_has}

module _ {E : Type 0} (added_of : ℕ → List E) (parts : List (SplitParts E)) (q : IsNumbered added_of parts) where
  -- pass 0 splits one off
  pub numbered_splits : (v : SplitParts E) → get_elem? parts 0 ≡ some v → IsNumbered added_of (set parts 0 (v.0, v.1 + 1, v.2 ++ (v.1 + 1) ∷ [], v.3) ++ (true, 0, [], []) ∷ [])
  numbered_splits v at = let w : SplitParts E = (v.0, v.1 + 1, v.2 ++ (v.1 + 1) ∷ [], v.3) in let new : SplitParts E = (true, 0, [], []) in let is : q.root ≡ v = at_one parts 0 q.root v q.is_root at in
      let mid : List (SplitParts E) = set parts 0 w in let len = length-set parts 0 w in let len' = length-append mid (new ∷ []) in let count : length parts ≡ v.1 + 1 = q.counted ∙ ap (λ (z : SplitParts E). z.1 + 1) is in
      let last : get_elem? (mid ++ new ∷ []) (v.1 + 1) ≡ some new = at_last mid new (v.1 + 1) (len ∙ count) in record {
        root = w;
        is_root = at_longer mid (new ∷ []) 0 w (set_here parts 0 w (at_inside parts 0 v at));
        lives = ap (λ (z : SplitParts E). z.0) (sym is) ∙ q.lives;
        counted = omega arith;
        out = λ j r e pos lives. ⊎_elim
            (λ h. ⊎_elim (λ (t : (j ≡ 0) × (w ≡ r)). let z = t.0 in absurd (omega arith)) (λ (t : (j ≢ 0) × (get_elem? parts j ≡ some r)). among_more j v.2 ((v.1 + 1) ∷ []) (subst (λ (z : SplitParts E). Contains z.2 j) is (q.out j r t.1 pos lives))) (at_set parts 0 j w r h))
            (λ (t : (j ≡ length mid) × (new ≡ r)). subst (λ (z : ℕ). Contains (v.2 ++ (v.1 + 1) ∷ []) z) (sym (t.0 ∙ (len ∙ count))) (among_last (v.1 + 1) v.2)) (at_snoc_place mid new r j e);
        back = λ j a. ⊎_elim
            (λ h. let old = q.back j (subst (λ (z : SplitParts E). Contains z.2 j) (sym is) h) in let pos = old.0 in (pos, (old.1.0, at_longer mid (new ∷ []) j old.1.0 (set_else parts 0 j w (λ e. omega arith) ∙ old.1.1), old.1.2)))
            (λ (e : v.1 + 1 ≡ j). (omega arith, (new, ap (λ (z : ℕ). get_elem? (mid ++ new ∷ []) z) (sym e) ∙ last, refl))) (among_split j (v.1 + 1) v.2 a);
        gone = λ j r e dead. ⊎_elim
            (λ h. ⊎_elim (λ (t : (j ≡ 0) × (w ≡ r)). absurd (true≢false (sym q.lives ∙ (ap (λ (z : SplitParts E). z.0) is ∙ (ap (λ (z : SplitParts E). z.0) t.1 ∙ dead)))))
            (λ (t : (j ≢ 0) × (get_elem? parts j ≡ some r)). subst (λ (z : SplitParts E). Contains z.3 (j, added_of j)) is (q.gone j r t.1 dead)) (at_set parts 0 j w r h))
            (λ (t : (j ≡ length mid) × (new ≡ r)). absurd (true≢false (ap (λ (z : SplitParts E). z.0) t.1 ∙ dead))) (at_snoc_place mid new r j e);
        only = λ j l a. let old = q.only j l (subst (λ (z : SplitParts E). Contains z.3 (j, l)) (sym is) a) in
            ((old.0.0, at_longer mid (new ∷ []) j old.0.0 (set_else parts 0 j w (λ e. true≢false (sym q.lives ∙ (ap (λ (z : SplitParts E). z.0) (at_one parts j q.root old.0.0 (ap (λ (z : ℕ). get_elem? parts z) e ∙ q.is_root) old.0.1) ∙ old.0.2))) ∙ old.0.1), old.0.2), old.1);
        plain = λ j r e pos. ⊎_elim
            (λ h. ⊎_elim (λ (t : (j ≡ 0) × (w ≡ r)). let z = t.0 in absurd (omega arith)) (λ (t : (j ≢ 0) × (get_elem? parts j ≡ some r)). q.plain j r t.1 pos) (at_set parts 0 j w r h))
            (λ (t : (j ≡ length mid) × (new ≡ r)). (ap (λ (z : SplitParts E). z.1) (sym t.1), ap (λ (z : SplitParts E). z.2) (sym t.1), ap (λ (z : SplitParts E). z.3) (sym t.1))) (at_snoc_place mid new r j e);
      }

  -- pass 0 takes in the pass k
  pub numbered_joins : (v : SplitParts E) (k : ℕ) (u : SplitParts E) → get_elem? parts 0 ≡ some v → k ≢ 0 → get_elem? parts k ≡ some u → u.0 ≡ true
      → IsNumbered added_of (set (set parts 0 (v.0, v.1, without k v.2, v.3 ++ (k, added_of k) ∷ [])) k (false, 0, [], []))
  numbered_joins v k u at other there lives_k = let w : SplitParts E = (v.0, v.1, without k v.2, v.3 ++ (k, added_of k) ∷ []) in let dead : SplitParts E = (false, 0, [], []) in let is : q.root ≡ v = at_one parts 0 q.root v q.is_root at in
      let mid : List (SplitParts E) = set parts 0 w in let len = length-set parts 0 w in let len' = length-set mid k dead in let count : length parts ≡ v.1 + 1 = q.counted ∙ ap (λ (z : SplitParts E). z.1 + 1) is in
      let inside_k : k < length mid = subst (λ (z : ℕ). k < z) (sym len) (at_inside parts k u there) in
      let here : get_elem? (set mid k dead) k ≡ some dead = set_here mid k dead inside_k in record {
        root = w;
        is_root = set_else mid k 0 dead (λ e. other (sym e)) ∙ set_here parts 0 w (at_inside parts 0 v at);
        lives = ap (λ (z : SplitParts E). z.0) (sym is) ∙ q.lives;
        counted = omega arith;
        out = λ j r e pos lives. ⊎_elim (λ (t : (j ≡ k) × (dead ≡ r)). absurd (true≢false (sym lives ∙ ap (λ (z : SplitParts E). z.0) (sym t.1))))
            (λ (t : (j ≢ k) × (get_elem? mid j ≡ some r)). ⊎_elim (λ (s : (j ≡ 0) × (w ≡ r)). let z = s.0 in absurd (omega arith))
            (λ (s : (j ≢ 0) × (get_elem? parts j ≡ some r)). without_keeps k j v.2 t.0 (subst (λ (z : SplitParts E). Contains z.2 j) is (q.out j r s.1 pos lives))) (at_set parts 0 j w r t.1)) (at_set mid k j dead r e);
        back = λ j a. let h = without_has k j v.2 a in let old = q.back j (subst (λ (z : SplitParts E). Contains z.2 j) (sym is) h.1) in let pos = old.0 in
            (pos, (old.1.0, set_else mid k j dead h.0 ∙ (set_else parts 0 j w (λ e. omega arith) ∙ old.1.1), old.1.2));
        gone = λ j r e d. ⊎_elim (λ (t : (j ≡ k) × (dead ≡ r)). subst (λ (z : ℕ). Contains (v.3 ++ (k, added_of k) ∷ []) (z, added_of z)) (sym t.0) (among_last (k, added_of k) v.3))
            (λ (t : (j ≢ k) × (get_elem? mid j ≡ some r)). ⊎_elim (λ (s : (j ≡ 0) × (w ≡ r)). absurd (true≢false (sym q.lives ∙ (ap (λ (z : SplitParts E). z.0) is ∙ (ap (λ (z : SplitParts E). z.0) s.1 ∙ d)))))
            (λ (s : (j ≢ 0) × (get_elem? parts j ≡ some r)). among_more (j, added_of j) v.3 ((k, added_of k) ∷ []) (subst (λ (z : SplitParts E). Contains z.3 (j, added_of j)) is (q.gone j r s.1 d))) (at_set parts 0 j w r t.1)) (at_set mid k j dead r e);
        only = λ j l a. ⊎_elim
            (λ h. let old = q.only j l (subst (λ (z : SplitParts E). Contains z.3 (j, l)) (sym is) h) in
            let not_root : j ≢ 0 = λ e. true≢false (sym q.lives ∙ (ap (λ (z : SplitParts E). z.0) (at_one parts j q.root old.0.0 (ap (λ (z : ℕ). get_elem? parts z) e ∙ q.is_root) old.0.1) ∙ old.0.2)) in
            let not_k : j ≢ k = λ e. true≢false (sym lives_k ∙ (ap (λ (z : SplitParts E). z.0) (at_one parts j u old.0.0 (ap (λ (z : ℕ). get_elem? parts z) e ∙ there) old.0.1) ∙ old.0.2)) in
            ((old.0.0, set_else mid k j dead not_k ∙ (set_else parts 0 j w not_root ∙ old.0.1), old.0.2), old.1))
            (λ (e : (k, added_of k) ≡ (j, l)). let same : k ≡ j = ap (λ (z : ℕ × List E). z.0) e in ((dead, ap (λ (z : ℕ). get_elem? (set mid k dead) z) (sym same) ∙ here, refl), sym (ap (λ (z : ℕ × List E). z.1) e) ∙ ap added_of same))
            (among_split (j, l) (k, added_of k) v.3 a);
        plain = λ j r e pos. ⊎_elim (λ (t : (j ≡ k) × (dead ≡ r)). (ap (λ (z : SplitParts E). z.1) (sym t.1), ap (λ (z : SplitParts E). z.2) (sym t.1), ap (λ (z : SplitParts E). z.3) (sym t.1)))
            (λ (t : (j ≢ k) × (get_elem? mid j ≡ some r)). ⊎_elim (λ (s : (j ≡ 0) × (w ≡ r)). let z = s.0 in absurd (omega arith))
            (λ (s : (j ≢ 0) × (get_elem? parts j ≡ some r)). q.plain j r s.1 pos) (at_set parts 0 j w r t.1)) (at_set mid k j dead r e);
      }

-- Updates by rising identifier: they are those of the history, and do not depend on the order of arrival.
use Rattle.std.proofs.Common.{◌≡◌, ◌↔◌, ℕ, List, [], ◌∷◌, Bool, true, false, cond, map, reverse, refl, sym, ap, subst, ◌∙◌, inl, inr, ◌⊎◌}
use Rattle.std.specs.List.{Contains}
use Rattle.std.specs.Ordering.{is_lt, is_eq}
use Rattle.braid_ids.specs.Identifiers.{id_cmp}
use Rattle.braid_ids.specs.Frontiers.{IsRising, with_id, rising_ids}
use Rattle.braid_ids.proofs.Inserted.{rises_ids, rising_members}
use Rattle.braid_ids.proofs.Rising.{rising_same}
use Rattle.braid_change.specs.Updates.{UpdateView}
use Rattle.braid_change.specs.Spellings.{digest_of}
use Rattle.braid_tree.specs.Trees.{Member}
use Rattle.braid_rebase.proofs.Members.{contains_member, member_contains, member_map, member_from_map, in_log}
use Rattle.braid_text.specs.Histories.{IsLegal, SameGraph}
use Rattle.braid_text.specs.Digested.{id_in, with_update, by_identifier, digest_at}
use Rattle.braid_text.proofs.Held.{one_update}

with_ids : (u : UpdateView) (ws : List UpdateView) → map id_in (with_update u ws) ≡ with_id u.id (map id_in ws)
with_ids u [] = refl
with_ids u (w ∷ ws) = go (is_lt (id_cmp u.id w.id)) (is_eq (id_cmp u.id w.id)) (with_ids u ws)
  where
    go : (a b : Bool) → map id_in (with_update u ws) ≡ with_id u.id (map id_in ws)
        → map id_in (cond a (u ∷ w ∷ ws) (cond b (w ∷ ws) (w ∷ with_update u ws))) ≡ cond a (u.id ∷ w.id ∷ map id_in ws) (cond b (w.id ∷ map id_in ws) (w.id ∷ with_id u.id (map id_in ws)))
    go true b ih = refl
    go false true ih = refl
    go false false ih = ap (λ t. w.id ∷ t) ih

-- their identifiers are those of the history in rising order
pub ordered_ids : (H : List UpdateView) → map id_in (by_identifier H) ≡ rising_ids (map id_in H)
ordered_ids [] = refl
ordered_ids (u ∷ H) = with_ids u (by_identifier H) ∙ ap (with_id u.id) (ordered_ids H)

from_with : (x u : UpdateView) (ws : List UpdateView) → Member x (with_update u ws) → (u ≡ x) ⊎ Member x ws
from_with x u [] (inl e) = inl e
from_with x u [] (inr m) = absurd m
from_with x u (w ∷ ws) m = go (is_lt (id_cmp u.id w.id)) (is_eq (id_cmp u.id w.id)) m (from_with x u ws)
  where
    go : (a b : Bool) → Member x (cond a (u ∷ w ∷ ws) (cond b (w ∷ ws) (w ∷ with_update u ws))) → (Member x (with_update u ws) → (u ≡ x) ⊎ Member x ws) → (u ≡ x) ⊎ Member x (w ∷ ws)
    go true b (inl e) ih = inl e
    go true b (inr n) ih = inr n
    go false true n ih = inr n
    go false false (inl e) ih = inr (inl e)
    go false false (inr n) ih = elim (ih n) [ inl e ↦ inl e | inr k ↦ inr (inr k) ]

-- each is one of the history
pub ordered_there : (H : List UpdateView) (x : UpdateView) → Member x (by_identifier H) → Member x H
ordered_there [] x m = m
ordered_there (u ∷ H) x m = elim (from_with x u (by_identifier H) m) [ inl e ↦ inl e | inr n ↦ inr (ordered_there H x n) ]

-- and each of a legal history is one of them
pub there_ordered : (H : List UpdateView) → IsLegal H → (x : UpdateView) → Contains H x → Contains (by_identifier H) x
there_ordered H legal x c = go (member_from_map id_in x.id (by_identifier H) (contains_member (map id_in (by_identifier H)) x.id (subst (λ (t : List (List ℕ)). Contains t x.id) (sym (ordered_ids H)) ((rising_members (map id_in H) x.id).1 (member_contains (map id_in H) x.id (member_map id_in x H (contains_member H x c)))))))
  where
    go : (w : UpdateView) × Member w (by_identifier H) × (w.id ≡ x.id) → Contains (by_identifier H) x
    go (w, m, e) = subst (Contains (by_identifier H)) (one_update (reverse H) legal w x (in_log H w (member_contains H w (ordered_there H w m))) (in_log H x c) e) (member_contains (by_identifier H) w m)

pub ordered_exact : (H : List UpdateView) → IsLegal H → (x : UpdateView) → Contains (by_identifier H) x ↔ Contains H x
ordered_exact H legal x = (λ c. member_contains H x (ordered_there H x (contains_member (by_identifier H) x c)), there_ordered H legal x)

pub ordered_rises : (H : List UpdateView) → IsRising (map id_in (by_identifier H))
ordered_rises H = subst IsRising (sym (ordered_ids H)) (rises_ids (map id_in H))

-- two lists with the same identifiers, whose members do not differ under one, are the same
pub same_by_ids : (xs ys : List UpdateView) → map id_in xs ≡ map id_in ys → ((x y : UpdateView) → Member x xs → Member y ys → x.id ≡ y.id → x ≡ y) → xs ≡ ys
same_by_ids [] [] e f = refl
same_by_ids [] (y ∷ ys) e f = cc
same_by_ids (x ∷ xs) [] e f = cc
same_by_ids (x ∷ xs) (y ∷ ys) e f =
    let i : x.id ≡ y.id = cc in
    let h : x ≡ y = f x y (inl refl) (inl refl) i in
    let t : xs ≡ ys = same_by_ids xs ys (cc) (λ a b m n. f a b (inr m) (inr n)) in (λ k. h k ∷ t k)

pub ordered_same : (H K : List UpdateView) → IsLegal H → IsLegal K → SameGraph H K → by_identifier H ≡ by_identifier K
ordered_same H K lh lk same = same_by_ids (by_identifier H) (by_identifier K) (ordered_ids H ∙ rising_same (rising_ids (map id_in H)) (rising_ids (map id_in K)) (rises_ids (map id_in H)) (rises_ids (map id_in K)) members ∙ sym (ordered_ids K))
    (λ x y m n e. one_update (reverse K) lk x y (in_log K x ((same x).0 (member_contains H x (ordered_there H x m)))) (in_log K y (member_contains K y (ordered_there K y n))) e)
  where
    there : (A B : List UpdateView) → ((u : UpdateView) → Contains A u → Contains B u) → (v : List ℕ) → Contains (map id_in A) v → Contains (map id_in B) v
    there A B to v c = go (member_from_map id_in v A (contains_member (map id_in A) v c))
      where
        go : (u : UpdateView) × Member u A × (u.id ≡ v) → Contains (map id_in B) v
        go (u, m, e) = subst (Contains (map id_in B)) e (member_contains (map id_in B) u.id (member_map id_in u B (contains_member B u (to u (member_contains A u m)))))

    members : (v : List ℕ) → Contains (rising_ids (map id_in H)) v ↔ Contains (rising_ids (map id_in K)) v
    members v = (
      λ c. (rising_members (map id_in K) v).1 (there H K (λ u. (same u).0) v ((rising_members (map id_in H) v).0 c)),
      λ c. (rising_members (map id_in H) v).1 (there K H (λ u. (same u).1) v ((rising_members (map id_in K) v).0 c)),
    )

pub same_digest : (H K : List UpdateView) → IsLegal H → IsLegal K → SameGraph H K → digest_at H ≡ digest_at K
same_digest H K lh lk same = ap digest_of (ordered_same H K lh lk same)

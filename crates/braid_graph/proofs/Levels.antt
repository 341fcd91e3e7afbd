-- The level of an entry is 1 plus the greatest of its parents' levels, and above the levels of its ancestry.
use Rattle.std.proofs.Common.{◌≡◌, ℕ, ◌+◌, ◌<◌, ◌≤◌, List, [], ◌∷◌, ◌++◌, Bool, true, false, cond, length, reverse, max, arith, refl, sym, ap, subst, ◌∙◌, inl, inr, ◌⊎◌}
use Rattle.std.specs.Ordering.{is_eq}
use Rattle.std.specs.List.{Contains}
use Rattle.std.proofs.lemmas.List.{reverse-append, length-reverse}
use Rattle.braid_ids.specs.Identifiers.{id_cmp}
use Rattle.braid_graph.specs.Entries.{GraphEntry, ids_of, IsHistoryGraph, SameEntries}
use Rattle.braid_graph.specs.Ancestries.{IsAncestor, named, parent}
use Rattle.braid_graph.specs.Levels.{greatest_by, level_in, level_of}
use Rattle.braid_ids.proofs.Members.{Member, contains_member, member_contains, member_reverse, member_from_reverse}
use Rattle.braid_ids.proofs.Ids.{same_or_not, eq_itself}
use Rattle.braid_graph.proofs.Ids.{member_or_not}
use Rattle.braid_graph.proofs.Newest.{IsNewestFirst, entry_id, id_entry, newest_first, held_parents}

pub greatest_agree : (f g : List ℕ → ℕ) (F : List (List ℕ)) → ((v : List ℕ) → Member v F → f v ≡ g v) → greatest_by f F ≡ greatest_by g F
greatest_agree f g [] h = refl
greatest_agree f g (v ∷ F) h = let a = h v (inl refl) in let b = greatest_agree f g F (λ w m. h w (inr m)) in cc

pub greatest_at : (f : List ℕ → ℕ) (F : List (List ℕ)) (v : List ℕ) → Member v F → f v ≤ greatest_by f F
greatest_at f [] v m = absurd m
greatest_at f (w ∷ F) v (inl e) = let g : f w ≡ f v = ap f e in omega arith
greatest_at f (w ∷ F) v (inr m) = let g = greatest_at f F v m in omega arith

pub greatest_up_to : (f : List ℕ → ℕ) (F : List (List ℕ)) (n : ℕ) → ((v : List ℕ) → Member v F → f v ≤ n) → greatest_by f F ≤ n
greatest_up_to f [] n h = omega arith
greatest_up_to f (v ∷ F) n h = let a = h v (inl refl) in let b = greatest_up_to f F n (λ w m. h w (inr m)) in omega arith

pub greatest_push : (f : List ℕ → ℕ) (F : List (List ℕ)) (v : List ℕ) → greatest_by f (F ++ v ∷ []) ≡ max (greatest_by f F) (f v)
greatest_push f [] v = omega arith
greatest_push f (w ∷ F) v = let g = greatest_push f F v in omega arith

-- the newest entry's level, and that of any other
level_newest : (e : GraphEntry) (R : List GraphEntry) → level_in (e ∷ R) e.id ≡ 1 + greatest_by (level_in R) e.parents
level_newest e R = ap (λ (b : Bool). cond b (1 + greatest_by (level_in R) e.parents) (level_in R e.id)) (eq_itself e.id)

level_other : (e : GraphEntry) (R : List GraphEntry) (v : List ℕ) → (e.id ≡ v → ⊥) → level_in (e ∷ R) v ≡ level_in R v
level_other e R v ne = elim (same_or_not e.id v) [
  | inl (t, same) ↦ absurd (ne same)
  | inr (t, other) ↦ ap (λ (b : Bool). cond b (1 + greatest_by (level_in R) e.parents) (level_in R v)) t
]

-- a held identifier is another than that of a newer entry
other_than : (e : GraphEntry) (R : List GraphEntry) → IsNewestFirst (e ∷ R) → (v : List ℕ) → Member v (ids_of R) → e.id ≡ v → ⊥
other_than e R o v m same = o.0 (subst (λ (t : List ℕ). Member t (ids_of R)) (sym same) m)

level_in_entry : (R : List GraphEntry) → IsNewestFirst R → (e : GraphEntry) → Member e R → level_in R e.id ≡ 1 + greatest_by (level_in R) e.parents
level_in_entry [] o e m = absurd m
level_in_entry (c ∷ R) o e (inl a) =
    let g = greatest_agree (level_in R) (level_in (c ∷ R)) c.parents (λ v n. sym (level_other c R v (other_than c R o v (o.1 v n)))) in
    subst (λ (t : GraphEntry). level_in (c ∷ R) t.id ≡ 1 + greatest_by (level_in (c ∷ R)) t.parents) a (level_newest c R ∙ ap (λ (n : ℕ). 1 + n) g)
level_in_entry (c ∷ R) o e (inr m) =
    let g = greatest_agree (level_in R) (level_in (c ∷ R)) e.parents (λ v n. sym (level_other c R v (other_than c R o v (held_parents R o.2 e m v n)))) in
    level_other c R e.id (other_than c R o e.id (entry_id e R m)) ∙ level_in_entry R o.2 e m ∙ ap (λ (n : ℕ). 1 + n) g

level_in_length : (R : List GraphEntry) (v : List ℕ) → level_in R v ≤ length R
level_in_length [] v = omega arith
level_in_length (e ∷ R) v = go (is_eq (id_cmp e.id v)) (level_in_length R v) (greatest_up_to (level_in R) e.parents (length R) (λ w m. level_in_length R w))
  where
    go : (b : Bool) → level_in R v ≤ length R → greatest_by (level_in R) e.parents ≤ length R → cond b (1 + greatest_by (level_in R) e.parents) (level_in R v) ≤ length (e ∷ R)
    go true h g = omega arith
    go false h g = omega arith

level_in_unheld : (R : List GraphEntry) (v : List ℕ) → (Member v (ids_of R) → ⊥) → level_in R v ≡ 0
level_in_unheld [] v h = refl
level_in_unheld (e ∷ R) v h = level_other e R v (λ same. h (inl same)) ∙ level_in_unheld R v (λ m. h (inr m))

-- the same of entries in order of arrival
pub level_entry : (es : List GraphEntry) → IsHistoryGraph es → (e : GraphEntry) → Contains es e → level_of es e.id ≡ 1 + greatest_by (level_of es) e.parents
level_entry es h e c = level_in_entry (reverse es) (newest_first es h) e (member_reverse es e (contains_member es e c))

pub level_length : (es : List GraphEntry) (v : List ℕ) → level_of es v ≤ length es
level_length es v = let h = level_in_length (reverse es) v in omega (arith, length-reverse es)

pub level_push : (es : List GraphEntry) (e : GraphEntry) (v : List ℕ) → (e.id ≡ v → ⊥) → level_of (es ++ e ∷ []) v ≡ level_of es v
level_push es e v ne = ap (λ (R : List GraphEntry). level_in R v) (reverse-append es (e ∷ [])) ∙ level_other e (reverse es) v ne

pub level_pushed : (es : List GraphEntry) (e : GraphEntry) → level_of (es ++ e ∷ []) e.id ≡ 1 + greatest_by (level_of es) e.parents
level_pushed es e = ap (λ (R : List GraphEntry). level_in R e.id) (reverse-append es (e ∷ [])) ∙ level_newest e (reverse es)

-- a member of an ancestry is a member of its frontier, or below the level of one
pub below_frontier : (es : List GraphEntry) → IsHistoryGraph es → (F : List (List ℕ)) (w : List ℕ) → IsAncestor es F w → (v : List ℕ) × Contains F v × ((v ≡ w) ⊎ (level_of es w < level_of es v))
below_frontier es h F w (named p c) = (p, c, inl refl)
below_frontier es h F w (parent e p c a d) = go (below_frontier es h F e.id a)
  where
    under : level_of es p < level_of es e.id
    under = let g = greatest_at (level_of es) e.parents p (contains_member e.parents p d) in omega (arith, level_entry es h e c)

    go : (v : List ℕ) × Contains F v × ((v ≡ e.id) ⊎ (level_of es e.id < level_of es v)) → (v : List ℕ) × Contains F v × ((v ≡ p) ⊎ (level_of es p < level_of es v))
    go (v, k, inl same) = (v, k, inr (subst (λ (t : List ℕ). level_of es p < level_of es t) (sym same) under))
    go (v, k, inr l) = (v, k, inr (omega (arith, under)))

-- levels speak of the entries alone, in whatever order they arrived
levels_within : (R S : List GraphEntry) → IsNewestFirst R → IsNewestFirst S → ((e : GraphEntry) → Member e R → Member e S) → (v : List ℕ) → Member v (ids_of R) → level_in R v ≡ level_in S v
levels_within [] S o q sub v m = absurd m
levels_within (c ∷ R) S o q sub v (inl a) = subst (λ (t : List ℕ). level_in (c ∷ R) t ≡ level_in S t) a (
    level_newest c R ∙ ap (λ (n : ℕ). 1 + n) (greatest_agree (level_in R) (level_in S) c.parents (λ p n. levels_within R S o.2 q (λ e k. sub e (inr k)) p (o.1 p n)))
    ∙ sym (level_in_entry S q c (sub c (inl refl)))
    )
levels_within (c ∷ R) S o q sub v (inr m) = level_other c R v (other_than c R o v m) ∙ levels_within R S o.2 q (λ e k. sub e (inr k)) v m

pub same_levels : (es fs : List GraphEntry) → IsHistoryGraph es → IsHistoryGraph fs → SameEntries es fs → (v : List ℕ) → level_of es v ≡ level_of fs v
same_levels es fs h k same v = elim (member_or_not v (ids_of (reverse es))) [
  | inl m ↦ levels_within (reverse es) (reverse fs) (newest_first es h) (newest_first fs k) sub v m
  | inr n ↦ level_in_unheld (reverse es) v n ∙ sym (level_in_unheld (reverse fs) v (λ m. n (back m)))
]
  where
    sub : (e : GraphEntry) → Member e (reverse es) → Member e (reverse fs)
    sub e m = member_reverse fs e (contains_member fs e ((same e).0 (member_contains es e (member_from_reverse es e m))))

    back : Member v (ids_of (reverse fs)) → Member v (ids_of (reverse es))
    back m =
        let r = id_entry v (reverse fs) m in
        let n = member_reverse es r.0 (contains_member es r.0 ((same r.0).1 (member_contains fs r.0 (member_from_reverse fs r.0 r.1)))) in
        subst (λ (t : List ℕ). Member t (ids_of (reverse es))) r.2 (entry_id r.0 (reverse es) n)

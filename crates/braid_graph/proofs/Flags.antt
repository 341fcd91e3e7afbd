-- Which identifiers are no entry's parent, as flags beside the entries.
use Rattle.std.proofs.Common.{◌≡◌, ℕ, List, [], ◌∷◌, ◌++◌, Bool, true, false, not, ◌&&◌, ◌||◌, map, set, slice_get, Some, zero, suc, arith, refl, sym, ap, subst, ◌∙◌, inl, inr, ◌⊎◌}
use Rattle.std.specs.List.{AllZip}
use Rattle.std.specs.Ordering.{is_eq}
use Rattle.std.proofs.lemmas.List.{map_push}
use Rattle.std.proofs.lemmas.Option.{none-some, same_Some}
use Rattle.braid_ids.specs.Identifiers.{id_cmp}
use Rattle.braid_graph.specs.Entries.{GraphEntry, ids_of, IsHistoryGraph, has_id}
use Rattle.braid_graph.specs.Frontiers.{IsParent, is_parent, is_head}
use Rattle.braid_graph.specs.Inside.{IsNumberOf, cleared}
use Rattle.braid_ids.proofs.Members.{Member, contains_member, member_contains, place_of}
use Rattle.braid_ids.proofs.Ids.{eq_itself, same_or_not}
use Rattle.braid_graph.proofs.Ids.{id_member, member_id}
use Rattle.braid_graph.proofs.Newest.{one_number}

or_cases : (a b : Bool) → (a || b) ≡ true → (a ≡ true) ⊎ (b ≡ true)
or_cases true b h = inl refl
or_cases false b h = inr h

or_right : (a b : Bool) → b ≡ true → (a || b) ≡ true
or_right true b h = refl
or_right false b h = h

or_false : (b : Bool) → (b || false) ≡ b
or_false true = refl
or_false false = refl

or_assoc : (a b c : Bool) → (a || (b || c)) ≡ ((a || b) || c)
or_assoc true b c = refl
or_assoc false b c = refl

not_or : (a b : Bool) → not (a || b) ≡ (not a && not b)
not_or true b = refl
not_or false b = refl

and_not_or : (a b c : Bool) → ((a && not b) && not c) ≡ (a && not (b || c))
and_not_or true true c = refl
and_not_or true false c = refl
and_not_or false b c = refl

and_true : (a b : Bool) → b ≡ true → (a && b) ≡ a
and_true true b h = h
and_true false b h = refl

and_false : (a b : Bool) → b ≡ false → (a && b) ≡ false
and_false true b h = h
and_false false b h = refl

not_cases : (b : Bool) → not b ≡ true → b ≡ false
not_cases true h = cc
not_cases false h = refl

pub map_agree : {A B : Type 0} (f g : A → B) (xs : List A) → ((x : A) → Member x xs → f x ≡ g x) → map f xs ≡ map g xs
map_agree f g [] h = refl
map_agree f g (x ∷ xs) h = let a = h x (inl refl) in let b = map_agree f g xs (λ y m. h y (inr m)) in (λ i. a i ∷ b i)

pub parent_found : (es : List GraphEntry) (v : List ℕ) → is_parent es v ≡ true → (e : GraphEntry) × Member e es × Member v e.parents
parent_found [] v h = cc
parent_found (e ∷ es) v h = elim (or_cases (has_id v e.parents) (is_parent es v) h) [
  | inl a ↦ (e, inl refl, id_member v e.parents a)
  | inr b ↦ let r = parent_found es v b in (r.0, inr r.1, r.2)
]

parent_there : (es : List GraphEntry) (v : List ℕ) (e : GraphEntry) → Member e es → Member v e.parents → is_parent es v ≡ true
parent_there [] v e m n = absurd m
parent_there (d ∷ es) v e (inl a) n = let t = member_id v d.parents (subst (λ (t : GraphEntry). Member v t.parents) (sym a) n) in rw t
parent_there (d ∷ es) v e (inr m) n = or_right (has_id v d.parents) (is_parent es v) (parent_there es v e m n)

pub head_no_parent : (es : List GraphEntry) (v : List ℕ) → is_head es v ≡ true → IsParent es v → ⊥
head_no_parent es v h (e, c, d) = let t = parent_there es v e (contains_member es e c) (contains_member e.parents v d) in let f = not_cases (is_parent es v) h in cc

pub no_parent_head : (es : List GraphEntry) (v : List ℕ) → (IsParent es v → ⊥) → is_head es v ≡ true
no_parent_head es v h = go (is_parent es v) refl
  where
    go : (b : Bool) → is_parent es v ≡ b → not b ≡ true
    go true t = absurd (let r = parent_found es v t in h (r.0, member_contains es r.0 r.1, member_contains r.0.parents v r.2))
    go false t = refl

is_parent_push : (es : List GraphEntry) (e : GraphEntry) (v : List ℕ) → is_parent (es ++ e ∷ []) v ≡ (is_parent es v || has_id v e.parents)
is_parent_push [] e v = or_false (has_id v e.parents)
is_parent_push (d ∷ es) e v = ap (λ (b : Bool). has_id v d.parents || b) (is_parent_push es e v) ∙ or_assoc (has_id v d.parents) (is_parent es v) (has_id v e.parents)

pub is_head_push : (es : List GraphEntry) (e : GraphEntry) (v : List ℕ) → is_head (es ++ e ∷ []) v ≡ (is_head es v && not (has_id v e.parents))
is_head_push es e v = ap not (is_parent_push es e v) ∙ not_or (is_parent es v) (has_id v e.parents)

-- the flag at the place of p is taken back, where no other place has p
clear_one : (ids : List (List ℕ)) (f : List ℕ → Bool) (n : ℕ) (p : List ℕ) → slice_get ids n ≡ Some p → ((j : ℕ) → slice_get ids j ≡ Some p → j ≡ n)
    → set (map f ids) n false ≡ map (λ (v : List ℕ). f v && not (is_eq (id_cmp v p))) ids
clear_one [] f n p at one = absurd (none-some p at)
clear_one (v ∷ vs) f zero p at one =
    let same : v ≡ p = same_Some v p at in
    let head : (f v && not (is_eq (id_cmp v p))) ≡ false = and_false (f v) (not (is_eq (id_cmp v p))) (ap not (subst (λ (t : List ℕ). is_eq (id_cmp v t) ≡ true) same (eq_itself v))) in
    let tail : map (λ (w : List ℕ). f w && not (is_eq (id_cmp w p))) vs ≡ map f vs = map_agree (λ (w : List ℕ). f w && not (is_eq (id_cmp w p))) f vs (λ w m. others w m (same_or_not w p)) in
    (λ i. sym head i ∷ sym tail i)
  where
    others : (w : List ℕ) → Member w vs → ((is_eq (id_cmp w p) ≡ true) × (w ≡ p)) ⊎ ((is_eq (id_cmp w p) ≡ false) × (w ≡ p → ⊥)) → (f w && not (is_eq (id_cmp w p))) ≡ f w
    others w m (inl (t, e)) = absurd (let r = place_of vs p (subst (λ (t : List ℕ). Member t vs) e m) in let z = one (suc r.0) r.1 in omega arith)
    others w m (inr (t, e)) = and_true (f w) (not (is_eq (id_cmp w p))) (ap not t)
clear_one (v ∷ vs) f (suc n) p at one =
    let tail = clear_one vs f n p at (λ j a. let z = one (suc j) a in omega arith) in
    let head : (f v && not (is_eq (id_cmp v p))) ≡ f v = first (same_or_not v p) in
    (λ i. sym head i ∷ tail i)
  where
    first : ((is_eq (id_cmp v p) ≡ true) × (v ≡ p)) ⊎ ((is_eq (id_cmp v p) ≡ false) × (v ≡ p → ⊥)) → (f v && not (is_eq (id_cmp v p))) ≡ f v
    first (inl (t, e)) = absurd (let z = one zero (ap Some e) in omega arith)
    first (inr (t, e)) = and_true (f v) (not (is_eq (id_cmp v p))) (ap not t)

-- the flags at the places of all of these are taken back
clear_all : (ids : List (List ℕ)) → ((v : List ℕ) (i j : ℕ) → slice_get ids i ≡ Some v → slice_get ids j ≡ Some v → i ≡ j) → (f : List ℕ → Bool) (ps : List (List ℕ)) (ns : List ℕ)
    → AllZip (λ (p : List ℕ) (n : ℕ). slice_get ids n ≡ Some p) ps ns → cleared (map f ids) ns ≡ map (λ (v : List ℕ). f v && not (has_id v ps)) ids
clear_all ids one f [] [] z = map_agree f (λ (v : List ℕ). f v && not false) ids (λ v m. sym (and_true (f v) true refl))
clear_all ids one f [] (n ∷ ns) z = absurd z
clear_all ids one f (p ∷ ps) [] z = absurd z
clear_all ids one f (p ∷ ps) (n ∷ ns) z =
    ap (λ (flags : List Bool). cleared flags ns) (clear_one ids f n p z.0 (λ j a. one p j n a z.0))
    ∙ clear_all ids one (λ (v : List ℕ). f v && not (is_eq (id_cmp v p))) ps ns z.1
    ∙ map_agree (λ (v : List ℕ). (f v && not (is_eq (id_cmp v p))) && not (has_id v ps)) (λ (v : List ℕ). f v && not (is_eq (id_cmp v p) || has_id v ps)) ids (λ v m. and_not_or (f v) (is_eq (id_cmp v p)) (has_id v ps))

-- the flags of a history with one more entry
pub heads_push : (es : List GraphEntry) (e : GraphEntry) (ns : List ℕ) → IsHistoryGraph (es ++ e ∷ []) → is_head es e.id ≡ true → AllZip (IsNumberOf (es ++ e ∷ [])) e.parents ns
    → cleared (map (is_head es) (ids_of es) ++ true ∷ []) ns ≡ map (is_head (es ++ e ∷ [])) (ids_of (es ++ e ∷ []))
heads_push es e ns h head z =
    ap (λ (flags : List Bool). cleared flags ns) start
    ∙ clear_all (ids_of (es ++ e ∷ [])) (one_number (es ++ e ∷ []) h) (is_head es) e.parents ns z
    ∙ map_agree (λ (v : List ℕ). is_head es v && not (has_id v e.parents)) (is_head (es ++ e ∷ [])) (ids_of (es ++ e ∷ [])) (λ v m. sym (is_head_push es e v))
  where
    start : map (is_head es) (ids_of es) ++ true ∷ [] ≡ map (is_head es) (ids_of (es ++ e ∷ []))
    start = sym (ap (map (is_head es)) (map_push (λ (t : GraphEntry). t.id) es e) ∙ map_push (is_head es) (ids_of es) e.id ∙ ap (λ (b : Bool). map (is_head es) (ids_of es) ++ b ∷ []) head)

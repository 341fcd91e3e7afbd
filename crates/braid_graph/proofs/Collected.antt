-- The list of the identifiers that are no entry's parent, as it is collected from the newest to the oldest.
use Rattle.std.proofs.Common.{◌≡◌, ◌↔◌, ℕ, ◌+◌, ◌<◌, ◌≤◌, List, [], ◌∷◌, ◌++◌, Bool, true, false, cond, length, map, take, drop, reverse, slice_get, Option, Some, None, Result, Ok, Err, IfOk, zero, suc, arith, refl, sym, ap, subst, ◌∙◌, inl, inr, ◌⊎◌, length-append}
use Rattle.std.specs.List.{Contains, filter, count_by}
use Rattle.std.proofs.lemmas.Option.{none-some, same_Some, slice_get_within, get_or_from_slice_get}
use Rattle.std.proofs.lemmas.List.{drop_more, reverse-append, length-reverse, take-append-drop, nil_from_length, length-map}
use Rattle.std.proofs.lemmas.List.Elements.{filter-append}
use Rattle.std.proofs.lemmas.List.Sums.{length-filter, count_by-le-length}
use Rattle.std.proofs.lemmas.List.Sorted.{IsPermutation-reverse, IsPermutation-sym, Contains-permutation}
use Rattle.braid_ids.specs.Frontiers.{IsRising}
use Rattle.braid_graph.specs.Entries.{GraphEntry, ids_of}
use Rattle.braid_graph.specs.Frontiers.{IsFrontierOf, is_head, heads_of}
use Rattle.braid_graph.specs.Inside.{entries_in, IsKept}
use Rattle.braid_graph.specs.declared.links.Links.{Links}
use Rattle.braid_graph.proofs.Frontiers.{head_found, head_there, fold-map}
use Rattle.braid_ids.proofs.Members.{no_gap}

pub ids_length : (es : List GraphEntry) → length (ids_of es) ≡ length es
ids_length es = length-map es (λ (t : GraphEntry). t.id)

pub entries_length : (ps : List (List ℕ × List (List ℕ))) → length (entries_in ps) ≡ length ps
entries_length [] = refl
entries_length (p ∷ ps) = ap suc (entries_length ps)

-- an entry that passes goes behind what was collected, and any other leaves it
collected_yes : (p : List ℕ → Bool) (xs : List (List ℕ)) (n : ℕ) (x : List ℕ) → slice_get xs n ≡ Some x → p x ≡ true → reverse (filter p (drop (n + 1) xs)) ++ x ∷ [] ≡ reverse (filter p (drop n xs))
collected_yes p xs n x at passes =
    let next : drop n xs ≡ x ∷ drop (n + 1) xs = drop_more xs n x (slice_get_within xs n x at) ∙ ap (λ (t : List ℕ). t ∷ drop (n + 1) xs) (get_or_from_slice_get xs n x x at) in
    let first : filter p (x ∷ drop (n + 1) xs) ≡ x ∷ filter p (drop (n + 1) xs) = ap (λ (b : Bool). cond b (x ∷ filter p (drop (n + 1) xs)) (filter p (drop (n + 1) xs))) passes in
    sym (ap (λ (t : List (List ℕ)). reverse (filter p t)) next ∙ ap reverse first ∙ reverse-append (x ∷ []) (filter p (drop (n + 1) xs)))

collected_no : (p : List ℕ → Bool) (xs : List (List ℕ)) (n : ℕ) (x : List ℕ) → slice_get xs n ≡ Some x → p x ≡ false → reverse (filter p (drop (n + 1) xs)) ≡ reverse (filter p (drop n xs))
collected_no p xs n x at fails =
    let next : drop n xs ≡ x ∷ drop (n + 1) xs = drop_more xs n x (slice_get_within xs n x at) ∙ ap (λ (t : List ℕ). t ∷ drop (n + 1) xs) (get_or_from_slice_get xs n x x at) in
    let first : filter p (x ∷ drop (n + 1) xs) ≡ filter p (drop (n + 1) xs) = ap (λ (b : Bool). cond b (x ∷ filter p (drop (n + 1) xs)) (filter p (drop (n + 1) xs))) fails in
    sym (ap (λ (t : List (List ℕ)). reverse (filter p t)) next ∙ ap reverse first)

heads_counted : (es : List GraphEntry) (links : List Links) (flags : List Bool) → IsKept es links flags → count_by (λ (b : Bool). b) flags ≡ length (heads_of es)
heads_counted es links flags kept =
    ap (count_by (λ (b : Bool). b)) kept.heads ∙ fold-map (λ (a : ℕ) (b : Bool). a + cond b 1 0) (is_head es) 0 (ids_of es) ∙ sym (length-filter (is_head es) (ids_of es))

-- where as many are collected as pass, all are
collected_all : (p : List ℕ → Bool) (xs : List (List ℕ)) (n : ℕ) → length (reverse (filter p (drop n xs))) ≡ length (filter p xs) → reverse (filter p (drop n xs)) ≡ reverse (filter p xs)
collected_all p xs n same =
    let parts : filter p (take n xs) ++ filter p (drop n xs) ≡ filter p xs = sym (filter-append p (take n xs) (drop n xs)) ∙ ap (filter p) (take-append-drop n xs) in
    let none : filter p (take n xs) ≡ [] = nil_from_length (filter p (take n xs)) (let a = ap length parts in let b = length-append (filter p (take n xs)) (filter p (drop n xs)) in let c = length-reverse (filter p (drop n xs)) in omega arith) in
    ap reverse (sym (ap (λ (t : List (List ℕ)). t ++ filter p (drop n xs)) none) ∙ parts)

-- the same at a graph's own entries and flags
id_of_entry : (ps : List (List ℕ × List (List ℕ))) (n : ℕ) (id : List ℕ) (parents : List (List ℕ)) → slice_get ps n ≡ Some (id, parents) → slice_get (ids_of (entries_in ps)) n ≡ Some id
id_of_entry [] n id parents at = absurd (none-some (id, parents) at)
id_of_entry (p ∷ ps) zero id parents at = ap Some (ap (λ (t : List ℕ × List (List ℕ)). t.0) (same_Some p (id, parents) at))
id_of_entry (p ∷ ps) (suc n) id parents at = id_of_entry ps n id parents at

flag_at : (f : List ℕ → Bool) (xs : List (List ℕ)) (n : ℕ) (x : List ℕ) (b : Bool) → slice_get xs n ≡ Some x → slice_get (map f xs) n ≡ Some b → f x ≡ b
flag_at f [] n x b at is = absurd (none-some x at)
flag_at f (y ∷ xs) zero x b at is = ap f (sym (same_Some y x at)) ∙ same_Some (f y) b is
flag_at f (y ∷ xs) (suc n) x b at is = flag_at f xs n x b at is

flag_in : (es : List GraphEntry) (links : List Links) (flags : List Bool) (n : ℕ) (x : List ℕ) (b : Bool) → IsKept es links flags → slice_get (ids_of es) n ≡ Some x → slice_get flags n ≡ Some b → is_head es x ≡ b
flag_in es links flags n x b kept at is = flag_at (is_head es) (ids_of es) n x b at (subst (λ (t : List Bool). slice_get t n ≡ Some b) kept.heads is)

pub head_next : (ps : List (List ℕ × List (List ℕ))) (links : List Links) (flags : List Bool) (n : ℕ) (id : List ℕ) (parents : List (List ℕ)) (ids : List (List ℕ)) → IsKept (entries_in ps) links flags → slice_get ps n ≡ Some (id, parents) → slice_get flags n ≡ Some true
    → ids ≡ reverse (filter (is_head (entries_in ps)) (drop (n + 1) (ids_of (entries_in ps)))) → ids ++ id ∷ [] ≡ reverse (filter (is_head (entries_in ps)) (drop n (ids_of (entries_in ps))))
head_next ps links flags n id parents ids kept at is so_far =
    let place = id_of_entry ps n id parents at in
    ap (λ (t : List (List ℕ)). t ++ id ∷ []) so_far ∙ collected_yes (is_head (entries_in ps)) (ids_of (entries_in ps)) n id place (flag_in (entries_in ps) links flags n id true kept place is)

pub other_next : (ps : List (List ℕ × List (List ℕ))) (links : List Links) (flags : List Bool) (n : ℕ) (ids : List (List ℕ)) → IsKept (entries_in ps) links flags → n < length ps → slice_get flags n ≡ Some false
    → ids ≡ reverse (filter (is_head (entries_in ps)) (drop (n + 1) (ids_of (entries_in ps)))) → ids ≡ reverse (filter (is_head (entries_in ps)) (drop n (ids_of (entries_in ps))))
other_next ps links flags n ids kept l is so_far = go (slice_get (ids_of (entries_in ps)) n) refl
  where
    es : List GraphEntry
    es = entries_in ps

    go : (r : Option (List ℕ)) → slice_get (ids_of (entries_in ps)) n ≡ r → ids ≡ reverse (filter (is_head (entries_in ps)) (drop n (ids_of (entries_in ps))))
    go None a = absurd (no_gap (ids_of (entries_in ps)) n (omega (arith, ids_length (entries_in ps), entries_length ps)) a)
    go (Some x) a = so_far ∙ collected_no (is_head (entries_in ps)) (ids_of (entries_in ps)) n x a (flag_in (entries_in ps) links flags n x false kept a is)

pub heads_all : (es : List GraphEntry) (links : List Links) (flags : List Bool) (ids : List (List ℕ)) (n width : ℕ) → IsKept es links flags → width ≡ count_by (λ (b : Bool). b) flags → ids ≡ reverse (filter (is_head es) (drop n (ids_of es))) → (length ids ≡ width) ⊎ (n ≡ 0)
    → ids ≡ reverse (heads_of es)
heads_all es links flags ids n width kept count so_far (inl full) =
    so_far ∙ collected_all (is_head es) (ids_of es) n (sym (ap length so_far) ∙ full ∙ count ∙ heads_counted es links flags kept)
heads_all es links flags ids n width kept count so_far (inr first) = so_far ∙ ap (λ (k : ℕ). reverse (filter (is_head es) (drop k (ids_of es)))) first

pub heads_few : (es : List GraphEntry) (ids : List (List ℕ)) → ids ≡ reverse (heads_of es) → length ids ≤ length es
heads_few es ids is =
    let a = ap length is in let b = length-reverse (heads_of es) in let c = length-filter (is_head es) (ids_of es) in let d = count_by-le-length (is_head es) (ids_of es) in omega (arith, ids_length es)

-- sorted, they are the frontier
pub frontier_from : (es : List GraphEntry) (ids F : List (List ℕ)) → ids ≡ reverse (heads_of es) → IsRising F → ((v : List ℕ) → Contains F v ↔ Contains ids v) → IsFrontierOf es F
frontier_from es ids F is rising same = record {
  rising = rising;
  exact = λ v. (
    λ c. head_found es v (Contains-permutation (reverse (heads_of es)) (heads_of es) v (IsPermutation-sym (heads_of es) (reverse (heads_of es)) (IsPermutation-reverse (heads_of es))) (subst (λ (t : List (List ℕ)). Contains t v) is ((same v).0 c))),
    λ h. (same v).1 (subst (λ (t : List (List ℕ)). Contains t v) (sym is) (Contains-permutation (heads_of es) (reverse (heads_of es)) v (IsPermutation-reverse (heads_of es)) (head_there es v h.0 h.1))),
  );
}

pub frontier_of_ids : {E : Type 0} (es : List GraphEntry) (ids : List (List ℕ)) (r : Result (List (List ℕ)) E) → ids ≡ reverse (heads_of es) → IfOk r IsRising → IfOk r (λ (F : List (List ℕ)). (v : List ℕ) → Contains F v ↔ Contains ids v)
    → IfOk r (IsFrontierOf es)
frontier_of_ids es ids (Ok F) is rising same = frontier_from es ids F is rising same
frontier_of_ids es ids (Err e) is rising same = tt

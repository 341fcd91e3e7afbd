-- The frontier as a list is the set of the identifiers that are no entry's parent, and as long as there are of them.
use Rattle.std.proofs.Common.{◌≡◌, ℕ, ◌+◌, List, [], ◌∷◌, Bool, true, false, cond, length, map, slice_get, Some, zero, suc, arith, refl, sym, subst, ◌∙◌, inl, inr, ◌⊎◌}
use Rattle.std.specs.List.{Contains, filter, fold, count_by}
use Rattle.std.proofs.lemmas.List.Sums.{length-filter}
use Rattle.braid_ids.proofs.Rising.{rising_same}
use Rattle.braid_graph.specs.Entries.{GraphEntry, ids_of, Holds, IsHistoryGraph, SameEntries}
use Rattle.braid_graph.specs.Frontiers.{IsParent, IsFrontierOf, is_head, heads_of, frontier_of}
use Rattle.braid_ids.proofs.Members.{Member, contains_member, member_contains, place_of}
use Rattle.braid_graph.proofs.Newest.{entry_id, id_entry, one_number}
use Rattle.braid_graph.proofs.Flags.{head_no_parent, no_parent_head}
use Rattle.braid_ids.proofs.Inserted.{AllDistinct, member_rising, member_from_rising, length_rising, rises_ids}

pub distinct_from : (vs : List (List ℕ)) → ((v : List ℕ) (i j : ℕ) → slice_get vs i ≡ Some v → slice_get vs j ≡ Some v → i ≡ j) → AllDistinct vs
distinct_from [] one = tt
distinct_from (v ∷ vs) one = (
  λ m. let r = place_of vs v m in let z = one v zero (suc r.0) refl r.1 in omega arith,
  distinct_from vs (λ w i j a b. let z = one w (suc i) (suc j) a b in omega arith),
)

pub member_filter : (p : List ℕ → Bool) (v : List ℕ) (vs : List (List ℕ)) → Member v (filter p vs) → Member v vs × (p v ≡ true)
member_filter p v [] m = absurd m
member_filter p v (w ∷ ws) m = go (p w) refl m (member_filter p v ws)
  where
    go : (b : Bool) → p w ≡ b → Member v (cond b (w ∷ filter p ws) (filter p ws)) → (Member v (filter p ws) → Member v ws × (p v ≡ true)) → Member v (w ∷ ws) × (p v ≡ true)
    go true e (inl a) ih = (inl a, subst (λ (t : List ℕ). p t ≡ true) a e)
    go true e (inr m) ih = let r = ih m in (inr r.0, r.1)
    go false e m ih = let r = ih m in (inr r.0, r.1)

pub filter_member : (p : List ℕ → Bool) (v : List ℕ) (vs : List (List ℕ)) → Member v vs → p v ≡ true → Member v (filter p vs)
filter_member p v [] m h = absurd m
filter_member p v (w ∷ ws) m h = go (p w) refl m (λ k. filter_member p v ws k h)
  where
    go : (b : Bool) → p w ≡ b → (w ≡ v) ⊎ Member v ws → (Member v ws → Member v (filter p ws)) → Member v (cond b (w ∷ filter p ws) (filter p ws))
    go true e (inl a) ih = inl a
    go true e (inr m) ih = inr (ih m)
    go false e (inl a) ih = absurd (let t = subst (λ (t : List ℕ). p t ≡ true) (sym a) h in cc)
    go false e (inr m) ih = ih m

pub distinct_filter : (p : List ℕ → Bool) (vs : List (List ℕ)) → AllDistinct vs → AllDistinct (filter p vs)
distinct_filter p [] d = tt
distinct_filter p (v ∷ vs) d = go (p v) (distinct_filter p vs d.1)
  where
    go : (b : Bool) → AllDistinct (filter p vs) → AllDistinct (cond b (v ∷ filter p vs) (filter p vs))
    go true r = (λ m. d.0 (member_filter p v vs m).0, r)
    go false r = r

-- a member of the list of heads is an entry's identifier and no entry's parent
pub head_found : (es : List GraphEntry) (v : List ℕ) → Contains (heads_of es) v → Holds es v × (IsParent es v → ⊥)
head_found es v c =
    let m = member_filter (is_head es) v (ids_of es) (contains_member (heads_of es) v c) in
    (member_contains (ids_of es) v m.0, head_no_parent es v m.1)

pub head_there : (es : List GraphEntry) (v : List ℕ) → Holds es v → (IsParent es v → ⊥) → Contains (heads_of es) v
head_there es v held none = member_contains (heads_of es) v (filter_member (is_head es) v (ids_of es) (contains_member (ids_of es) v held) (no_parent_head es v none))

pub frontier_is : (es : List GraphEntry) → IsFrontierOf es (frontier_of es)
frontier_is es = record {
  rising = rises_ids (heads_of es);
  exact = λ v. (
    λ c. head_found es v (member_contains (heads_of es) v (member_from_rising v (heads_of es) (contains_member (frontier_of es) v c))),
    λ h. member_contains (frontier_of es) v (member_rising v (heads_of es) (contains_member (heads_of es) v (head_there es v h.0 h.1))),
  );
}

pub one_frontier : (es : List GraphEntry) (F : List (List ℕ)) → IsFrontierOf es F → F ≡ frontier_of es
one_frontier es F is = let own = frontier_is es in rising_same F (frontier_of es) is.rising own.rising (λ v. (λ c. (own.exact v).1 ((is.exact v).0 c), λ c. (is.exact v).1 ((own.exact v).0 c)))

-- the frontier speaks of the entries alone, in whatever order they are
pub held_same : (es fs : List GraphEntry) → ((e : GraphEntry) → Contains es e → Contains fs e) → (v : List ℕ) → Holds es v → Holds fs v
held_same es fs same v held =
    let r = id_entry v es (contains_member (ids_of es) v held) in
    member_contains (ids_of fs) v (subst (λ (t : List ℕ). Member t (ids_of fs)) r.2 (entry_id r.0 fs (contains_member fs r.0 (same r.0 (member_contains es r.0 r.1)))))

pub same_frontiers : (es fs : List GraphEntry) → SameEntries es fs → frontier_of es ≡ frontier_of fs
same_frontiers es fs same = let own = frontier_is es in one_frontier fs (frontier_of es) (record {
  rising = own.rising;
  exact = λ v. (
    λ c. let h = (own.exact v).0 c in (held_same es fs (λ e. (same e).0) v h.0, λ (e, k, d). h.1 (e, (same e).1 k, d)),
    λ h. (own.exact v).1 (held_same fs es (λ e. (same e).1) v h.0, λ (e, k, d). h.1 (e, (same e).0 k, d)),
  );
})

pub fold-map : {A B C : Type 0} (g : C → B → C) (f : A → B) (a : C) (xs : List A) → fold g a (map f xs) ≡ fold (λ (b : C) (x : A). g b (f x)) a xs
fold-map g f a [] = refl
fold-map g f a (x ∷ xs) = fold-map g f (g a (f x)) xs

-- as many flags are set as the frontier has members
pub width_is : (es : List GraphEntry) → IsHistoryGraph es → count_by (λ (b : Bool). b) (map (is_head es) (ids_of es)) ≡ length (frontier_of es)
width_is es h =
    fold-map (λ (a : ℕ) (b : Bool). a + cond b 1 0) (is_head es) 0 (ids_of es)
    ∙ sym (length-filter (is_head es) (ids_of es))
    ∙ sym (length_rising (heads_of es) (distinct_filter (is_head es) (ids_of es) (distinct_from (ids_of es) (one_number es h))))

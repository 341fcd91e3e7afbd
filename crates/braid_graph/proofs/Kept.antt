-- What a graph keeps beside its entries, at one entry and after one more.
use Rattle.std.proofs.Common.{◌≡◌, ℕ, ◌+◌, ◌<◌, ◌≤◌, List, [], ◌∷◌, ◌++◌, Bool, true, false, length, max, take, nat_eq, if◌then◌else◌, slice_get, Option, Some, None, zero, suc, arith, refl, sym, ap, subst, ◌∙◌, inl, inr}
use Rattle.std.specs.List.{All, AllByRecursion, AllZip, count_by}
use Rattle.std.specs.Cmp.Lexicographic.{pointwise, pointwise_decides}
use Rattle.std.proofs.lemmas.Bool.Decides.{Decides-eqb, nat_tests}
use Rattle.std.proofs.lemmas.List.Elements.{All-from_recursion}
use Rattle.indexmap.specs.IndexMap.{insert_entry}
use Rattle.std.specs.Option.{IfSome}
use Rattle.std.specs.Ordering.{ord_max, nat_cmp}
use Rattle.std.proofs.lemmas.List.{map_push, length_push, length-map, take_more}
use Rattle.std.proofs.lemmas.Option.{none-some, same_Some, slice_get_within, get_or_from_slice_get}
use Rattle.std.proofs.lemmas.Slice.Zip.{all_zipped_more}
use Rattle.braid_graph.specs.Entries.{GraphEntry, ids_of, Holds, HoldsAll, IsHistoryGraph}
use Rattle.braid_graph.specs.Levels.{greatest_by, level_of}
use Rattle.braid_graph.specs.Frontiers.{is_head, frontier_of}
use Rattle.braid_graph.specs.Inside.{entries_in, IsNumberOf, IsLinked, IsKept, cleared}
use Rattle.braid_graph.specs.declared.links.Links.{Links}
use Rattle.braid_ids.proofs.Members.{Member, member_contains, kept_place, no_gap}
use Rattle.braid_graph.proofs.Newest.{entry_id, entry_at, history_push, parents_held}
use Rattle.braid_graph.proofs.Levels.{greatest_push, level_push, level_pushed, level_length}
use Rattle.braid_graph.proofs.Flags.{no_parent_head, heads_push}
use Rattle.braid_graph.proofs.Frontiers.{width_is}

zip_weaker : {A B : Type 0} (R S : A → B → Type 0) (xs : List A) (ys : List B) → ((x : A) (y : B) → Member x xs → R x y → S x y) → AllZip R xs ys → AllZip S xs ys
zip_weaker R S [] [] h z = tt
zip_weaker R S [] (y ∷ ys) h z = absurd z
zip_weaker R S (x ∷ xs) [] h z = absurd z
zip_weaker R S (x ∷ xs) (y ∷ ys) h z = (h x y (inl refl) z.0, zip_weaker R S xs ys (λ u v m. h u v (inr m)) z.1)

pub zip_length : {A B : Type 0} (R : A → B → Type 0) (xs : List A) (ys : List B) → AllZip R xs ys → length ys ≡ length xs
zip_length R [] [] z = refl
zip_length R [] (y ∷ ys) z = absurd z
zip_length R (x ∷ xs) [] z = absurd z
zip_length R (x ∷ xs) (y ∷ ys) z = ap suc (zip_length R xs ys z.1)

pub zip_at : {A B : Type 0} (R : A → B → Type 0) (xs : List A) (ys : List B) → AllZip R xs ys → (n : ℕ) (x : A) (y : B) → slice_get xs n ≡ Some x → slice_get ys n ≡ Some y → R x y
zip_at R [] ys z n x y a b = absurd (none-some x a)
zip_at R (u ∷ xs) [] z n x y a b = absurd z
zip_at R (u ∷ xs) (v ∷ ys) z zero x y a b = subst (λ (t : _). R t y) (same_Some u x a) (subst (R u) (same_Some v y b) z.0)
zip_at R (u ∷ xs) (v ∷ ys) z (suc n) x y a b = zip_at R xs ys z.1 n x y a b

pub number_kept : (es : List GraphEntry) (e : GraphEntry) (v : List ℕ) (n : ℕ) → IsNumberOf es v n → IsNumberOf (es ++ e ∷ []) v n
number_kept es e v n at = subst (λ (t : List (List ℕ)). slice_get t n ≡ Some v) (sym (map_push (λ (t : GraphEntry). t.id) es e)) (kept_place (ids_of es) (e.id ∷ []) n v at)

numbers_kept : (es : List GraphEntry) (e : GraphEntry) (ps : List (List ℕ)) (ns : List ℕ) → AllZip (IsNumberOf es) ps ns → AllZip (IsNumberOf (es ++ e ∷ [])) ps ns
numbers_kept es e ps ns z = zip_weaker (IsNumberOf es) (IsNumberOf (es ++ e ∷ [])) ps ns (λ v n m at. number_kept es e v n at) z

pub kept_push : (es : List GraphEntry) (e : GraphEntry) (links : List Links) (k : Links) (flags : List Bool) → IsKept es links flags → (Holds es e.id → ⊥) → HoldsAll es e.parents → length es < 524288
    → k.level ≡ 1 + greatest_by (level_of es) e.parents → AllZip (IsNumberOf es) e.parents k.parents.items
    → IsKept (es ++ e ∷ []) (links ++ k ∷ []) (cleared (flags ++ true ∷ []) k.parents.items)
kept_push es e links k flags kept new held few level parents = record {
  history = whole;
  linked = all_zipped_more (IsLinked more) es links e k (zip_weaker (IsLinked es) (IsLinked more) es links old kept.linked) (record {
    level = level ∙ sym (level_pushed es e);
    parents = numbers_kept es e e.parents k.parents.items parents;
  });
  heads = ap (λ (t : List Bool). cleared (t ++ true ∷ []) k.parents.items) kept.heads ∙ heads_push es e k.parents.items whole head (numbers_kept es e e.parents k.parents.items parents);
  few = omega (arith, length_push es e);
}
  where
    more : List GraphEntry
    more = es ++ e ∷ []

    whole : IsHistoryGraph (es ++ e ∷ [])
    whole = history_push es e kept.history new held

    head : is_head es e.id ≡ true
    head = no_parent_head es e.id (λ (d, c, p). new (parents_held es kept.history d c e.id p))

    old : (d : GraphEntry) (j : Links) → Member d es → IsLinked es d j → IsLinked (es ++ e ∷ []) d j
    old d j m is = record {
      level = is.level ∙ sym (level_push es e d.id (λ same. new (subst (Holds es) (sym same) (member_contains (ids_of es) d.id (entry_id d es m)))));
      parents = numbers_kept es e d.parents j.parents.items is.parents;
    }

-- the map of the entries, with a new one at its end
insert_new : (ps : List (List ℕ × List (List ℕ))) (id : List ℕ) (parents : List (List ℕ)) → (Holds (entries_in ps) id → ⊥) → insert_entry (pointwise nat_eq) ps id parents ≡ ps ++ (id, parents) ∷ []
insert_new ps id parents new = go ps (λ m. new (member_contains (ids_of (entries_in ps)) id m))
  where
    go : (ps : List (List ℕ × List (List ℕ))) → (Member id (ids_of (entries_in ps)) → ⊥) → insert_entry (pointwise nat_eq) ps id parents ≡ ps ++ (id, parents) ∷ []
    go [] h = refl
    go (p ∷ ps) h = by (pointwise nat_eq id p.0) refl (go ps (λ m. h (inr m)))
      where
        by : (b : Bool) → pointwise nat_eq id p.0 ≡ b → insert_entry (pointwise nat_eq) ps id parents ≡ ps ++ (id, parents) ∷ [] → (if b then (p.0, parents) ∷ ps else p ∷ insert_entry (pointwise nat_eq) ps id parents) ≡ p ∷ (ps ++ (id, parents) ∷ [])
        by true e ih = absurd (h (inl (sym ((pointwise_decides Decides-eqb id p.0).0 e))))
        by false e ih = ap (λ (t : List (List ℕ × List (List ℕ))). p ∷ t) ih

pub entries_added : (es : List GraphEntry) (old new : List (List ℕ × List (List ℕ))) (id : List ℕ) (parents : List (List ℕ)) → entries_in old ≡ es → (Holds es id → ⊥) → new ≡ insert_entry (pointwise nat_eq) old id parents
    → entries_in new ≡ es ++ record { id = id; parents = parents } ∷ []
entries_added es old new id parents view fresh grown =
    let none : Holds (entries_in old) id → ⊥ = subst (λ (t : List GraphEntry). Holds t id → ⊥) (sym view) fresh in
    ap entries_in (grown ∙ insert_new old id parents none)
    ∙ map_push (λ (p : List ℕ × List (List ℕ)). record { id = p.0; parents = p.1 }) old (id, parents)
    ∙ ap (λ (t : List GraphEntry). t ++ record { id = id; parents = parents } ∷ []) view

-- what is kept, as the parts of a graph change
pub add_kept : (es : List GraphEntry) (old new : List (List ℕ × List (List ℕ))) (id : List ℕ) (parents : List (List ℕ)) (links more : List Links) (k : Links) (flags pushed flags' : List Bool) (ns : List ℕ)
    → entries_in old ≡ es → IsKept (entries_in old) links flags → (Holds es id → ⊥) → HoldsAll es parents → length es < 524288
    → k.level ≡ 1 + greatest_by (level_of es) parents → AllZip (IsNumberOf es) parents k.parents.items
    → new ≡ insert_entry (pointwise nat_eq) old id parents → more ≡ links ++ k ∷ [] → pushed ≡ flags ++ true ∷ [] → ns ≡ k.parents.items → flags' ≡ cleared pushed ns
    → IsKept (entries_in new) more flags'
add_kept es old new id parents links more k flags pushed flags' ns view kept fresh held few level numbers grown linked one same all =
    let e : GraphEntry = record { id = id; parents = parents } in
    let own : IsKept es links flags = subst (λ (t : List GraphEntry). IsKept t links flags) view kept in
    let r = kept_push es e links k flags own fresh held few level numbers in
    let a : entries_in new ≡ es ++ e ∷ [] = entries_added es old new id parents view fresh grown in
    let b : flags' ≡ cleared (flags ++ true ∷ []) k.parents.items = all ∙ (λ i. cleared (one i) (same i)) in
    subst (λ (t : List GraphEntry). IsKept t more flags') (sym a) (subst (λ (t : List Links). IsKept (es ++ e ∷ []) t flags') (sym linked) (subst (λ (t : List Bool). IsKept (es ++ e ∷ []) (links ++ k ∷ []) t) (sym b) r))

-- the numbers of parents are places of flags
pub numbers_below : (es : List GraphEntry) (links : List Links) (flags pushed : List Bool) (ps : List (List ℕ)) (ns ms : List ℕ) → IsKept es links flags → pushed ≡ flags ++ true ∷ [] → AllZip (IsNumberOf es) ps ns → ms ≡ ns
    → All (λ (n : ℕ). n < length pushed) ms
numbers_below es links flags pushed ps ns ms kept one z same = subst (All (λ (n : ℕ). n < length pushed)) (sym same) (All-from_recursion (λ (n : ℕ). n < length pushed) ns (go ps ns z))
  where
    long : length pushed ≡ length es + 1
    long = ap length one ∙ length_push flags true ∙ ap (λ (t : List Bool). length t + 1) kept.heads ∙ ap (λ (n : ℕ). n + 1) (length-map (ids_of es) (is_head es) ∙ length-map es (λ (t : GraphEntry). t.id))

    go : (ps : List (List ℕ)) (ns : List ℕ) → AllZip (IsNumberOf es) ps ns → AllByRecursion (λ (n : ℕ). n < length pushed) ns
    go [] [] z = tt
    go [] (n ∷ ns) z = absurd z
    go (p ∷ ps) [] z = absurd z
    go (p ∷ ps) (n ∷ ns) z = (let l = slice_get_within (ids_of es) n p z.0 in let m = length-map es (λ (t : GraphEntry). t.id) in omega (arith, long, m), go ps ns z.1)

-- the level and the parents that are kept for an entry
pub level_kept : (es : List GraphEntry) (links : List Links) (n : ℕ) (k : Links) → AllZip (IsLinked es) es links → slice_get links n ≡ Some k → IfSome (slice_get es n) (λ (e : GraphEntry). k.level ≡ level_of es e.id)
level_kept es links n k z at = go (slice_get es n) refl
  where
    go : (r : Option GraphEntry) → slice_get es n ≡ r → IfSome r (λ (e : GraphEntry). k.level ≡ level_of es e.id)
    go None e = tt
    go (Some e) a = let is = zip_at (IsLinked es) es links z n e k a at in is.level

pub small_level_kept : (es : List GraphEntry) (links : List Links) (n : ℕ) (k : Links) → AllZip (IsLinked es) es links → n < length es → slice_get links n ≡ Some k → k.level ≤ length es
small_level_kept es links n k z l at = go (slice_get es n) refl
  where
    go : (r : Option GraphEntry) → slice_get es n ≡ r → k.level ≤ length es
    go None a = absurd (no_gap es n l a)
    go (Some e) a = let is = zip_at (IsLinked es) es links z n e k a at in let m = level_length es e.id in let s = is.level in omega arith

pub width_kept : (es : List GraphEntry) (links : List Links) (flags : List Bool) → IsKept es links flags → count_by (λ (b : Bool). b) flags ≡ length (frontier_of es)
width_kept es links flags kept = ap (count_by (λ (b : Bool). b)) kept.heads ∙ width_is es kept.history

-- one more parent, of those that a new entry has
pub take_next : {A : Type 0} (xs : List A) (i : ℕ) (x : A) → slice_get xs i ≡ Some x → take (i + 1) xs ≡ take i xs ++ x ∷ []
take_next xs i x at = take_more xs i x (slice_get_within xs i x at) ∙ ap (λ (t : _). take i xs ++ t ∷ []) (get_or_from_slice_get xs i x x at)

pub numbers_next : (es : List GraphEntry) (ps : List (List ℕ)) (ns : List ℕ) (i : ℕ) (p : List ℕ) (n : ℕ) → AllZip (IsNumberOf es) (take i ps) ns → slice_get ps i ≡ Some p → IsNumberOf es p n → AllZip (IsNumberOf es) (take (i + 1) ps) (ns ++ n ∷ [])
numbers_next es ps ns i p n z at is = subst (λ (t : List (List ℕ)). AllZip (IsNumberOf es) t (ns ++ n ∷ [])) (sym (take_next ps i p at)) (all_zipped_more (IsNumberOf es) (take i ps) ns p n z is)

pub greatest_next : (es : List GraphEntry) (ps : List (List ℕ)) (i : ℕ) (p : List ℕ) (n g l : ℕ) → g ≡ greatest_by (level_of es) (take i ps) → slice_get ps i ≡ Some p → IsNumberOf es p n → IfSome (slice_get es n) (λ (e : GraphEntry). l ≡ level_of es e.id)
    → max g l ≡ greatest_by (level_of es) (take (i + 1) ps)
greatest_next es ps i p n g l so_far at is here =
    let e = entry_at es n p is in
    let own : l ≡ level_of es e.0.id = subst (λ (r : Option GraphEntry). IfSome r (λ (e : GraphEntry). l ≡ level_of es e.id)) e.1 here in
    let level : l ≡ level_of es p = own ∙ ap (level_of es) e.2 in
    (λ j. max (so_far j) (level j)) ∙ sym (greatest_push (level_of es) (take i ps) p) ∙ sym (ap (greatest_by (level_of es)) (take_next ps i p at))

pub max_is : (r a b : ℕ) → r ≡ ord_max nat_cmp a b → r ≡ max a b
max_is r a b e = grind (arith, nat_tests)

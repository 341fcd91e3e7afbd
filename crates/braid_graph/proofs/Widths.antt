-- How many identifiers are no entry's parent once one more entry is there.
use Rattle.std.proofs.Common.{Contains, ◌≡◌, ℕ, ◌+◌, ◌≤◌, List, [], ◌∷◌, ◌++◌, Bool, true, false, not, ◌&&◌, cond, length, take, map, slice_get, Some, refl, sym, ap, ◌∙◌, arith, length-append}
use Rattle.std.specs.List.{filter}
use Rattle.std.specs.List.Sorted.{IsStrictlySortedBy}
use Rattle.std.proofs.lemmas.List.{map_push, length-map}
use Rattle.std.proofs.lemmas.List.Elements.{filter-append}
use Rattle.std.proofs.lemmas.Option.{slice_get-map, same_Some}
use Rattle.braid_ids.specs.Frontiers.{IsRising, rising_ids}
use Rattle.braid_ids.proofs.Members.{Member, contains_member, member_contains}
use Rattle.braid_ids.proofs.Rising.{rising_same, member_of, below_itself}
use Rattle.braid_ids.proofs.Inserted.{AllDistinct, length_rising, rises_ids, rising_within, member_rising, member_from_rising}
use Rattle.braid_graph.specs.Entries.{GraphEntry, ids_of, Holds, HoldsAll, IsHistoryGraph, has_id}
use Rattle.braid_graph.specs.Frontiers.{is_head, heads_of, frontier_of}
use Rattle.std.specs.Option.{option_map}
use Rattle.braid_graph.specs.Inside.{IsNumberOf}
use Rattle.braid_graph.proofs.Kept.{take_next}
use Rattle.braid_graph.proofs.Ids.{id_member, member_id}
use Rattle.braid_graph.proofs.Newest.{history_push, one_number, parents_held}
use Rattle.braid_graph.proofs.Flags.{is_head_push, no_parent_head}
use Rattle.braid_graph.proofs.Frontiers.{member_filter, filter_member, distinct_from, distinct_filter}

filter_same : (p q : List ℕ → Bool) (xs : List (List ℕ)) → ((v : List ℕ) → p v ≡ q v) → filter p xs ≡ filter q xs
filter_same p q [] same = refl
filter_same p q (x ∷ xs) same = ap (λ (b : Bool). cond b (x ∷ filter p xs) (filter p xs)) (same x) ∙ ap (λ t. cond (q x) (x ∷ t) t) (filter_same p q xs same)

filter_both : (p q : List ℕ → Bool) (xs : List (List ℕ)) → filter (λ (v : List ℕ). p v && q v) xs ≡ filter q (filter p xs)
filter_both p q [] = refl
filter_both p q (x ∷ xs) = go (p x) (q x) refl (filter_both p q xs)
  where
    go : (a b : Bool) → q x ≡ b → filter (λ (v : List ℕ). p v && q v) xs ≡ filter q (filter p xs)
        → cond (a && b) (x ∷ filter (λ (v : List ℕ). p v && q v) xs) (filter (λ (v : List ℕ). p v && q v) xs) ≡ filter q (cond a (x ∷ filter p xs) (filter p xs))
    go true b e ih = ap (λ t. cond b (x ∷ t) t) ih ∙ ap (λ (c : Bool). cond c (x ∷ filter q (filter p xs)) (filter q (filter p xs))) (sym e)
    go false b e ih = ih

filter_parts : (p : List ℕ → Bool) (xs : List (List ℕ)) → length xs ≡ length (filter p xs) + length (filter (λ (v : List ℕ). not (p v)) xs)
filter_parts p [] = refl
filter_parts p (x ∷ xs) = go (p x) (filter_parts p xs)
  where
    go : (b : Bool) → length xs ≡ length (filter p xs) + length (filter (λ (v : List ℕ). not (p v)) xs)
        → length (x ∷ xs) ≡ length (cond b (x ∷ filter p xs) (filter p xs)) + length (cond (not b) (x ∷ filter (λ (v : List ℕ). not (p v)) xs) (filter (λ (v : List ℕ). not (p v)) xs))
    go true ih = omega (arith, ih)
    go false ih = omega (arith, ih)

distinct_rising : (ids : List (List ℕ)) → IsRising ids → AllDistinct ids
unfolding IsStrictlySortedBy
distinct_rising [] r = tt
distinct_rising (v ∷ ids) r = (λ m. below_itself v (member_of _ ids v r.0 (member_contains ids v m)), distinct_rising ids r.1)

-- two lists of different identifiers with the same members are as long
as_long : (xs ys : List (List ℕ)) → AllDistinct xs → AllDistinct ys → ((v : List ℕ) → Member v xs → Member v ys) → ((v : List ℕ) → Member v ys → Member v xs) → length xs ≡ length ys
as_long xs ys dx dy to from =
    sym (length_rising xs dx) ∙ ap length (rising_same (rising_ids xs) (rising_ids ys) (rises_ids xs) (rises_ids ys) (λ v. (
      λ c. member_contains (rising_ids ys) v (member_rising v ys (to v (member_from_rising v xs (contains_member (rising_ids xs) v c)))),
      λ c. member_contains (rising_ids xs) v (member_rising v xs (from v (member_from_rising v ys (contains_member (rising_ids ys) v c)))),
    ))) ∙ length_rising ys dy

module _ (es : List GraphEntry) (ps : List (List ℕ)) (history : IsHistoryGraph es) (rising : IsRising ps) (held : HoldsAll es ps) where
  abbrev named : List ℕ → Bool
  named v = has_id v ps

  distinct_heads : AllDistinct (heads_of es)
  distinct_heads = distinct_filter (is_head es) (ids_of es) (distinct_from (ids_of es) (one_number es history))

  -- the parents that are heads are the heads that are parents
  heads_named : length (filter named (heads_of es)) ≡ length (filter (is_head es) ps)
  heads_named = as_long (filter named (heads_of es)) (filter (is_head es) ps) (distinct_filter named (heads_of es) distinct_heads) (distinct_filter (is_head es) ps (distinct_rising ps rising))
      (λ v m. let a = member_filter named v (heads_of es) m in let b = member_filter (is_head es) v (ids_of es) a.0 in filter_member (is_head es) v ps (id_member v ps a.1) b.1)
      (λ v m. let a = member_filter (is_head es) v ps m in filter_member named v (heads_of es) (filter_member (is_head es) v (ids_of es) (contains_member (ids_of es) v (held v (member_contains ps v a.0))) a.1) (member_id v ps a.0))

  pub heads_fewer : length (filter (is_head es) ps) ≤ length (frontier_of es)
  heads_fewer = omega (arith, filter_parts named (heads_of es), heads_named, length_rising (heads_of es) distinct_heads)

  -- where as many parents are heads as there are heads, each head is a parent
  pub heads_named_all : length (filter (is_head es) ps) ≡ length (frontier_of es) → (v : List ℕ) → Member v (heads_of es) → Contains ps v
  heads_named_all all v m = go (named v) refl
    where
      none : length (filter (λ (w : List ℕ). not (named w)) (heads_of es)) ≡ 0
      none = omega (arith, all, filter_parts named (heads_of es), heads_named, length_rising (heads_of es) distinct_heads)

      empty : (xs : List (List ℕ)) → length xs ≡ 0 → Member v xs → Contains ps v
      empty [] l n = absurd n
      empty (x ∷ xs) l n = absurd (omega arith)

      go : (b : Bool) → named v ≡ b → Contains ps v
      go true e = member_contains ps v (id_member v ps e)
      go false e = empty (filter (λ (w : List ℕ). not (named w)) (heads_of es)) none (filter_member (λ (w : List ℕ). not (named w)) v (heads_of es) m (ap not e))

  heads_more : (id : List ℕ) → (Holds es id → ⊥) → heads_of (es ++ record { id = id; parents = ps } ∷ []) ≡ filter (λ (v : List ℕ). not (named v)) (heads_of es) ++ id ∷ []
  heads_more id new =
      ap (filter (is_head more)) (map_push (λ (e : GraphEntry). e.id) es (record { id = id; parents = ps }))
      ∙ filter-append (is_head more) (ids_of es) (id ∷ [])
      ∙ ap (λ t. t ++ filter (is_head more) (id ∷ [])) (filter_same (is_head more) (λ (v : List ℕ). is_head es v && not (named v)) (ids_of es) (is_head_push es (record { id = id; parents = ps })) ∙ filter_both (is_head es) (λ (v : List ℕ). not (named v)) (ids_of es))
      ∙ ap (λ (b : Bool). filter (λ (v : List ℕ). not (named v)) (heads_of es) ++ cond b (id ∷ []) []) own
    where
      more : List GraphEntry
      more = es ++ record { id = id; parents = ps } ∷ []

      whole : IsHistoryGraph (es ++ record { id = id; parents = ps } ∷ [])
      whole = history_push es (record { id = id; parents = ps }) history new held

      own : is_head (es ++ record { id = id; parents = ps } ∷ []) id ≡ true
      own = is_head_push es (record { id = id; parents = ps }) id ∙ both (is_head es id) (not (named id)) (no_parent_head es id (λ (d, c, p). new (parents_held es history d c id p))) (unnamed (named id) refl)
        where
          both : (a b : Bool) → a ≡ true → b ≡ true → (a && b) ≡ true
          both true b x y = y
          both false b x y = cc

          unnamed : (b : Bool) → named id ≡ b → not b ≡ true
          unnamed true e = absurd (new (held id (member_contains ps id (id_member id ps e))))
          unnamed false e = refl

  pub width_more : (id : List ℕ) → (Holds es id → ⊥) → length (frontier_of (es ++ record { id = id; parents = ps } ∷ [])) + length (filter (is_head es) ps) ≡ length (frontier_of es) + 1
  width_more id new =
      let a = length_rising (heads_of (es ++ record { id = id; parents = ps } ∷ [])) (distinct_filter (is_head (es ++ record { id = id; parents = ps } ∷ [])) (ids_of (es ++ record { id = id; parents = ps } ∷ [])) (distinct_from (ids_of (es ++ record { id = id; parents = ps } ∷ [])) (one_number (es ++ record { id = id; parents = ps } ∷ []) (history_push es (record { id = id; parents = ps }) history new held)))) in
      omega (arith, a, ap length (heads_more id new), length-append (filter (λ (v : List ℕ). not (named v)) (heads_of es)) (id ∷ []), filter_parts named (heads_of es), heads_named, length_rising (heads_of es) distinct_heads)

pub frontier_few : (es : List GraphEntry) → length (frontier_of es) ≤ length es
frontier_few es = omega (arith, rising_within (heads_of es), filter_parts (is_head es) (ids_of es), length-map es (λ (e : GraphEntry). e.id))

-- one more of the members that are counted
pub heads_counted : (es : List GraphEntry) (ps : List (List ℕ)) (flags : List Bool) (i n : ℕ) (p : List ℕ) (b : Bool) (count : ℕ) → flags ≡ map (is_head es) (ids_of es) → slice_get ps i ≡ Some p → IsNumberOf es p n → slice_get flags n ≡ Some b
    → count ≡ length (filter (is_head es) (take i ps)) → count + cond b 1 0 ≡ length (filter (is_head es) (take (i + 1) ps))
heads_counted es ps flags i n p b count same at number flag inv =
    let t : is_head es p ≡ b = told in
    let e : length (filter (is_head es) (take (i + 1) ps)) ≡ length (filter (is_head es) (take i ps)) + cond b 1 0 = ap (λ t. length (filter (is_head es) t)) (take_next ps i p at) ∙ ap length (filter-append (is_head es) (take i ps) (p ∷ [])) ∙ length-append (filter (is_head es) (take i ps)) (filter (is_head es) (p ∷ [])) ∙ ap (λ (k : ℕ). length (filter (is_head es) (take i ps)) + k) (one b t) in
    omega (arith, e, inv)
  where
    told : is_head es p ≡ b
    told = same_Some (is_head es p) b (sym (ap (λ (t : List Bool). slice_get t n) same ∙ slice_get-map (is_head es) (ids_of es) n ∙ ap (option_map (is_head es)) number) ∙ flag)

    one : (b : Bool) → is_head es p ≡ b → length (filter (is_head es) (p ∷ [])) ≡ cond b 1 0
    one true t = ap (λ (b : Bool). length (cond b (p ∷ []) [])) t
    one false t = ap (λ (b : Bool). length (cond b (p ∷ []) [])) t

-- A document that stands for a history, with an update put in as it was resolved, stands for the longer history.
use Rattle.std.proofs.Common.{◌≡◌, ℕ, zero, suc, ◌+◌, ◌-◌, ◌<◌, ◌≤◌, List, [], ◌∷◌, ◌++◌, true, false, Option, Some, None, MatchOption, IsSome, length, map, reverse, take, drop, refl, sym, ap, subst, ◌∙◌, inl, inr, arith, unwrap_or, length-append}
use Rattle.std.specs.List.{AllByRecursion}
use Rattle.std.proofs.lemmas.List.{length-map, map-append, reverse-append}
use Rattle.std.proofs.lemmas.List.Elements.{All-nil, All-cons, Contains-append_cases}
use Rattle.std.specs.List.Sorted.{IsPermutation}
use Rattle.std.proofs.lemmas.List.Sorted.{IsPermutation-trans, IsPermutation-sym, IsPermutation-map, IsPermutation-append_left, Contains-permutation}
use Rattle.std.proofs.lemmas.List.Sums.{sum_by-cons}
use Rattle.braid_change.specs.Updates.{UpdateView}
use Rattle.braid_change.specs.Changes.{IsShaped}
use Rattle.braid_change.specs.Splices.{ranges, inserted}
use Rattle.braid_change.specs.declared.patch.Patch.{Patch}
use Rattle.braid_graph.specs.Entries.{GraphEntry, HoldsAll}
use Rattle.braid_graph.specs.Levels.{greatest_by, level_of}
use Rattle.braid_tree.specs.declared.at.At.{At}
use Rattle.braid_tree.specs.Keys.{Key, key_cmp, key_in}
use Rattle.braid_tree.specs.Nodes.{Node, path_of, with_nodes}
use Rattle.braid_tree.specs.Elements.{element_of}
use Rattle.braid_tree.specs.Trees.{Member, IsWithout, AreNewKeys}
use Rattle.braid_tree.specs.Rows.{Stamp, Row, HasPlace, IsKnownRow, AreKnown, element_at, key_at, key_by, place}
use Rattle.braid_tree.specs.Rows.{RowDeletion}
use Rattle.braid_tree.specs.Seen.{is_seen_by, place_in}
use Rattle.braid_tree.proofs.Callers.{listed_begin, next_key_begin}
use Rattle.braid_tree.proofs.KeptRows.{known_place}
use Rattle.braid_tree.proofs.Links.{get_append, get_end}
use Rattle.braid_tree.proofs.Member.{all_member, all_from_members}
use Rattle.braid_rebase.specs.Additions.{ranges_at, nodes_at, AreUnder}
use Rattle.braid_rebase.specs.Resolved.{IsSeenAt, IsResolved, places_of, row_chars, row_ranges, place_before, runs_at, places_at}
use Rattle.braid_rebase.specs.Standing.{AreRunsOf}
use Rattle.braid_rebase.specs.declared.run.Run.{Run}
use Rattle.braid_rebase.specs.declared.resolving.Resolved.{Resolved}
use Rattle.braid_rebase.proofs.Stands.{chars_listed, ranges_listed, resolved_runs, resolved_deletes}
use Rattle.braid_rebase.proofs.Joins.{inserts_few}
use Rattle.braid_rebase.proofs.Filtered.{member_filter}
use Rattle.braid_text.specs.Versions.{Version, has_version, deletions_by}
use Rattle.braid_text.specs.Histories.{MayFollow, graph_of, entry_of, versions_at, added_by, document_of, seen_at, text_at, deletions_of}
use Rattle.braid_text.specs.Answers.{needs_of}
use Rattle.braid_text.specs.Puts.{Puts, ListsWithRuns, AreOver, AreThere, text_len, total_len, deletion_by}
use Rattle.braid_text.specs.Standing.{Stands, stamp_in, stamps_of, id_at, named_deletion, IsKnownDeletion}
use Rattle.braid_text.proofs.Held.{new_in}
use Rattle.braid_text.proofs.Whole.{IsWhole, seen_member, seen_under}
use Rattle.braid_text.proofs.Public.{legal_more, versions_more, document_more, deletions_more, level_more, needs_elements}
use Rattle.braid_rebase.proofs.Members.{contains_member, member_contains}
use Rattle.braid_text.proofs.Viewed.{whole, seen_listed, all_place}

-- every item of a cut of a list is one of the list
all_cut : {A : Type 0} (P : A → Type 0) (xs : List A) (m n : ℕ) → AllByRecursion P xs → AllByRecursion P (take n (drop m xs))
all_cut P xs zero zero all = tt
all_cut P [] zero (suc n) all = tt
all_cut P (x ∷ xs) zero (suc n) all = (all.0, all_cut P xs zero n all.1)
all_cut P [] (suc m) zero all = tt
all_cut P [] (suc m) (suc n) all = tt
all_cut P (x ∷ xs) (suc m) n all = all_cut P xs m n all.1

all_joined : {A : Type 0} (P : A → Type 0) (xs ys : List A) → AllByRecursion P xs → AllByRecursion P ys → AllByRecursion P (xs ++ ys)
all_joined P [] ys a b = b
all_joined P (x ∷ xs) ys a b = (a.0, all_joined P xs ys a.1 b)

all_weaker : {A : Type 0} (P Q : A → Type 0) (xs : List A) → ((x : A) → P x → Q x) → AllByRecursion P xs → AllByRecursion Q xs
all_weaker P Q [] f a = tt
all_weaker P Q (x ∷ xs) f a = (f x a.0, all_weaker P Q xs f a.1)

pub all_places : (P : At → Type 0) (places : List At) (rs : List Patch) → AllByRecursion P places → AllByRecursion P (places_at places rs)
all_places P places [] all = tt
all_places P places (r ∷ rs) all = all_joined P (take (r.end - r.start) (drop r.start places)) (places_at places rs) (all_cut P places r.start (r.end - r.start) all) (all_places P places rs all)

-- the places of rows are there
places_there : (rows S : List Row) → ((r : Row) → Member r S → Member r rows) → AreThere rows (places_of S)
places_there rows [] sub = tt
places_there rows (r ∷ S) sub = (there rows r (sub r (inl refl)), places_there rows S (λ q m. sub q (inr m)))
  where
    there : (rows : List Row) (r : Row) → Member r rows → HasPlace rows r.at
    there [] r m = m
    there (q ∷ rows) r (inl e) = inl (ap place_in e)
    there (q ∷ rows) r (inr m) = inr (there rows r m)

before_there : (rows : List Row) (places : List At) (s : ℕ) → AreThere rows places → MatchOption (place_before places s) (Unit {0}) (HasPlace rows)
before_there rows places zero all = tt
before_there rows [] (suc zero) all = tt
before_there rows [] (suc (suc s)) all = tt
before_there rows (p ∷ places) (suc zero) all = all.0
before_there rows (p ∷ places) (suc (suc s)) all = before_there rows places (suc s) all.1

pub runs_over : (rows : List Row) (places : List At) (n : ℕ) (rs : List Patch) → AreThere rows places → AreOver rows n (runs_at places n rs)
runs_over rows places n [] all = tt
runs_over rows places n (r ∷ rs) all = (before_there rows places r.start all, refl, runs_over rows places (n + length r.text) rs all)

pub runs_total : (places : List At) (n : ℕ) (rs : List Patch) → total_len (runs_at places n rs) ≡ inserted rs
runs_total places n [] = refl
runs_total places n (r ∷ rs) = sum_by-cons text_len (record { after = place_before places r.start; text = r.text; ordinal = n }) (runs_at places (n + length r.text) rs) ∙ ap (λ (m : ℕ). length r.text + m) (runs_total places (n + length r.text) rs) ∙ sym (sum_by-cons (λ (p : Patch). length p.text) r rs)

key_begin : (vs : List Stamp) (v : Stamp) (at : At) → at.version < length vs → key_at (vs ++ v ∷ []) at ≡ key_at vs at
key_begin vs v at l = ap (λ (o : Option Stamp). key_by o at.ordinal) (get_append vs (v ∷ []) at.version l)

named_begin : (vs : List Stamp) (v : Stamp) (ds : List RowDeletion) → ((d : RowDeletion) → Member d ds → IsKnownDeletion vs d) → map (named_deletion (vs ++ v ∷ [])) ds ≡ map (named_deletion vs) ds
named_begin vs v [] all = refl
named_begin vs v (d ∷ ds) all =
    let k = key_begin vs v d.at (all d (inl refl)).0 in
    let b : id_at (vs ++ v ∷ []) d.by ≡ id_at vs d.by = ap (λ (t : Key). t.id) (key_begin vs v (place d.by 0) (all d (inl refl)).1) in
    let t = named_begin vs v ds (λ e m. all e (inr m)) in (λ i. record { key = k i; by = b i } ∷ t i)

named_new : (vs : List Stamp) (v : Stamp) (places : List At) → map (named_deletion (vs ++ v ∷ [])) (map (deletion_by (length vs)) places) ≡ map (λ (k : Key). record { key = k; by = v.id }) (map (key_at (vs ++ v ∷ [])) places)
named_new vs v [] = refl
named_new vs v (at ∷ places) =
    let b : id_at (vs ++ v ∷ []) (length vs) ≡ v.id = ap (λ (o : Option Stamp). (key_by o 0).id) (get_end vs v) in
    let t = named_new vs v places in (λ i. record { key = key_at (vs ++ v ∷ []) at; by = b i } ∷ t i)

known_new : (vs : List Stamp) (v : Stamp) (places : List At) → AllByRecursion (λ (at : At). at.version < length vs) places → AllByRecursion (IsKnownDeletion (vs ++ v ∷ [])) (map (deletion_by (length vs)) places)
known_new vs v [] all = tt
known_new vs v (at ∷ places) all = ((omega (arith, all.0, length-append vs (v ∷ [])), omega (arith, length-append vs (v ∷ []))), known_new vs v places all.1)

pub stamps_more : (H : List UpdateView) (u : UpdateView) → stamps_of (H ++ u ∷ []) ≡ stamps_of H ++ record { id = u.id; level = (added_by H u).level } ∷ []
stamps_more H u = ap (λ (vs : List Version). map stamp_in (reverse vs)) (versions_more H u) ∙ ap (map stamp_in) (reverse-append (added_by H u ∷ []) (versions_at H)) ∙ map-append stamp_in (reverse (versions_at H)) (added_by H u ∷ [])

-- none of a new version's keys is in the document
pub new_keys : (H : List UpdateView) (u : UpdateView) (level : ℕ) → IsWhole (versions_at H) → has_version u.id (versions_at H) ≡ false → AreNewKeys (key_in level u.id) 0 (document_of H)
new_keys H u level w new m le = all_from_members (IsWithout (key_in level u.id m)) (document_of H) (λ y n. parts y y.above (all_member (λ (y : Node Key). AllByRecursion (λ (b : Key). has_version b.id (versions_at H) ≡ true) (path_of y)) y (document_of H) w.known n))
  where
    differs : (b : Key) → has_version b.id (versions_at H) ≡ true → b ≡ key_in level u.id m → ⊥
    differs b h e = let t : has_version u.id (versions_at H) ≡ true = subst (λ (i : List ℕ). has_version i (versions_at H) ≡ true) (ap (λ (k : Key). k.id) e) h in cc

    parts : (y : Node Key) (p : List Key) → AllByRecursion (λ (b : Key). has_version b.id (versions_at H) ≡ true) (p ++ y.key ∷ []) → AllByRecursion (λ (b : Key). (b ≡ key_in level u.id m) → ⊥) p × ((y.key ≡ key_in level u.id m) → ⊥)
    parts y [] all = (tt, differs y.key all.0)
    parts y (b ∷ p) all = ((differs b all.0, (parts y p all.1).0), (parts y p all.1).1)

module _ (H : List UpdateView) (es : List GraphEntry) (vs : List Stamp) (rows : List Row) (ds : List RowDeletion) (stands : Stands H es vs rows ds) (u : UpdateView) (held : HoldsAll (graph_of H) u.parents) (S : List Row) (seen : IsSeenAt (graph_of H) u.parents ds rows S) where
  -- the rows that the parents see list the nodes that they see
  pub rows_listed : map (element_at vs) S ≡ map element_of (seen_at H u.parents)
  rows_listed = ap (map (element_at vs)) seen.seen ∙ seen_listed H es vs rows ds stands u.parents held seen.marks seen.ancestry

  pub rows_read : row_chars S ≡ text_at H u.parents
  rows_read = chars_listed vs S (seen_at H u.parents) rows_listed

  in_rows : (r : Row) → Member r S → Member r rows
  in_rows r m = (member_filter (is_seen_by seen.marks ds) r rows (subst (Member r) seen.seen m)).0

  pub there : AreThere rows (places_of S)
  there = places_there rows S in_rows

  known_rows : AreKnown vs S
  known_rows = go S in_rows
    where
      go : (T : List Row) → ((r : Row) → Member r T → Member r rows) → AreKnown vs T
      go [] sub = All-nil (IsKnownRow vs)
      go (r ∷ T) sub = All-cons (IsKnownRow vs) r T (all_place (IsKnownRow vs) r rows stands.known (sub r (inl refl))) (go T (λ q m. sub q (inr m)))

  module _ (follows : MayFollow H u) (resolved : Resolved) (is : IsResolved S u.change resolved) where
    abbrev N : List (Node Key)
    N = seen_at H u.parents

    shaped : IsShaped u.change
    shaped = follows.built.shaped

    same_ranges : row_ranges S u.change ≡ ranges_at N u.change
    same_ranges = ranges_listed vs S N u.change rows_listed

    pub deletes_there : AreThere rows resolved.deletes.items
    deletes_there = subst (AreThere rows) (sym is.deletes) (all_places (HasPlace rows) (places_of S) (row_ranges S u.change) there)

    pub runs_there : AreOver rows 0 resolved.runs.items
    runs_there = subst (AreOver rows 0) (sym is.runs) (runs_over rows (places_of S) 0 (row_ranges S u.change) there)

    pub elements_needed : total_len resolved.runs.items ≡ (needs_of H u).elements
    elements_needed = ap total_len is.runs ∙ runs_total (places_of S) 0 (row_ranges S u.change) ∙ ap inserted same_ranges ∙ sym (needs_elements H u)

    pub deletions_needed : length resolved.deletes.items ≡ (needs_of H u).deletions
    deletions_needed = ap length is.deletes ∙ sym (length-map (places_at (places_of S) (row_ranges S u.change)) (key_at vs)) ∙ ap length (resolved_deletes vs S N u.change rows_listed)

    pub few_elements : total_len resolved.runs.items ≤ 1048576
    few_elements = go (ranges (row_chars S) u.change) refl
      where
        go : (o : Option (List Patch)) → ranges (row_chars S) u.change ≡ o → total_len resolved.runs.items ≤ 1048576
        go None e = absurd (let f : IsSome (ranges (row_chars S) u.change) = is.fits in let g = subst (λ (o : Option (List Patch)). IsSome o) e f in cc)
        go (Some rs) e = omega (arith, ap total_len is.runs, runs_total (places_of S) 0 (row_ranges S u.change), ap (λ (o : Option (List Patch)). inserted (unwrap_or o [])) e, inserts_few (row_chars S) u.change rs shaped e)

    module _ (level : resolved.level ≡ 1 + greatest_by (level_of (graph_of H)) u.parents) where
      abbrev v : Stamp
      v = record { id = u.id; level = resolved.level }

      abbrev vs' : List Stamp
      vs' = vs ++ v ∷ []

      same_level : (added_by H u).level ≡ resolved.level
      same_level = level_more H u stands.legal held ∙ sym level

      listed' : map (element_at vs') S ≡ map element_of N
      listed' = listed_begin vs v S known_rows ∙ rows_listed

      puts : Puts vs' rows (document_of H) N 0
      puts = record {
        tree = (whole H es vs rows ds stands).tree;
        listed = listed_begin vs v rows stands.known ∙ stands.listed;
        members = λ z m. (seen_member (versions_at H) (whole H es vs rows ds stands) u.parents z m).0;
        under = subst (λ (n : ℕ). AreUnder n N) (same_level ∙ sym (ap (λ (key : ℕ → Key). (key 0).level) (next_key_begin vs v))) (seen_under (versions_at H) (whole H es vs rows ds stands) u.parents);
        new = subst (λ (key : ℕ → Key). AreNewKeys key 0 (document_of H)) (sym (next_key_begin vs v)) (new_keys H u resolved.level (whole H es vs rows ds stands) (new_in (reverse H) u follows));
      }

      runs_of : AreRunsOf vs' N 0 resolved.runs.items (ranges_at N u.change)
      runs_of = subst (λ (t : List Run). AreRunsOf vs' N 0 t (ranges_at N u.change)) (sym is.runs) (resolved_runs vs' S N u.change listed' shaped)

      known_places : AllByRecursion (λ (at : At). at.version < length vs) resolved.deletes.items
      known_places = all_weaker (HasPlace rows) (λ (at : At). at.version < length vs) resolved.deletes.items (λ at h. known_place vs rows at stands.known h) deletes_there

      -- the document with the update put in stands for the longer history
      pub stands_next : (es' : List GraphEntry) (rows' : List Row) (ds' : List RowDeletion) → es' ≡ es ++ entry_of u ∷ [] → ListsWithRuns vs' rows rows' resolved.runs.items
          → IsPermutation (ds ++ map (deletion_by (length vs)) resolved.deletes.items) ds' → AreKnown vs' rows' → length H + 1 ≤ 524288 → Stands (H ++ u ∷ []) es' vs' rows' ds'
      stands_next es' rows' ds' graph lists deletions known few = record {
        legal = (legal_more H u).1 (stands.legal, follows);
        few = omega (arith, few, length-append H (u ∷ []));
        graph = graph ∙ ap (λ t. t ++ entry_of u ∷ []) stands.graph ∙ sym (map-append entry_of H (u ∷ []));
        stamps = ap (λ t. t ++ v ∷ []) stands.stamps ∙ ap (λ (n : ℕ). stamps_of H ++ record { id = u.id; level = n } ∷ []) (sym same_level) ∙ sym (stamps_more H u);
        listed = lists (document_of H) N 0 (ranges_at N u.change) puts runs_of
            ∙ ap (λ (key : ℕ → Key). map element_of (with_nodes key_cmp (nodes_at key N 0 (ranges_at N u.change)) (document_of H))) (next_key_begin vs v)
            ∙ ap (λ (n : ℕ). map element_of (with_nodes key_cmp (nodes_at (key_in n u.id) N 0 (ranges_at N u.change)) (document_of H))) (sym same_level)
            ∙ ap (map element_of) (sym (document_more H u));
        deleted = IsPermutation-trans (map (named_deletion vs') ds') (map (named_deletion vs') (ds ++ added)) (deletions_of (H ++ u ∷ []))
            (IsPermutation-map (named_deletion vs') ds' (ds ++ added) (IsPermutation-sym (ds ++ added) ds' deletions))
            (subst (λ t. IsPermutation (map (named_deletion vs') (ds ++ added)) t) (sym (deletions_more H u))
            (subst (λ t. IsPermutation t (deletions_of H ++ deletions_by (added_by H u))) (sym named)
            (IsPermutation-append_left (deletions_by (added_by H u)) (map (named_deletion vs) ds) (deletions_of H) stands.deleted)));
        known = known;
        known_deletions = λ d c. elim (Contains-append_cases ds added d (Contains-permutation ds' (ds ++ added) d (IsPermutation-sym (ds ++ added) ds' deletions) c)) [
          | inl o ↦ (let k = stands.known_deletions d o in (omega (arith, k.0, length-append vs (v ∷ [])), omega (arith, k.1, length-append vs (v ∷ []))))
          | inr n ↦ all_member (IsKnownDeletion vs') d added (known_new vs v resolved.deletes.items known_places) (contains_member added d n)
        ];
      }
        where
          added : List RowDeletion
          added = map (deletion_by (length vs)) resolved.deletes.items

          named : map (named_deletion vs') (ds ++ added) ≡ map (named_deletion vs) ds ++ deletions_by (added_by H u)
          named = map-append (named_deletion vs') ds added
              ∙ ap (λ t. t ++ map (named_deletion vs') added) (named_begin vs v ds (λ d m. stands.known_deletions d (member_contains ds d m)))
              ∙ ap (λ t. map (named_deletion vs) ds ++ t) (named_new vs v resolved.deletes.items
              ∙ ap (λ t. map (λ (k : Key). record { key = k; by = u.id }) (map (key_at vs') t)) is.deletes
              ∙ ap (map (λ (k : Key). record { key = k; by = u.id })) (resolved_deletes vs' S N u.change listed'))

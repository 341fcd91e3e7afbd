-- Over a document that stands for a history, marked versions see what the history's ancestry sees.
use Rattle.std.proofs.Common.{◌≡◌, ℕ, ◌<◌, List, [], ◌∷◌, Bool, true, false, not, ◌&&◌, Option, Some, None, length, map, reverse, slice_get, refl, sym, ap, subst, ◌∙◌, inl, inr, arith, All}
use Rattle.std.specs.Option.{option_map}
use Rattle.std.proofs.lemmas.List.{length-map, reverse-reverse}
use Rattle.std.proofs.lemmas.List.Elements.{All-head, All-tail}
use Rattle.std.proofs.lemmas.List.Sorted.{IsPermutation-sym, Contains-permutation}
use Rattle.std.proofs.lemmas.Option.{none-some, same_Some, slice_get-map, slice_get_cases}
use Rattle.braid_ids.specs.MarkSets.{has_mark}
use Rattle.braid_change.specs.Updates.{UpdateView}
use Rattle.braid_graph.specs.Entries.{GraphEntry, ids_of, HoldsAll}
use Rattle.braid_graph.specs.Ancestries.{IsAncestor, MarksAncestry}
use Rattle.braid_graph.proofs.Newest.{one_number}
use Rattle.braid_tree.specs.declared.at.At.{At}
use Rattle.braid_tree.specs.Keys.{Key}
use Rattle.braid_tree.specs.Nodes.{Node}
use Rattle.braid_tree.specs.Elements.{Element, element_of}
use Rattle.braid_tree.specs.Trees.{Member}
use Rattle.braid_tree.specs.Rows.{Stamp, Row, IsKnownRow, element_at, key_at, key_by}
use Rattle.braid_tree.specs.Rows.{RowDeletion}
use Rattle.braid_tree.specs.Seen.{is_deleted_by, is_seen_by, seen_rows, char_in, Deletes}
use Rattle.braid_tree.proofs.Callers.{filter_members, one_place}
use Rattle.braid_tree.proofs.SeenRows.{deleted_words}
use Rattle.braid_rebase.specs.Additions.{has_key}
use Rattle.braid_rebase.proofs.Stands.{chars_listed}
use Rattle.braid_rebase.proofs.KeyTests.{key_member, member_key}
use Rattle.braid_rebase.proofs.Members.{contains_member, member_contains, member_map, member_from_map}
use Rattle.braid_text.specs.Versions.{Version, has_version, deletes, sees, versions_in, Deletion, deletions_by}
use Rattle.braid_text.specs.Histories.{graph_of, versions_at, document_of, ancestors_at, seen_at, text_at, deletions_of, entry_of}
use Rattle.braid_text.specs.Standing.{Stands, stamp_in, stamps_of, named_deletion, IsKnownDeletion}
use Rattle.braid_text.proofs.Held.{version_member, member_version, deletes_member, member_deletes}
use Rattle.braid_text.proofs.Whole.{IsWhole, whole_legal, one_version, ancestry_member}
use Rattle.braid_text.proofs.Ties.{ancestor_version, version_ancestor, legal_graph, map_reverse}
use Rattle.braid_text.proofs.Documents.{deletion_version, version_deletion}

bool_same : (a b : Bool) → (a ≡ true → b ≡ true) → (b ≡ true → a ≡ true) → a ≡ b
bool_same true b f g = sym (f refl)
bool_same false true f g = g refl
bool_same false false f g = refl

pub all_place : {A : Type 0} (P : A → Type 0) (x : A) (xs : List A) → All P xs → Member x xs → P x
all_place P x [] all m = absurd m
all_place P x (y ∷ xs) all (inl e) = subst P e (All-head P y xs all)
all_place P x (y ∷ xs) all (inr m) = all_place P x xs (All-tail P y xs all) m

-- the stamps have the identifiers of the entries
version_ids : (us : List UpdateView) → map (λ (v : Version). v.id) (versions_in us) ≡ map (λ (u : UpdateView). u.id) us
version_ids [] = refl
version_ids (u ∷ us) = ap (λ t. u.id ∷ t) (version_ids us)

map_map : {A B C : Type 0} (f : B → C) (g : A → B) (xs : List A) → map f (map g xs) ≡ map (λ (x : A). f (g x)) xs
map_map f g [] = refl
map_map f g (x ∷ xs) = ap (λ t. f (g x) ∷ t) (map_map f g xs)

pub stamp_ids : (H : List UpdateView) → map (λ (v : Stamp). v.id) (stamps_of H) ≡ ids_of (graph_of H)
stamp_ids H = map_map (λ (v : Stamp). v.id) stamp_in (reverse (versions_at H)) ∙ map_reverse (λ (v : Version). v.id) (versions_at H) ∙ ap reverse (version_ids (reverse H) ∙ map_reverse (λ (u : UpdateView). u.id) H) ∙ twice (map (λ (u : UpdateView). u.id) H) ∙ sym (map_map (λ (e : GraphEntry). e.id) entry_of H)
  where
    twice : (xs : List (List ℕ)) → reverse (reverse xs) ≡ xs
    twice xs = reverse-reverse xs

pub stamps_length : (H : List UpdateView) → length (stamps_of H) ≡ length H
stamps_length H = sym (length-map (stamps_of H) (λ (v : Stamp). v.id)) ∙ ap length (stamp_ids H) ∙ length-map (graph_of H) (λ (e : GraphEntry). e.id) ∙ length-map H entry_of

module _ (H : List UpdateView) (es : List GraphEntry) (vs : List Stamp) (rows : List Row) (ds : List RowDeletion) (stands : Stands H es vs rows ds) where
  pub whole : IsWhole (versions_at H)
  whole = whole_legal (reverse H) stands.legal

  -- the entry of the same number has the stamp's identifier
  entry_of_stamp : (n : ℕ) (s : Stamp) → slice_get vs n ≡ Some s → (e : GraphEntry) × (slice_get (graph_of H) n ≡ Some e) × (e.id ≡ s.id)
  entry_of_stamp n s at = go (slice_get (graph_of H) n) refl
    where
      ids : option_map (λ (e : GraphEntry). e.id) (slice_get (graph_of H) n) ≡ Some s.id
      ids = sym (slice_get-map (λ (e : GraphEntry). e.id) (graph_of H) n) ∙ ap (λ (t : List (List ℕ)). slice_get t n) (sym (stamp_ids H) ∙ ap (map (λ (v : Stamp). v.id)) (sym stands.stamps)) ∙ slice_get-map (λ (v : Stamp). v.id) vs n ∙ ap (option_map (λ (v : Stamp). v.id)) at

      go : (o : Option GraphEntry) → slice_get (graph_of H) n ≡ o → (e : GraphEntry) × (slice_get (graph_of H) n ≡ Some e) × (e.id ≡ s.id)
      go None x = absurd (none-some s.id (ap (option_map (λ (e : GraphEntry). e.id)) (sym x) ∙ ids))
      go (Some e) x = (e, x, same_Some e.id s.id (ap (option_map (λ (e : GraphEntry). e.id)) (sym x) ∙ ids))

  pub own_ids : (j k : ℕ) (x y : Stamp) → slice_get vs j ≡ Some x → slice_get vs k ≡ Some y → x.id ≡ y.id → j ≡ k
  own_ids j k x y a b same = one_number (graph_of H) (legal_graph H stands.legal) x.id j k (at j x a) (at k y b ∙ ap Some (sym same))
    where
      at : (n : ℕ) (s : Stamp) → slice_get vs n ≡ Some s → slice_get (ids_of (graph_of H)) n ≡ Some s.id
      at n s h = ap (λ (t : List (List ℕ)). slice_get t n) (sym (stamp_ids H) ∙ ap (map (λ (v : Stamp). v.id)) (sym stands.stamps)) ∙ slice_get-map (λ (v : Stamp). v.id) vs n ∙ ap (option_map (λ (v : Stamp). v.id)) h

  stamp_at : (n : ℕ) → n < length vs → (s : Stamp) × (slice_get vs n ≡ Some s)
  stamp_at n l = elim ((slice_get_cases vs n).1) [
    | inl (s, m, h, g) ↦ (s, h)
    | inr (past, h) ↦ absurd (omega (arith, past, l))
  ]

  key_id : (at : At) (s : Stamp) → slice_get vs at.version ≡ Some s → (key_at vs at).id ≡ s.id
  key_id at s h = ap (λ (o : Option Stamp). (key_by o at.ordinal).id) h

  module _ (F : List (List ℕ)) (held : HoldsAll (graph_of H) F) (marks : List Bool) (marked : MarksAncestry (graph_of H) F marks) where
    abbrev A : List Version
    A = ancestors_at H F

    mark_is : (n : ℕ) (s : Stamp) → slice_get vs n ≡ Some s → has_mark marks n ≡ has_version s.id A
    mark_is n s at = go (entry_of_stamp n s at)
      where
        go : (e : GraphEntry) × (slice_get (graph_of H) n ≡ Some e) × (e.id ≡ s.id) → has_mark marks n ≡ has_version s.id A
        go (e, x, same) = bool_same (has_mark marks n) (has_version s.id A)
            (λ m. ancestor_version H stands.legal F held s.id (subst (IsAncestor (graph_of H) F) same ((marked.exact n e x).0 m)))
            (λ v. (marked.exact n e x).1 (subst (IsAncestor (graph_of H) F) (sym same) (version_ancestor H stands.legal F held s.id v)))

    -- a deletion of the history that a marked version makes
    deleted_there : (at : At) (k : Key) → key_at vs at ≡ k → Deletes marks ds at → deletes k A ≡ true
    deleted_there at k key (d, c, e, m) = from (deletion_version (versions_at H) (named_deletion vs d) (contains_member (deletions_of H) (named_deletion vs d)
        (Contains-permutation (map (named_deletion vs) ds) (deletions_of H) (named_deletion vs d) stands.deleted (member_contains (map (named_deletion vs) ds) (named_deletion vs d) (member_map (named_deletion vs) d ds (contains_member ds d c))))))
      where
        by : (s : Stamp) × (slice_get vs d.by ≡ Some s)
        by = stamp_at d.by (stands.known_deletions d c).1

        from : (v : Version) × Member v (versions_at H) × Member (named_deletion vs d) (deletions_by v) → deletes k A ≡ true
        from (v, n, b) = named (member_from_map (λ (j : Key). record { key = j; by = v.id }) (named_deletion vs d) v.deleted b)
          where
            named : (j : Key) × Member j v.deleted × (record { key = j; by = v.id } ≡ named_deletion vs d) → deletes k A ≡ true
            named (j, x, same) = last (version_member by.0.id A (sym (mark_is d.by by.0 by.1) ∙ m))
              where
                is_key : j ≡ k
                is_key = ap (λ (t : Deletion). t.key) same ∙ ap (key_at vs) e ∙ key

                last : (w : Version) × Member w A × (w.id ≡ by.0.id) → deletes k A ≡ true
                last (w, y, f) = member_deletes k v A (subst (λ (t : Version). Member t A) (one_version (versions_at H) whole.ordered w v (ancestry_member w (versions_at H) F y) n (f ∙ sym (ap (λ (t : Deletion). t.by) same ∙ ap (λ (o : Option Stamp). (key_by o 0).id) by.1))) y)
                    (member_key k v.deleted (subst (λ (t : Key). Member t v.deleted) is_key x))

    deleted_here : (at : At) (k : Key) → at.version < length vs → key_at vs at ≡ k → deletes k A ≡ true → Deletes marks ds at
    deleted_here at k known key h = from (deletes_member k A h)
      where
        from : (v : Version) × Member v A × (has_key k v.deleted ≡ true) → Deletes marks ds at
        from (v, m, x) = named (member_from_map (named_deletion vs) (record { key = k; by = v.id }) ds (back (record { key = k; by = v.id })
            (version_deletion (versions_at H) v (record { key = k; by = v.id }) (ancestry_member v (versions_at H) F m) (member_map (λ (j : Key). record { key = j; by = v.id }) k v.deleted (key_member k v.deleted x)))))
          where
            back : (e : Deletion) → Member e (deletions_of H) → Member e (map (named_deletion vs) ds)
            back e n = contains_member (map (named_deletion vs) ds) e (Contains-permutation (deletions_of H) (map (named_deletion vs) ds) e (IsPermutation-sym (map (named_deletion vs) ds) (deletions_of H) stands.deleted) (member_contains (deletions_of H) e n))

            named : (d : RowDeletion) × Member d ds × (named_deletion vs d ≡ record { key = k; by = v.id }) → Deletes marks ds at
            named (d, y, same) = (d, member_contains ds d y, one_place vs own_ids d.at at (k2 y).0 known (ap (λ (t : Deletion). t.key) same ∙ sym key), mark_is d.by (by y).0 (by y).1 ∙ subst (λ (i : List ℕ). has_version i A ≡ true) (sym (ap (λ (t : Deletion). t.by) same) ∙ ap (λ (o : Option Stamp). (key_by o 0).id) (by y).1) (member_version v A m))
              where
                k2 : Member d ds → IsKnownDeletion vs d
                k2 z = stands.known_deletions d (member_contains ds d z)

                by : Member d ds → (s : Stamp) × (slice_get vs d.by ≡ Some s)
                by z = stamp_at d.by (k2 z).1

    agree : (r : Row) (x : Node Key) → Member r rows → Member x (document_of H) → element_at vs r ≡ element_of x → is_seen_by marks ds r ≡ sees A x
    agree r x m n e = (λ i. version i && not (deletion i))
      where
        key : key_at vs r.at ≡ x.key
        key = ap (λ (t : Element). t.key) e

        known : r.at.version < length vs
        known = (all_place (IsKnownRow vs) r rows stands.known m).place_known

        version : has_mark marks r.at.version ≡ has_version x.key.id A
        version = let s = stamp_at r.at.version known in mark_is r.at.version s.0 s.1 ∙ ap (λ (i : List ℕ). has_version i A) (sym (key_id r.at s.0 s.1) ∙ ap (λ (k : Key). k.id) key)

        deletion : is_deleted_by marks ds r.at ≡ deletes x.key A
        deletion = bool_same (is_deleted_by marks ds r.at) (deletes x.key A) (λ t. deleted_there r.at x.key key ((deleted_words marks ds r.at).0 t)) (λ t. (deleted_words marks ds r.at).1 (deleted_here r.at x.key known key t))

    -- the rows that are seen list the nodes that are seen
    pub seen_listed : map (element_at vs) (seen_rows marks ds rows) ≡ map element_of (seen_at H F)
    seen_listed = filter_members (element_at vs) element_of (is_seen_by marks ds) (sees A) rows (document_of H) agree stands.listed

-- and so the text that they see is what is read
pub text_seen : (H : List UpdateView) (es : List GraphEntry) (vs : List Stamp) (rows : List Row) (ds : List RowDeletion) → Stands H es vs rows ds → (F : List (List ℕ)) (marks : List Bool) → MarksAncestry es F marks → map char_in (seen_rows marks ds rows) ≡ text_at H F
text_seen H es vs rows ds stands F marks marked =
    let m : MarksAncestry (graph_of H) F marks = subst (λ (t : List GraphEntry). MarksAncestry t F marks) stands.graph marked in
    chars_listed vs (seen_rows marks ds rows) (seen_at H F) (seen_listed H es vs rows ds stands F m.held marks m)

-- The document of a legal history: its members, its elements and deletions, and what of it is seen.
use Rattle.std.proofs.Common.{◌≡◌, ◌↔◌, ℕ, ◌+◌, List, [], ◌∷◌, Bool, true, false, not, cond, length, reverse, Option, Some, None, refl, sym, ap, subst, ◌∙◌, inl, inr, arith, Less, length-append, is_lt}
use Rattle.std.proofs.lemmas.List.{length-map}
use Rattle.std.specs.Option.{MatchOption}
use Rattle.std.specs.List.{Contains}
use Rattle.braid_change.specs.Updates.{UpdateView}
use Rattle.braid_graph.specs.Entries.{HoldsAll}
use Rattle.braid_tree.specs.Keys.{Key, key_cmp}
use Rattle.braid_tree.specs.Nodes.{Node, IsReading, with_node, with_nodes, path_of}
use Rattle.braid_tree.specs.Elements.{Element, element_of}
use Rattle.braid_tree.proofs.LawProofs.{origin_listed}
use Rattle.braid_tree.specs.Paths.{path_cmp}
use Rattle.braid_rebase.proofs.KeyTests.{key_member, member_key}
use Rattle.braid_rebase.specs.Additions.{has_key}
use Rattle.braid_rebase.proofs.Filtered.{filter_member, member_filter}
use Rattle.braid_text.proofs.Held.{deletes_member, member_deletes, member_version, version_member}
use Rattle.braid_rebase.proofs.Members.{contains_member, member_contains, member_from_map, member_map}
use Rattle.braid_text.proofs.Same.{and_true, filter_reading, node_in}
use Rattle.braid_text.proofs.Ties.{ancestor_version, version_ancestor}
use Rattle.braid_tree.proofs.Member.{all_member, member_append_cases, member_append_left, member_append_right}
use Rattle.braid_text.specs.Versions.{Version, deletes, document_in, has_version, sees, Deletion, deletions_by, deletions_in, elements_by, elements_in}
use Rattle.braid_text.proofs.Whole.{IsWhole, ancestry_member, and_cases, not_true, one_version, whole_legal}
use Rattle.braid_text.specs.Documents.{IsDocument, IsSeen}
use Rattle.braid_text.specs.Histories.{IsLegal, ancestors_at, deletions_of, document_of, elements_of, graph_of, seen_at, versions_at}
use Rattle.braid_tree.specs.Trees.{AreDistinct, IsTree, Member}

-- the elements of versions are those that each adds, and likewise the deletions
pub element_version : (vs : List Version) (e : Element) → Member e (elements_in vs) → (v : Version) × Member v vs × Member e (elements_by v)
element_version [] e m = absurd m
element_version (v ∷ vs) e m = elim (member_append_cases e (elements_in vs) (elements_by v) m) [
  | inl a ↦ wider (element_version vs e a)
  | inr b ↦ (v, inl refl, b)
]
  where
    wider : (w : Version) × Member w vs × Member e (elements_by w) → (w : Version) × Member w (v ∷ vs) × Member e (elements_by w)
    wider (w, n, k) = (w, inr n, k)

pub version_element : (vs : List Version) (v : Version) (e : Element) → Member v vs → Member e (elements_by v) → Member e (elements_in vs)
version_element [] v e m k = absurd m
version_element (w ∷ vs) v e (inl same) k = member_append_right e (elements_in vs) (elements_by w) (subst (λ (t : Version). Member e (elements_by t)) (sym same) k)
version_element (w ∷ vs) v e (inr m) k = member_append_left e (elements_in vs) (elements_by w) (version_element vs v e m k)

pub deletion_version : (vs : List Version) (d : Deletion) → Member d (deletions_in vs) → (v : Version) × Member v vs × Member d (deletions_by v)
deletion_version [] d m = absurd m
deletion_version (v ∷ vs) d m = elim (member_append_cases d (deletions_in vs) (deletions_by v) m) [
  | inl a ↦ wider (deletion_version vs d a)
  | inr b ↦ (v, inl refl, b)
]
  where
    wider : (w : Version) × Member w vs × Member d (deletions_by w) → (w : Version) × Member w (v ∷ vs) × Member d (deletions_by w)
    wider (w, n, k) = (w, inr n, k)

pub version_deletion : (vs : List Version) (v : Version) (d : Deletion) → Member v vs → Member d (deletions_by v) → Member d (deletions_in vs)
version_deletion [] v d m k = absurd m
version_deletion (w ∷ vs) v d (inl same) k = member_append_right d (deletions_in vs) (deletions_by w) (subst (λ (t : Version). Member d (deletions_by t)) (sym same) k)
version_deletion (w ∷ vs) v d (inr m) k = member_append_left d (deletions_in vs) (deletions_by w) (version_deletion vs v d m k)

-- a document has one node for each element
length_with : (x : Node Key) (d : List (Node Key)) → length (with_node key_cmp x d) ≡ 1 + length d
length_with x [] = refl
length_with x (y ∷ d) = go (is_lt (path_cmp key_cmp (path_of x) (path_of y))) (length_with x d)
  where
    go : (b : Bool) → length (with_node key_cmp x d) ≡ 1 + length d → length (cond b (x ∷ y ∷ d) (y ∷ with_node key_cmp x d)) ≡ 1 + length (y ∷ d)
    go true e = omega arith
    go false e = omega (arith, e)

length_with_all : (xs d : List (Node Key)) → length (with_nodes key_cmp xs d) ≡ length xs + length d
length_with_all [] d = omega arith
length_with_all (x ∷ xs) d = omega (arith, length_with_all xs (with_node key_cmp x d), length_with x d)

pub document_length : (vs : List Version) → length (document_in vs) ≡ length (elements_in vs)
document_length [] = refl
document_length (v ∷ vs) = omega (arith, length_with_all v.nodes (document_in vs), document_length vs, length-append (elements_in vs) (elements_by v), length-map v.nodes element_of)

module _ (H : List UpdateView) (legal : IsLegal H) where
  whole : IsWhole (versions_at H)
  whole = whole_legal (reverse H) legal

  pub is_document : IsDocument H (document_of H)
  is_document = record {
    reading = whole.tree.reading;
    exact = λ x. (
      λ c. let p = whole.placed x (contains_member (document_of H) x c) in (p.0, member_contains (versions_at H) p.0 p.1, member_contains p.0.nodes x p.2),
      λ (v, c, k). member_contains (document_of H) x (node_in (versions_at H) v x (contains_member (versions_at H) v c) (contains_member v.nodes x k)),
    );
  }

  pub is_tree : IsTree key_cmp (document_of H)
  is_tree = whole.tree

  -- the elements are the nodes without their paths
  pub element_node : (e : Element) → Contains (elements_of H) e → (x : Node Key) × Contains (document_of H) x × (element_of x ≡ e)
  element_node e c = go (element_version (versions_at H) e (contains_member (elements_of H) e c))
    where
      go : (v : Version) × Member v (versions_at H) × Member e (elements_by v) → (x : Node Key) × Contains (document_of H) x × (element_of x ≡ e)
      go (v, m, k) = let r = member_from_map element_of e v.nodes k in (r.0, member_contains (document_of H) r.0 (node_in (versions_at H) v r.0 m r.1), r.2)

  pub node_element : (x : Node Key) → Contains (document_of H) x → Contains (elements_of H) (element_of x)
  node_element x c = go (whole.placed x (contains_member (document_of H) x c))
    where
      go : (v : Version) × Member v (versions_at H) × Member x v.nodes → Contains (elements_of H) (element_of x)
      go (v, m, k) = member_contains (elements_of H) (element_of x) (version_element (versions_at H) v (element_of x) m (member_map element_of x v.nodes k))

  pub elements_exact : (e : Element) → Contains (elements_of H) e ↔ ((x : Node Key) × Contains (document_of H) x × (element_of x ≡ e))
  elements_exact e = (element_node e, λ (x, c, same). subst (Contains (elements_of H)) same (node_element x c))

  -- a key has one node, and so one element
  one_key : (d : List (Node Key)) → AreDistinct d → (x y : Node Key) → Member x d → Member y d → x.key ≡ y.key → x ≡ y
  one_key [] a x y m n e = absurd m
  one_key (z ∷ d) a x y (inl f) (inl g) e = sym f ∙ g
  one_key (z ∷ d) a x y (inl f) (inr n) e = absurd (all_member (λ (t : Node Key). (t.key ≡ z.key) → ⊥) y d a.0 n (sym e ∙ ap (λ (t : Node Key). t.key) (sym f)))
  one_key (z ∷ d) a x y (inr m) (inl g) e = absurd (all_member (λ (t : Node Key). (t.key ≡ z.key) → ⊥) x d a.0 m (e ∙ ap (λ (t : Node Key). t.key) (sym g)))
  one_key (z ∷ d) a x y (inr m) (inr n) e = one_key d a.1 x y m n e

  pub nodes_differ : (x y : Node Key) → Contains (document_of H) x → Contains (document_of H) y → x.key ≡ y.key → x ≡ y
  nodes_differ x y c d e = one_key (document_of H) whole.tree.distinct x y (contains_member (document_of H) x c) (contains_member (document_of H) y d) e

  pub elements_differ : (e f : Element) → Contains (elements_of H) e → Contains (elements_of H) f → e.key ≡ f.key → e ≡ f
  elements_differ e f c d same = go (element_node e c) (element_node f d)
    where
      go : (x : Node Key) × Contains (document_of H) x × (element_of x ≡ e) → (y : Node Key) × Contains (document_of H) y × (element_of y ≡ f) → e ≡ f
      go (x, a, p) (y, b, q) = sym p ∙ ap element_of (nodes_differ x y a b (ap (λ (t : Element). t.key) p ∙ same ∙ ap (λ (t : Element). t.key) (sym q))) ∙ q

  -- an element's origin is the root, or the key of an element with a smaller one
  pub origin_is : (e : Element) → Contains (elements_of H) e → MatchOption e.origin (Unit {0}) (λ k. ((o : Element) × Contains (elements_of H) o × (o.key ≡ k)) × (key_cmp k e.key ≡ Less))
  origin_is e c = go (element_node e c)
    where
      of_node : (x : Node Key) → (o : Option Key) → MatchOption o (x.above ≡ []) (λ k. (y : Node Key) × Member y (document_of H) × (y.key ≡ k) × (path_of y ≡ x.above) × (key_cmp k x.key ≡ Less))
          → MatchOption o (Unit {0}) (λ k. ((o : Element) × Contains (elements_of H) o × (o.key ≡ k)) × (key_cmp k x.key ≡ Less))
      of_node x None h = tt
      of_node x (Some k) (y, m, same, p, less) = ((element_of y, node_element y (member_contains (document_of H) y m), same), less)

      go : (x : Node Key) × Contains (document_of H) x × (element_of x ≡ e) → MatchOption e.origin (Unit {0}) (λ k. ((o : Element) × Contains (elements_of H) o × (o.key ≡ k)) × (key_cmp k e.key ≡ Less))
      go (x, a, p) = subst (λ (t : Element). MatchOption t.origin (Unit {0}) (λ k. ((o : Element) × Contains (elements_of H) o × (o.key ≡ k)) × (key_cmp k t.key ≡ Less))) p
          (of_node x (element_of x).origin (origin_listed (document_of H) whole.tree x (contains_member (document_of H) x a)))

  -- an element's key has the level and the identifier of its version
  pub element_owned : (v : Version) → Contains (versions_at H) v → (e : Element) → Contains (elements_by v) e → (e.key.id ≡ v.id) × (e.key.level ≡ v.level)
  element_owned v c e k = go (member_from_map element_of e v.nodes (contains_member (elements_by v) e k))
    where
      go : (x : Node Key) × Member x v.nodes × (element_of x ≡ e) → (e.key.id ≡ v.id) × (e.key.level ≡ v.level)
      go (x, n, p) = subst (λ (t : Element). (t.key.id ≡ v.id) × (t.key.level ≡ v.level)) p (whole.own v (contains_member (versions_at H) v c) x n)

  -- what is seen stands in reading order
  pub seen_reading : (F : List (List ℕ)) → IsReading key_cmp (seen_at H F)
  seen_reading F = filter_reading (sees (ancestors_at H F)) (document_of H) whole.tree.reading

  -- what is seen at a frontier
  module _ (F : List (List ℕ)) (held : HoldsAll (graph_of H) F) where
    pub seen_is : (x : Node Key) → Contains (seen_at H F) x → IsSeen H F x
    seen_is x c = go (member_filter (sees (ancestors_at H F)) x (document_of H) (contains_member (seen_at H F) x c))
      where
        go : Member x (document_of H) × (sees (ancestors_at H F) x ≡ true) → IsSeen H F x
        go (d, s) = let p = and_cases (has_version x.key.id (ancestors_at H F)) (not (deletes x.key (ancestors_at H F))) s in record {
          listed = member_contains (document_of H) x d;
          inserted = version_ancestor H legal F held x.key.id p.0;
          kept = λ d c same a. no d (deletion_version (versions_at H) d (contains_member (deletions_of H) d c)) same (not_true (deletes x.key (ancestors_at H F)) p.1) (version_member d.by (ancestors_at H F) (ancestor_version H legal F held d.by a));
        }
          where
            no : (d : Deletion) → (v : Version) × Member v (versions_at H) × Member d (deletions_by v) → d.key ≡ x.key → deletes x.key (ancestors_at H F) ≡ false → (w : Version) × Member w (ancestors_at H F) × (w.id ≡ d.by) → ⊥
            no d (v, m, k) same none (w, n, e) = by (member_from_map (λ (k : Key). record { key = k; by = v.id }) d v.deleted k)
              where
                by : (k : Key) × Member k v.deleted × (record { key = k; by = v.id } ≡ d) → ⊥
                by (k, j, p) =
                    let one : w ≡ v = one_version (versions_at H) whole.ordered w v (ancestry_member w (versions_at H) F n) m (e ∙ ap (λ (t : Deletion). t.by) (sym p)) in
                    let has : has_key x.key w.deleted ≡ true = member_key x.key w.deleted (subst (λ (t : Version). Member x.key t.deleted) (sym one) (subst (λ (t : Key). Member t v.deleted) (ap (λ (t : Deletion). t.key) p ∙ same) j)) in
                    let yes : deletes x.key (ancestors_at H F) ≡ true = member_deletes x.key w (ancestors_at H F) n has in
                    cc

    pub is_seen : (x : Node Key) → IsSeen H F x → Contains (seen_at H F) x
    is_seen x s = member_contains (seen_at H F) x (filter_member (sees (ancestors_at H F)) x (document_of H) (contains_member (document_of H) x s.listed)
        (and_true (has_version x.key.id (ancestors_at H F)) (not (deletes x.key (ancestors_at H F))) (ancestor_version H legal F held x.key.id s.inserted) (ap not none)))
      where
        contra : (v : Version) × Member v (ancestors_at H F) × (has_key x.key v.deleted ≡ true) → ⊥
        contra (v, m, h) = s.kept (record { key = x.key; by = v.id })
            (member_contains (deletions_of H) (record { key = x.key; by = v.id }) (version_deletion (versions_at H) v (record { key = x.key; by = v.id }) (ancestry_member v (versions_at H) F m) (member_map (λ (k : Key). record { key = k; by = v.id }) x.key v.deleted (key_member x.key v.deleted h))))
            refl (version_ancestor H legal F held v.id (member_version v (ancestors_at H F) m))

        none : deletes x.key (ancestors_at H F) ≡ false
        none = go (deletes x.key (ancestors_at H F)) refl
          where
            go : (b : Bool) → deletes x.key (ancestors_at H F) ≡ b → b ≡ false
            go true e = absurd (contra (deletes_member x.key (ancestors_at H F) e))
            go false e = refl

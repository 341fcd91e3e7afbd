-- Histories of the same updates agree on everything.
use Rattle.std.proofs.Common.{◌≡◌, ℕ, ◌-◌, List, [], ◌∷◌, ◌++◌, true, false, refl, sym, ap, subst, ◌∙◌, inl, inr, arith, length, reverse, Option, None, Some, cond, Bool, length-append}
use Rattle.braid_tree.specs.Keys.{Key, key_cmp}
use Rattle.braid_tree.specs.Nodes.{Node}
use Rattle.braid_change.specs.Updates.{UpdateView}
use Rattle.braid_text.specs.Versions.{Version, document_in, has_version, versions_in, seen_in, version_in, text_in, Deletion, deletions_by, deletions_in, elements_by, elements_in}
use Rattle.braid_text.specs.Histories.{IsLegalLog, IsLegal, SameGraph, deletions_of, elements_of, entry_of, graph_of, versions_at}
use Rattle.braid_tree.specs.Trees.{Member}
use Rattle.braid_tree.proofs.Member.{member_append_left, member_append_right, member_append_cases}
use Rattle.braid_tree.proofs.Keys.{keys_strict}
use Rattle.braid_text.proofs.Held.{member_version, one_update, update_of, AllHeld}
use Rattle.braid_tree.proofs.Kept.{same_reading}
use Rattle.braid_text.proofs.Whole.{IsOrdered, whole_legal}
use Rattle.braid_text.proofs.Same.{Compatible, same_read, version_agrees, greatest_agrees, same_versions, node_in}
use Rattle.braid_text.specs.declared.room.Room.{Room}
use Rattle.braid_text.specs.Refusals.{room_in, needs_in, answer_in, find_in, first_missing, first_full}
use Rattle.braid_text.proofs.Logs.{held, has_part, has, IsPartOf}
use Rattle.std.proofs.lemmas.List.{length-map}
use Rattle.std.specs.List.{Contains, sum_by}
use Rattle.std.proofs.lemmas.List.Sums.{sum_by-cons, sum_by-append}
use Rattle.braid_graph.proofs.Frontiers.{same_frontiers}
use Rattle.braid_text.proofs.Judged.{none_missing, not_found, found}
use Rattle.braid_text.proofs.Ties.{held_at}
use Rattle.braid_graph.specs.Frontiers.{frontier_of}
use Rattle.braid_change.specs.Splices.{first_past}
use Rattle.braid_text.proofs.Documents.{deletion_version, element_version, version_deletion, version_element}
use Rattle.braid_rebase.proofs.Members.{contains_member, member_contains, member_from_map, member_map, in_log, from_log}
use Rattle.braid_rebase.specs.Additions.{chars_of}
use Rattle.braid_text.proofs.Answered.{answered, answer_by}
use Rattle.braid_graph.specs.Entries.{GraphEntry}
use Rattle.braid_tree.specs.Elements.{Element, element_of}
use Rattle.braid_text.specs.Alike.{AreAlike}

split_at : {A : Type 0} (x : A) (xs : List A) → Member x xs → (a : List A) × (b : List A) × (xs ≡ a ++ x ∷ b)
split_at x [] m = absurd m
split_at x (y ∷ xs) (inl e) = ([], xs, ap (λ t. t ∷ xs) e)
split_at x (y ∷ xs) (inr m) = let s = split_at x xs m in (y ∷ s.0, s.1, ap (λ t. y ∷ t) s.2)

-- versions with different identifiers
abbrev Differ : List Version → Type 0
Differ [] = Unit {0}
Differ (v ∷ vs) = ((w : Version) → Member w vs → v.id ≡ w.id → ⊥) × Differ vs

differ_split : (a b : List Version) (v : Version) → Differ (a ++ v ∷ b) → ((w : Version) → Member w (a ++ b) → w.id ≡ v.id → ⊥) × Differ (a ++ b)
differ_split [] b v d = ((λ w m e. d.0 w m (sym e)), d.1)
differ_split (x ∷ a) b v d = let r = differ_split a b v d.1 in (first r, ((λ w m. d.0 w (wider w m)), r.1))
  where
    wider : (w : Version) → Member w (a ++ b) → Member w (a ++ v ∷ b)
    wider w m = elim (member_append_cases w a b m) [ inl k ↦ member_append_left w a (v ∷ b) k | inr k ↦ member_append_right w a (v ∷ b) (inr k) ]

    first : ((w : Version) → Member w (a ++ b) → w.id ≡ v.id → ⊥) × Differ (a ++ b) → (w : Version) → Member w (x ∷ (a ++ b)) → w.id ≡ v.id → ⊥
    first r w (inl f) e = d.0 v (member_append_right v a (v ∷ b) (inl refl)) (ap (λ (t : Version). t.id) f ∙ e)
    first r w (inr m) e = r.0 w m e

-- lists of the same different versions have the same sum
sums_same : (f : Version → ℕ) (vs cs : List Version) → Differ vs → Differ cs → ((w : Version) → Member w vs → Member w cs) → ((w : Version) → Member w cs → Member w vs) → sum_by f vs ≡ sum_by f cs
sums_same f [] [] dv dc to from = refl
sums_same f [] (c ∷ cs) dv dc to from = absurd (from c (inl refl))
sums_same f (v ∷ vs) cs dv dc to from = go (split_at v cs (to v (inl refl))) (λ ks d t r. sums_same f vs ks dv.1 d t r)
  where
    go : (a : List Version) × (b : List Version) × (cs ≡ a ++ v ∷ b) → ((ks : List Version) → Differ ks → ((w : Version) → Member w vs → Member w ks) → ((w : Version) → Member w ks → Member w vs) → sum_by f vs ≡ sum_by f ks) → sum_by f (v ∷ vs) ≡ sum_by f cs
    go (a, b, e) ih = let t = ih (a ++ b) d.1 there back in let g = sum_by-append f a b in let h = sum_by-append f a (v ∷ b) in let k = ap (sum_by f) e in omega (arith, t, g, h, k, sum_by-cons f v vs, sum_by-cons f v b)
      where
        d : ((w : Version) → Member w (a ++ b) → w.id ≡ v.id → ⊥) × Differ (a ++ b)
        d = differ_split a b v (subst Differ e dc)

        there : (w : Version) → Member w vs → Member w (a ++ b)
        there w m = elim (member_append_cases w a (v ∷ b) (subst (Member w) e (to w (inr m)))) [
          | inl k ↦ member_append_left w a b k
          | inr (inl k) ↦ absurd (dv.0 w m (ap (λ (t : Version). t.id) k))
          | inr (inr k) ↦ member_append_right w a b k
        ]

        back : (w : Version) → Member w (a ++ b) → Member w vs
        back w m = elim (from w (subst (Member w) (sym e) (elim (member_append_cases w a b m) [ inl k ↦ member_append_left w a (v ∷ b) k | inr k ↦ member_append_right w a (v ∷ b) (inr k) ]))) [
          | inl k ↦ absurd (d.0 w m (ap (λ (t : Version). t.id) (sym k)))
          | inr k ↦ k
        ]

ordered_differ : (vs : List Version) → IsOrdered vs → Differ vs
ordered_differ [] o = tt
ordered_differ (v ∷ vs) o = ((λ w m e. let t : has_version v.id vs ≡ true = subst (λ (i : List ℕ). has_version i vs ≡ true) (sym e) (member_version w vs m) in let f = o.0 in cc), ordered_differ vs o.3)

length_elements : (vs : List Version) → length (elements_in vs) ≡ sum_by (λ (v : Version). length v.nodes) vs
length_elements [] = refl
length_elements (v ∷ vs) = omega (arith, sum_by-cons (λ (w : Version). length w.nodes) v vs, length-append (elements_in vs) (elements_by v), length-map v.nodes element_of, length_elements vs)

length_deletions : (vs : List Version) → length (deletions_in vs) ≡ sum_by (λ (v : Version). length v.deleted) vs
length_deletions [] = refl
length_deletions (v ∷ vs) = omega (arith, sum_by-cons (λ (w : Version). length w.deleted) v vs, length-append (deletions_in vs) (deletions_by v), length-map {B = Deletion} v.deleted (λ (k : Key). record { key = k; by = v.id }), length_deletions vs)

length_sum : (us : List UpdateView) → length us ≡ sum_by (λ (v : Version). 1) (versions_in us)
length_sum [] = refl
length_sum (u ∷ us) = omega (arith, sum_by-cons (λ (w : Version). 1) (version_in u (versions_in us)) (versions_in us), length_sum us)

versions_part : (us ks : List UpdateView) → IsLegalLog us → IsLegalLog ks → IsPartOf us ks → (w : Version) → Member w (versions_in us) → Member w (versions_in ks)
versions_part us ks lu lk to w m = same_versions us lu ks lk (λ x y a b e. one_update ks lk x y (to x a) b e) w m (let a = update_of us w m in has ks w.id (a.0, to a.0 a.1, a.2))

document_part : (us ks : List UpdateView) → IsLegalLog us → IsLegalLog ks → IsPartOf us ks → (z : Node Key) → Member z (document_in (versions_in us)) → Member z (document_in (versions_in ks))
document_part us ks lu lk to z m = let p = (whole_legal us lu).placed z m in node_in (versions_in ks) p.0 z (versions_part us ks lu lk to p.0 p.1) p.2

elements_part : (us ks : List UpdateView) → IsLegalLog us → IsLegalLog ks → IsPartOf us ks → (e : Element) → Member e (elements_in (versions_in us)) → Member e (elements_in (versions_in ks))
elements_part us ks lu lk to e m = let r = element_version (versions_in us) e m in version_element (versions_in ks) r.0 e (versions_part us ks lu lk to r.0 r.1) r.2

deletions_part : (us ks : List UpdateView) → IsLegalLog us → IsLegalLog ks → IsPartOf us ks → (d : Deletion) → Member d (deletions_in (versions_in us)) → Member d (deletions_in (versions_in ks))
deletions_part us ks lu lk to d m = let r = deletion_version (versions_in us) d m in version_deletion (versions_in ks) r.0 d (versions_part us ks lu lk to r.0 r.1) r.2

entries_part : (us ks : List UpdateView) → IsPartOf us ks → (e : GraphEntry) → Contains (graph_of us) e → Contains (graph_of ks) e
entries_part us ks to e c = let r = member_from_map entry_of e us (contains_member (graph_of us) e c) in member_contains (graph_of ks) e (subst (λ (t : GraphEntry). Member t (graph_of ks)) r.2 (member_map entry_of r.0 ks (to r.0 r.1)))

-- the frontier is that of the updates, in whatever order
pub frontier_same : (us ks : List UpdateView) → IsPartOf us ks → IsPartOf ks us → frontier_of (graph_of us) ≡ frontier_of (graph_of ks)
frontier_same us ks to from = same_frontiers (graph_of us) (graph_of ks) (λ e. (entries_part us ks to e, entries_part ks us from e))

pub turned_log : (H : List UpdateView) → IsPartOf H (reverse H)
turned_log H u m = in_log H u (member_contains H u m)

pub log_turned : (H : List UpdateView) → IsPartOf (reverse H) H
log_turned H u m = contains_member H u (from_log H u m)

-- an identifier has one update
found_same : (us ks : List UpdateView) → IsLegalLog ks → IsPartOf us ks → (v : List ℕ) (w : UpdateView) → find_in v us ≡ Some w → find_in v ks ≡ Some w
found_same us ks lk to v w e = go (find_in v ks) refl
  where
    go : (o : Option UpdateView) → find_in v ks ≡ o → o ≡ Some w
    go None f = absurd (not_found v ks f (w, to w (found v us w e).0, (found v us w e).1))
    go (Some x) f = ap Some (one_update ks lk x w (found v ks x f).0 (to w (found v us w e).0) ((found v ks x f).1 ∙ sym (found v us w e).1))

find_same : (us ks : List UpdateView) → IsLegalLog us → IsLegalLog ks → IsPartOf us ks → IsPartOf ks us → (v : List ℕ) → find_in v us ≡ find_in v ks
find_same us ks lu lk to from v = go (find_in v us) (find_in v ks) refl refl
  where
    go : (a b : Option UpdateView) → find_in v us ≡ a → find_in v ks ≡ b → a ≡ b
    go None None e f = refl
    go (Some w) b e f = sym (found_same us ks lk to v w e) ∙ f
    go None (Some w) e f = sym e ∙ found_same ks us lu from v w f

has_same : (us ks : List UpdateView) → IsPartOf us ks → IsPartOf ks us → (v : List ℕ) → has_version v (versions_in us) ≡ has_version v (versions_in ks)
has_same us ks to from v = go (has_version v (versions_in us)) (has_version v (versions_in ks)) refl refl
  where
    go : (a b : Bool) → has_version v (versions_in us) ≡ a → has_version v (versions_in ks) ≡ b → a ≡ b
    go true true e f = refl
    go false false e f = refl
    go true false e f = absurd (let t = has ks v (has_part us ks to v (held us v e)) in cc)
    go false true e f = absurd (let t = has us v (has_part ks us from v (held ks v f)) in cc)

missing_same : (us ks : List UpdateView) → IsPartOf us ks → IsPartOf ks us → (ps : List (List ℕ)) → first_missing ps us ≡ first_missing ps ks
missing_same us ks to from [] = refl
missing_same us ks to from (p ∷ ps) = ap (λ (b : Bool). cond b (first_missing ps us) (Some p)) (has_same us ks to from p) ∙ ap (λ o. cond (has_version p (versions_in ks)) o (Some p)) (missing_same us ks to from ps)

module _ (us ks : List UpdateView) (lu : IsLegalLog us) (lk : IsLegalLog ks) (to : IsPartOf us ks) (from : IsPartOf ks us) where
  compatible : Compatible us ks
  compatible x y a b e = one_update ks lk x y (to x a) b e

  back_compatible : Compatible ks us
  back_compatible x y a b e = one_update us lu x y (from x a) b e

  sums : (f : Version → ℕ) → sum_by f (versions_in us) ≡ sum_by f (versions_in ks)
  sums f = sums_same f (versions_in us) (versions_in ks) (ordered_differ (versions_in us) (whole_legal us lu).ordered) (ordered_differ (versions_in ks) (whole_legal ks lk).ordered) (versions_part us ks lu lk to) (versions_part ks us lk lu from)

  pub same_document : document_in (versions_in us) ≡ document_in (versions_in ks)
  same_document = same_reading key_cmp keys_strict (document_in (versions_in us)) (document_in (versions_in ks)) (whole_legal us lu).tree.reading (whole_legal ks lk).tree.reading (document_part us ks lu lk to) (document_part ks us lk lu from)

  same_elements : length (elements_in (versions_in us)) ≡ length (elements_in (versions_in ks))
  same_elements = length_elements (versions_in us) ∙ sums (λ (v : Version). length v.nodes) ∙ sym (length_elements (versions_in ks))

  same_deletions : length (deletions_in (versions_in us)) ≡ length (deletions_in (versions_in ks))
  same_deletions = length_deletions (versions_in us) ∙ sums (λ (v : Version). length v.deleted) ∙ sym (length_deletions (versions_in ks))

  same_lengths : length us ≡ length ks
  same_lengths = length_sum us ∙ sums (λ (v : Version). 1) ∙ sym (length_sum ks)

  pub same_room : (limits : Room) → room_in limits us ≡ room_in limits ks
  same_room limits = λ i. record { versions = limits.versions - same_lengths i; elements = limits.elements - same_elements i; deletions = limits.deletions - same_deletions i; width = limits.width }

  held_there : (F : List (List ℕ)) → AllHeld (versions_in us) F → AllHeld (versions_in ks) F
  held_there F h i m = sym (has_same us ks to from i) ∙ h i m

  pub same_seen : (F : List (List ℕ)) → AllHeld (versions_in us) F → seen_in (versions_in us) F ≡ seen_in (versions_in ks) F
  same_seen F h = same_read us ks lu lk compatible F h (held_there F h)

  version_same : (u : UpdateView) → AllHeld (versions_in us) u.parents → version_in u (versions_in us) ≡ version_in u (versions_in ks)
  version_same u h = version_agrees u (versions_in us) (versions_in ks) (same_seen u.parents h)
      (let a = greatest_agrees (versions_in us) (versions_in ks) (same_versions us lu ks lk compatible) u.parents (held_there u.parents h) in let b = greatest_agrees (versions_in ks) (versions_in us) (same_versions ks lk us lu back_compatible) u.parents h in omega (arith, a, b))

  fronts : (u : UpdateView) → frontier_of (graph_of (u ∷ us)) ≡ frontier_of (graph_of (u ∷ ks))
  fronts u = frontier_same (u ∷ us) (u ∷ ks) (λ x m. elim m [ inl e ↦ inl e | inr n ↦ inr (to x n) ]) (λ x m. elim m [ inl e ↦ inl e | inr n ↦ inr (from x n) ])

  pub same_needs : (u : UpdateView) → AllHeld (versions_in us) u.parents → needs_in us u ≡ needs_in ks u
  same_needs u h = let v = version_same u h in let f = fronts u in λ i. record { versions = 1; elements = length (v i).nodes; deletions = length (v i).deleted; width = length (f i) }

  pub same_answer : (room : Room) (u : UpdateView) → answer_in room us u ≡ answer_in room ks u
  same_answer room u = go (find_in u.id us) (first_missing u.parents us) refl refl
    where
      text : List UpdateView → List ℕ
      text os = text_in (versions_in os) u.parents

      each : (os : List UpdateView) (o : Option UpdateView) (p : Option (List ℕ)) → find_in u.id os ≡ o → first_missing u.parents os ≡ p → answer_in room os u ≡ answered u (length (text os)) o p (first_past (text os) u.change) (first_full (needs_in os u) room)
      each os o p a b = answer_by room os u o p (first_past (text os) u.change) (first_full (needs_in os u) room) a b refl refl

      go : (o : Option UpdateView) (p : Option (List ℕ)) → find_in u.id us ≡ o → first_missing u.parents us ≡ p → answer_in room us u ≡ answer_in room ks u
      go o p a b = each us o p a b ∙ by o p b ∙ sym (each ks o p (sym (find_same us ks lu lk to from u.id) ∙ a) (sym (missing_same us ks to from u.parents) ∙ b))
        where
          by : (o : Option UpdateView) (p : Option (List ℕ)) → first_missing u.parents us ≡ p
              → answered u (length (text us)) o p (first_past (text us) u.change) (first_full (needs_in us u) room) ≡ answered u (length (text ks)) o p (first_past (text ks) u.change) (first_full (needs_in ks u) room)
          by (Some w) p e = refl
          by None (Some v) e = refl
          by None None e = ap (λ (t : List ℕ). answered u (length t) None None (first_past t u.change) (first_full (needs_in us u) room)) (ap chars_of (same_seen u.parents all)) ∙ ap (λ (n : Room). answered u (length (text ks)) None None (first_past (text ks) u.change) (first_full n room)) (same_needs u all)
            where
              all : AllHeld (versions_in us) u.parents
              all i m = has us i (none_missing u.parents us e i m)

pub are_alike : (H K : List UpdateView) → IsLegal H → IsLegal K → SameGraph H K → AreAlike H K
are_alike H K lh lk same = record {
  versions = λ v. (there v, back v);
  elements = λ e. (
    λ c. member_contains (elements_of K) e (elements_part us ks lh lk to e (contains_member (elements_of H) e c)),
    λ c. member_contains (elements_of H) e (elements_part ks us lk lh from e (contains_member (elements_of K) e c)),
  );
  deletions = λ d. (
    λ c. member_contains (deletions_of K) d (deletions_part us ks lh lk to d (contains_member (deletions_of H) d c)),
    λ c. member_contains (deletions_of H) d (deletions_part ks us lk lh from d (contains_member (deletions_of K) d c)),
  );
  document = same_document us ks lh lk to from;
  frontier = frontier_same H K (λ u m. contains_member K u ((same u).0 (member_contains H u m))) (λ u m. contains_member H u ((same u).1 (member_contains K u m)));
  seen = λ F held. same_seen us ks lh lk to from F (held_at H F held);
  room = same_room us ks lh lk to from;
  needs = λ u held. same_needs us ks lh lk to from u (held_at H u.parents held);
  answers = same_answer us ks lh lk to from;
}
  where
    us : List UpdateView
    us = reverse H

    ks : List UpdateView
    ks = reverse K

    to : IsPartOf us ks
    to x m = in_log K x ((same x).0 (from_log H x m))

    from : IsPartOf ks us
    from x m = in_log H x ((same x).1 (from_log K x m))

    there : (v : Version) → Contains (versions_at H) v → Contains (versions_at K) v
    there v c = member_contains (versions_at K) v (versions_part us ks lh lk to v (contains_member (versions_at H) v c))

    back : (v : Version) → Contains (versions_at K) v → Contains (versions_at H) v
    back v c = member_contains (versions_at H) v (versions_part ks us lk lh from v (contains_member (versions_at K) v c))

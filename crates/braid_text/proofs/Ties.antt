-- What the version graph of a legal history says of its versions: their ancestry, their levels, and the frontier of all.
use Rattle.std.proofs.Common.{◌≡◌, ℕ, ◌+◌, ◌≤◌, List, [], ◌∷◌, ◌++◌, Bool, true, false, ◌||◌, not, cond, map, reverse, refl, sym, ap, subst, ◌∙◌, inl, inr, ◌⊎◌, arith, slice_get, Some}
use Rattle.std.specs.List.{Contains}
use Rattle.std.specs.Ordering.{is_eq}
use Rattle.std.proofs.lemmas.List.{map-append, reverse-append, reverse-reverse}
use Rattle.std.proofs.lemmas.Option.{slice_get_within}
use Rattle.std.proofs.lemmas.List.Sorted.{IsPermutation-reverse, Contains-permutation}
use Rattle.braid_ids.specs.Identifiers.{id_cmp}
use Rattle.braid_change.specs.Updates.{UpdateView}
use Rattle.braid_graph.specs.Entries.{GraphEntry, ids_of, Holds, HoldsAll, IsHistoryGraph, has_id}
use Rattle.braid_graph.specs.Ancestries.{IsAncestor, ancestry_in, ancestry_of}
use Rattle.braid_graph.specs.Levels.{greatest_by, level_in, level_of}
use Rattle.braid_graph.specs.Frontiers.{IsParent, is_head, is_parent, frontier_of}
use Rattle.braid_graph.proofs.Newest.{history_push}
use Rattle.braid_graph.proofs.Levels.{greatest_up_to}
use Rattle.braid_graph.proofs.Frontiers.{held_same, frontier_is}
use Rattle.braid_graph.proofs.Flags.{head_no_parent}
use Rattle.braid_graph.proofs.Orders.{walk_members}
use Rattle.braid_tree.specs.Trees.{Member}
use Rattle.braid_tree.proofs.Keys.{ids_strict, eq_true, eq_itself}
use Rattle.braid_tree.proofs.Member.{member_append_left, member_append_right}
use Rattle.braid_text.specs.Versions.{Version, has_version, ancestors_in, greatest_level, version_in, versions_in}
use Rattle.braid_text.specs.Histories.{entry_of, graph_of, IsLegalLog, IsLegal, versions_at, ancestors_at}
use Rattle.braid_rebase.proofs.Members.{contains_member, member_contains, member_map, member_from_map}
use Rattle.braid_text.proofs.Held.{id_member, member_id, version_member, member_version, new_in, parents_in, holds_all, AllHeld}
use Rattle.braid_text.proofs.Whole.{greatest_at, greatest_least}

abbrev pub id_of : Version → List ℕ
id_of v = v.id

pub map_reverse : {A B : Type 0} (f : A → B) (xs : List A) → map f (reverse xs) ≡ reverse (map f xs)
map_reverse f [] = refl
map_reverse f (x ∷ xs) = ap (map f) (reverse-append (x ∷ []) xs) ∙ map-append f (reverse xs) (x ∷ []) ∙ ap (λ t. t ++ f x ∷ []) (map_reverse f xs) ∙ sym (reverse-append (f x ∷ []) (map f xs))

pub graph_reverse : (us : List UpdateView) → graph_of (reverse us) ≡ reverse (graph_of us)
graph_reverse us = map_reverse entry_of us

pub log_graph : (H : List UpdateView) → graph_of (reverse H) ≡ reverse (graph_of H)
log_graph H = graph_reverse H

-- what is held does not depend on the order
turned : (es : List GraphEntry) (e : GraphEntry) → Contains es e → Contains (reverse es) e
turned es e c = Contains-permutation es (reverse es) e (IsPermutation-reverse es) c

pub holds_reverse : (es : List GraphEntry) (v : List ℕ) → Holds es v → Holds (reverse es) v
holds_reverse es v h = held_same es (reverse es) (turned es) v h

pub holds_from_reverse : (es : List GraphEntry) (v : List ℕ) → Holds (reverse es) v → Holds es v
holds_from_reverse es v h = subst (λ (t : List GraphEntry). Holds t v) (reverse-reverse es) (holds_reverse (reverse es) v h)

pub holds_log : (H : List UpdateView) (v : List ℕ) → Holds (graph_of H) v → Holds (graph_of (reverse H)) v
holds_log H v h = subst (λ (t : List GraphEntry). Holds t v) (sym (log_graph H)) (holds_reverse (graph_of H) v h)

pub log_holds : (H : List UpdateView) (v : List ℕ) → Holds (graph_of (reverse H)) v → Holds (graph_of H) v
log_holds H v h = holds_from_reverse (graph_of H) v (subst (λ (t : List GraphEntry). Holds t v) (log_graph H) h)

pub held_at : (H : List UpdateView) (F : List (List ℕ)) → HoldsAll (graph_of H) F → AllHeld (versions_at H) F
held_at H F held = holds_all (reverse H) F (λ v c. holds_log H v (held v c))

-- the graph of a legal history is a history of the graph
log_history : (us : List UpdateView) → IsLegalLog us → IsHistoryGraph (reverse (graph_of us))
log_history [] legal = record { distinct = λ n d at c. no n d at; parents_first = λ n d at p c. absurd (no n d at) }
  where
    no : (n : ℕ) (d : GraphEntry) → slice_get [] n ≡ Some d → ⊥
    no n d at = let l = slice_get_within [] n d at in omega (arith, l)
log_history (u ∷ us) legal = subst IsHistoryGraph (sym (reverse-append (entry_of u ∷ []) (graph_of us)))
    (history_push (reverse (graph_of us)) (entry_of u) (log_history us legal.1) (λ h. legal.0.new (holds_from_reverse (graph_of us) u.id h)) (λ p c. holds_reverse (graph_of us) p (legal.0.parents_held p c)))

pub legal_graph : (H : List UpdateView) → IsLegal H → IsHistoryGraph (graph_of H)
legal_graph H legal = subst IsHistoryGraph (ap reverse (log_graph H) ∙ reverse-reverse (graph_of H)) (log_history (reverse H) legal)

-- the versions of an ancestry are those that the walk over the graph finds
pub ancestors_ids : (us : List UpdateView) (F : List (List ℕ)) → map id_of (ancestors_in (versions_in us) F) ≡ ancestry_in (graph_of us) F
ancestors_ids [] F = refl
ancestors_ids (u ∷ us) F = go (has_id u.id F) (ancestors_ids us)
  where
    go : (b : Bool) → ((G : List (List ℕ)) → map id_of (ancestors_in (versions_in us) G) ≡ ancestry_in (graph_of us) G)
        → map id_of (cond b (version_in u (versions_in us) ∷ ancestors_in (versions_in us) (u.parents ++ F)) (ancestors_in (versions_in us) F)) ≡ cond b (u.id ∷ ancestry_in (graph_of us) (u.parents ++ F)) (ancestry_in (graph_of us) F)
    go true ih = ap (λ t. u.id ∷ t) (ih (u.parents ++ F))
    go false ih = ih F

pub ancestors_walk : (H : List UpdateView) (F : List (List ℕ)) → map id_of (ancestors_at H F) ≡ ancestry_of (graph_of H) F
ancestors_walk H F = ancestors_ids (reverse H) F ∙ ap (λ (es : List GraphEntry). ancestry_in es F) (log_graph H)

pub ancestor_version : (H : List UpdateView) → IsLegal H → (F : List (List ℕ)) → HoldsAll (graph_of H) F → (v : List ℕ) → IsAncestor (graph_of H) F v → has_version v (ancestors_at H F) ≡ true
ancestor_version H legal F held v a = go (member_from_map id_of v (ancestors_at H F) (contains_member (map id_of (ancestors_at H F)) v (subst (λ (t : List (List ℕ)). Contains t v) (sym (ancestors_walk H F)) ((walk_members (graph_of H) F (legal_graph H legal) held v).1 a))))
  where
    go : (w : Version) × Member w (ancestors_at H F) × (id_of w ≡ v) → has_version v (ancestors_at H F) ≡ true
    go (w, m, e) = subst (λ (t : List ℕ). has_version t (ancestors_at H F) ≡ true) e (member_version w (ancestors_at H F) m)

pub version_ancestor : (H : List UpdateView) → IsLegal H → (F : List (List ℕ)) → HoldsAll (graph_of H) F → (v : List ℕ) → has_version v (ancestors_at H F) ≡ true → IsAncestor (graph_of H) F v
version_ancestor H legal F held v h = go (version_member v (ancestors_at H F) h)
  where
    go : (w : Version) × Member w (ancestors_at H F) × (w.id ≡ v) → IsAncestor (graph_of H) F v
    go (w, m, e) = (walk_members (graph_of H) F (legal_graph H legal) held v).0 (subst (λ (t : List (List ℕ)). Contains t v) (ancestors_walk H F) (subst (λ (t : List ℕ). Contains (map id_of (ancestors_at H F)) t) e (member_contains (map id_of (ancestors_at H F)) w.id (member_map id_of w (ancestors_at H F) m))))

-- levels
level_newest : (e : GraphEntry) (es : List GraphEntry) → level_in (e ∷ es) e.id ≡ 1 + greatest_by (level_in es) e.parents
level_newest e es = ap (λ (b : Bool). cond b (1 + greatest_by (level_in es) e.parents) (level_in es e.id)) (eq_itself id_cmp ids_strict e.id)

level_older : (e : GraphEntry) (es : List GraphEntry) (v : List ℕ) → (e.id ≡ v → ⊥) → level_in (e ∷ es) v ≡ level_in es v
level_older e es v other = go (is_eq (id_cmp e.id v)) refl
  where
    go : (b : Bool) → is_eq (id_cmp e.id v) ≡ b → cond b (1 + greatest_by (level_in es) e.parents) (level_in es v) ≡ level_in es v
    go true t = absurd (other (eq_true id_cmp ids_strict e.id v t))
    go false t = refl

by_at : (f : List ℕ → ℕ) (F : List (List ℕ)) (v : List ℕ) → Member v F → f v ≤ greatest_by f F
by_at f [] v m = absurd m
by_at f (w ∷ F) v (inl e) = let g : f w ≡ f v = ap f e in omega arith
by_at f (w ∷ F) v (inr m) = let g = by_at f F v m in omega arith

-- the greatest level of a frontier, where each version has its level
greatest_same : (vs : List Version) (f : List ℕ → ℕ) → ((w : Version) → Member w vs → w.level ≡ f w.id) → (F : List (List ℕ)) → AllHeld vs F → greatest_level vs F ≡ greatest_by f F
greatest_same vs f levels F held = omega (arith, up, down)
  where
    up : greatest_level vs F ≤ greatest_by f F
    up = greatest_least vs F (greatest_by f F) (λ w m h. let e = levels w m in let l = by_at f F w.id (id_member w.id F h) in omega (arith, e, l))

    down : greatest_by f F ≤ greatest_level vs F
    down = greatest_up_to f F (greatest_level vs F) (λ v m. go v m (version_member v vs (held v m)))
      where
        go : (v : List ℕ) → Member v F → (w : Version) × Member w vs × (w.id ≡ v) → f v ≤ greatest_level vs F
        go v m (w, n, e) = let l = greatest_at vs F w n (member_id w.id F (subst (λ (t : List ℕ). Member t F) (sym e) m)) in let a = levels w n in let b : f w.id ≡ f v = ap f e in omega (arith, l, a, b)

pub levels_log : (us : List UpdateView) → IsLegalLog us → (w : Version) → Member w (versions_in us) → w.level ≡ level_in (graph_of us) w.id
levels_log [] legal w m = absurd m
levels_log (u ∷ us) legal w (inl e) = subst (λ (t : Version). t.level ≡ level_in (graph_of (u ∷ us)) t.id) e (ap (λ (n : ℕ). 1 + n) (greatest_same (versions_in us) (level_in (graph_of us)) (levels_log us legal.1) u.parents (parents_in us u legal.0)) ∙ sym (level_newest (entry_of u) (graph_of us)))
levels_log (u ∷ us) legal w (inr m) = levels_log us legal.1 w m ∙ sym (level_older (entry_of u) (graph_of us) w.id (λ same. let t : has_version u.id (versions_in us) ≡ true = subst (λ (i : List ℕ). has_version i (versions_in us) ≡ true) (sym same) (member_version w (versions_in us) m) in let f = new_in us u legal.0 in cc))

pub levels : (H : List UpdateView) → IsLegal H → (w : Version) → Member w (versions_at H) → w.level ≡ level_of (graph_of H) w.id
levels H legal w m = levels_log (reverse H) legal w m ∙ ap (λ (es : List GraphEntry). level_in es w.id) (log_graph H)

pub greatest_levels : (H : List UpdateView) → IsLegal H → (F : List (List ℕ)) → HoldsAll (graph_of H) F → greatest_level (versions_at H) F ≡ greatest_by (level_of (graph_of H)) F
greatest_levels H legal F held = greatest_same (versions_at H) (level_of (graph_of H)) (levels H legal) F (held_at H F held)

-- some update of the list has this identifier among its parents
abbrev pub IsParentIn : List UpdateView → List ℕ → Type 0
IsParentIn us v = (w : UpdateView) × Member w us × Member v w.parents

-- the newest update is no parent
pub newest_free : (u : UpdateView) (us : List UpdateView) → IsLegalLog (u ∷ us) → IsParentIn (u ∷ us) u.id → ⊥
newest_free u us legal (w, inl e, n) = fresh u us legal (subst (λ (t : UpdateView). Member u.id t.parents) (sym e) n)
  where
    fresh : (u : UpdateView) (us : List UpdateView) → IsLegalLog (u ∷ us) → Member u.id u.parents → ⊥
    fresh u us legal m = legal.0.new (legal.0.parents_held u.id (member_contains u.parents u.id m))
newest_free u us legal (w, inr m, n) = legal.0.new (older us legal.1 w m u.id n)
  where
    older : (us : List UpdateView) → IsLegalLog us → (w : UpdateView) → Member w us → (p : List ℕ) → Member p w.parents → Holds (graph_of us) p
    older [] legal w m p n = absurd m
    older (x ∷ us) legal w (inl e) p n = wider x us p (legal.0.parents_held p (member_contains x.parents p (subst (λ (t : UpdateView). Member p t.parents) (sym e) n)))
      where
        wider : (x : UpdateView) (us : List UpdateView) (p : List ℕ) → Holds (graph_of us) p → Holds (graph_of (x ∷ us)) p
        wider x us p h = member_contains (ids_of (graph_of (x ∷ us))) p (inr (contains_member (ids_of (graph_of us)) p h))
    older (x ∷ us) legal w (inr m) p n = wider x us p (older us legal.1 w m p n)
      where
        wider : (x : UpdateView) (us : List UpdateView) (p : List ℕ) → Holds (graph_of us) p → Holds (graph_of (x ∷ us)) p
        wider x us p h = member_contains (ids_of (graph_of (x ∷ us))) p (inr (contains_member (ids_of (graph_of us)) p h))

-- where each update is named or a parent, the ancestry is all
pub ancestry_whole : (us : List UpdateView) → IsLegalLog us → (G : List (List ℕ)) → ((u : UpdateView) → Member u us → Member u.id G ⊎ IsParentIn us u.id) → ancestors_in (versions_in us) G ≡ versions_in us
ancestry_whole [] legal G all = refl
ancestry_whole (u ∷ us) legal G all = ap (λ (b : Bool). cond b (version_in u (versions_in us) ∷ ancestors_in (versions_in us) (u.parents ++ G)) (ancestors_in (versions_in us) G)) named_first ∙ ap (λ t. version_in u (versions_in us) ∷ t) (ancestry_whole us legal.1 (u.parents ++ G) more)
  where
    named_first : has_id u.id G ≡ true
    named_first = elim (all u (inl refl)) [ inl m ↦ member_id u.id G m | inr p ↦ absurd (newest_free u us legal p) ]

    more : (w : UpdateView) → Member w us → Member w.id (u.parents ++ G) ⊎ IsParentIn us w.id
    more w m = elim (all w (inr m)) [
      | inl n ↦ inl (member_append_right w.id u.parents G n)
      | inr (x, inl e, n) ↦ inl (member_append_left w.id u.parents G (subst (λ (t : UpdateView). Member w.id t.parents) (sym e) n))
      | inr (x, inr k, n) ↦ inr (x, k, n)
    ]

-- an entry of a graph comes from an update
entry_update : (us : List UpdateView) (v : List ℕ) → IsParent (graph_of us) v → IsParentIn us v
entry_update us v (e, c, p) = go (member_from_map entry_of e us (contains_member (graph_of us) e c))
  where
    go : (w : UpdateView) × Member w us × (entry_of w ≡ e) → IsParentIn us v
    go (w, m, same) = (w, m, contains_member w.parents v (subst (λ (t : GraphEntry). Contains t.parents v) (sym same) p))

pub frontier_names : (us : List UpdateView) (u : UpdateView) → Member u us → Member u.id (frontier_of (graph_of us)) ⊎ IsParentIn us u.id
frontier_names us u m = go (is_head (graph_of us) u.id) refl
  where
    held : Holds (graph_of us) u.id
    held = member_contains (ids_of (graph_of us)) u.id (member_map (λ (e : GraphEntry). e.id) (entry_of u) (graph_of us) (member_map entry_of u us m))

    go : (b : Bool) → is_head (graph_of us) u.id ≡ b → Member u.id (frontier_of (graph_of us)) ⊎ IsParentIn us u.id
    go true h = inl (contains_member (frontier_of (graph_of us)) u.id (((frontier_is (graph_of us)).exact u.id).1 (held, head_no_parent (graph_of us) u.id h)))
    go false h = inr (entry_update us u.id (parent_of (graph_of us) u.id h))
      where
        parent_of : (es : List GraphEntry) (v : List ℕ) → is_head es v ≡ false → IsParent es v
        parent_of [] v h = cc
        parent_of (e ∷ es) v h = by (has_id v e.parents) refl h (parent_of es v)
          where
            wider : IsParent es v → IsParent (e ∷ es) v
            wider (d, c, p) = (d, member_contains (e ∷ es) d (inr (contains_member es d c)), p)

            by : (b : Bool) → has_id v e.parents ≡ b → not (b || is_parent es v) ≡ false → (not (is_parent es v) ≡ false → IsParent es v) → IsParent (e ∷ es) v
            by true t h ih = (e, member_contains (e ∷ es) e (inl refl), member_contains e.parents v (id_member v e.parents t))
            by false t h ih = wider (ih h)

-- all of a legal history is in the ancestry of its frontier
pub frontier_whole : (us : List UpdateView) → IsLegalLog us → ancestors_in (versions_in us) (frontier_of (graph_of us)) ≡ versions_in us
frontier_whole us legal = ancestry_whole us legal (frontier_of (graph_of us)) (frontier_names us)

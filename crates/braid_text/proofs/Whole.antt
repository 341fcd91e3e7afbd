-- The document of a legal history is a tree.
use Rattle.std.proofs.Common.{◌≡◌, ℕ, ◌<◌, ◌≤◌, ◌+◌, max, List, [], ◌∷◌, ◌++◌, Bool, true, false, ◌&&◌, not, cond, refl, sym, ap, subst, ◌∙◌, inl, inr, ◌⊎◌, arith, Less, map, unwrap_or}
use Rattle.std.specs.List.{AllByRecursion}
use Rattle.std.proofs.lemmas.Bool.{cases_lt}
use Rattle.braid_tree.specs.Keys.{Key, key_cmp, key_in}
use Rattle.braid_tree.specs.Nodes.{Node, path_of, with_nodes}
use Rattle.braid_change.specs.declared.patch.Patch.{Patch}
use Rattle.braid_change.specs.Splices.{ranges}
use Rattle.braid_change.specs.Updates.{UpdateView}
use Rattle.braid_text.specs.Versions.{Version, has_version, deletes, ancestors_in, greatest_level, document_in, sees, seen_in, version_in, versions_in}
use Rattle.braid_graph.specs.Entries.{has_id}
use Rattle.braid_rebase.specs.Additions.{char_of, nodes_at, AreUnder}
use Rattle.braid_text.specs.Histories.{Follows, IsLegalLog}
use Rattle.braid_tree.specs.Trees.{Member, RisesToKey, IsWithout, IsTree, AreNewKeys}
use Rattle.braid_tree.proofs.Member.{all_member, all_from_members, member_append_cases}
use Rattle.braid_tree.proofs.Order.{asym}
use Rattle.braid_tree.proofs.Keys.{keys_strict, lower_level}
use Rattle.braid_text.proofs.Held.{id_member, member_id, version_member, member_version, AllHeld, has_version_more, new_in, parents_in}
use Rattle.braid_rebase.proofs.Added.{member_with_nodes, nodes_member, tree_with_nodes_at}
use Rattle.braid_rebase.proofs.Filtered.{member_filter}

-- versions with different identifiers, each behind its children and one level above its highest parent
abbrev pub IsOrdered : List Version → Type 0
IsOrdered [] = Unit {0}
IsOrdered (v ∷ vs) = (has_version v.id vs ≡ false) × AllHeld vs v.parents × (v.level ≡ 1 + greatest_level vs v.parents) × IsOrdered vs

pub record IsWhole (vs : List Version) : Type 0 where
  pub ordered : IsOrdered vs
  pub tree : IsTree key_cmp (document_in vs)
  pub known : AllByRecursion (λ (y : Node Key). AllByRecursion (λ (b : Key). has_version b.id vs ≡ true) (path_of y)) (document_in vs)
  pub own : (v : Version) → Member v vs → (z : Node Key) → Member z v.nodes → (z.key.id ≡ v.id) × (z.key.level ≡ v.level)
  pub placed : (z : Node Key) → Member z (document_in vs) → (v : Version) × Member v vs × Member z v.nodes

pub one_version : (vs : List Version) → IsOrdered vs → (v w : Version) → Member v vs → Member w vs → v.id ≡ w.id → v ≡ w
one_version [] o v w m n e = absurd m
one_version (x ∷ vs) o v w (inl a) (inl b) e = sym a ∙ b
one_version (x ∷ vs) o v w (inl a) (inr n) e = absurd (let t : has_version x.id vs ≡ true = subst (λ (i : List ℕ). has_version i vs ≡ true) (sym e ∙ sym (ap (λ (t : Version). t.id) a)) (member_version w vs n) in let f = o.0 in cc)
one_version (x ∷ vs) o v w (inr m) (inl b) e = absurd (let t : has_version x.id vs ≡ true = subst (λ (i : List ℕ). has_version i vs ≡ true) (e ∙ sym (ap (λ (t : Version). t.id) b)) (member_version v vs m) in let f = o.0 in cc)
one_version (x ∷ vs) o v w (inr m) (inr n) e = one_version vs o.3 v w m n e

-- ancestry
pub ancestry_member : (w : Version) (vs : List Version) (F : List (List ℕ)) → Member w (ancestors_in vs F) → Member w vs
ancestry_member w [] F m = absurd m
ancestry_member w (v ∷ vs) F m = go (has_id v.id F) m (λ G. ancestry_member w vs G)
  where
    go : (b : Bool) → Member w (cond b (v ∷ ancestors_in vs (v.parents ++ F)) (ancestors_in vs F)) → ((G : List (List ℕ)) → Member w (ancestors_in vs G) → Member w vs) → Member w (v ∷ vs)
    go true (inl e) ih = inl e
    go true (inr m) ih = inr (ih (v.parents ++ F) m)
    go false m ih = inr (ih F m)

pub has_id-append : (v : List ℕ) (F G : List (List ℕ)) → has_id v (F ++ G) ≡ true → (has_id v F ≡ true) ⊎ (has_id v G ≡ true)
has_id-append v F G h = elim (member_append_cases v F G (id_member v (F ++ G) h)) [ inl a ↦ inl (member_id v F a) | inr b ↦ inr (member_id v G b) ]

-- the level of a named version is at most the greatest
pub greatest_at : (vs : List Version) (F : List (List ℕ)) (w : Version) → Member w vs → has_id w.id F ≡ true → w.level ≤ greatest_level vs F
greatest_at [] F w m h = absurd m
greatest_at (v ∷ vs) F w m h = go (has_id v.id F) refl m (λ n. greatest_at vs F w n h)
  where
    go : (b : Bool) → has_id v.id F ≡ b → Member w (v ∷ vs) → (Member w vs → w.level ≤ greatest_level vs F) → w.level ≤ cond b (max v.level (greatest_level vs F)) (greatest_level vs F)
    go true e (inl f) ih = let g : v.level ≡ w.level = ap (λ (t : Version). t.level) f in omega arith
    go true e (inr n) ih = let g : w.level ≤ greatest_level vs F = ih n in omega arith
    go false e (inl f) ih = absurd (let g : has_id v.id F ≡ true = subst (λ (t : Version). has_id t.id F ≡ true) (sym f) h in cc)
    go false e (inr n) ih = ih n

-- and the greatest is at most what bounds them all
pub greatest_least : (vs : List Version) (F : List (List ℕ)) (n : ℕ) → ((w : Version) → Member w vs → has_id w.id F ≡ true → w.level ≤ n) → greatest_level vs F ≤ n
greatest_least [] F n h = omega arith
greatest_least (v ∷ vs) F n h = go (has_id v.id F) refl (greatest_least vs F n (λ w m e. h w (inr m) e))
  where
    go : (b : Bool) → has_id v.id F ≡ b → greatest_level vs F ≤ n → cond b (max v.level (greatest_level vs F)) (greatest_level vs F) ≤ n
    go true e ih = let g : v.level ≤ n = h v (inl refl) e in omega arith
    go false e ih = ih

-- no version of an ancestry is above the frontier's greatest level
pub ancestry_level : (vs : List Version) (F : List (List ℕ)) → IsOrdered vs → (w : Version) → Member w (ancestors_in vs F) → w.level ≤ greatest_level vs F
ancestry_level [] F o w m = absurd m
ancestry_level (v ∷ vs) F o w m = go (has_id v.id F) m (ancestry_level vs (v.parents ++ F) o.3 w) (ancestry_level vs F o.3 w)
  where
    both : greatest_level vs (v.parents ++ F) ≤ max (greatest_level vs v.parents) (greatest_level vs F)
    both = greatest_least vs (v.parents ++ F) (max (greatest_level vs v.parents) (greatest_level vs F)) (λ x n e. elim (has_id-append x.id v.parents F e) [
      | inl a ↦ let g : x.level ≤ greatest_level vs v.parents = greatest_at vs v.parents x n a in omega arith
      | inr b ↦ let g : x.level ≤ greatest_level vs F = greatest_at vs F x n b in omega arith
    ])

    go : (b : Bool) → Member w (cond b (v ∷ ancestors_in vs (v.parents ++ F)) (ancestors_in vs F)) → (Member w (ancestors_in vs (v.parents ++ F)) → w.level ≤ greatest_level vs (v.parents ++ F)) → (Member w (ancestors_in vs F) → w.level ≤ greatest_level vs F)
        → w.level ≤ cond b (max v.level (greatest_level vs F)) (greatest_level vs F)
    go true (inl e) f g = let h : v.level ≡ w.level = ap (λ (t : Version). t.level) e in omega arith
    go true (inr n) f g = let h : w.level ≤ greatest_level vs (v.parents ++ F) = f n in let l : v.level ≡ 1 + greatest_level vs v.parents = o.2 in omega (arith, both)
    go false n f g = g n

pub and_cases : (a b : Bool) → (a && b) ≡ true → (a ≡ true) × (b ≡ true)
and_cases true b h = (refl, h)
and_cases false b h = cc

pub not_true : (b : Bool) → not b ≡ true → b ≡ false
not_true true h = cc
not_true false h = refl

-- a node that is seen is one of a version in the ancestry, and no version of it deletes the node
pub seen_member : (vs : List Version) → IsWhole vs → (F : List (List ℕ)) (z : Node Key) → Member z (seen_in vs F) → Member z (document_in vs) × ((v : Version) × Member v (ancestors_in vs F) × Member z v.nodes) × (deletes z.key (ancestors_in vs F) ≡ false)
seen_member vs whole F z m = go (member_filter (sees (ancestors_in vs F)) z (document_in vs) m)
  where
    A : List Version
    A = ancestors_in vs F

    go : Member z (document_in vs) × (sees A z ≡ true) → Member z (document_in vs) × ((v : Version) × Member v A × Member z v.nodes) × (deletes z.key A ≡ false)
    go (d, s) = let p = and_cases (has_version z.key.id A) (not (deletes z.key A)) s in (d, same (version_member z.key.id A p.0) (whole.placed z d), not_true (deletes z.key A) p.1)
      where
        same : (v : Version) × Member v A × (v.id ≡ z.key.id) → (w : Version) × Member w vs × Member z w.nodes → (v : Version) × Member v A × Member z v.nodes
        same (v, n, e) (w, k, t) = (v, n, subst (λ (x : Version). Member z x.nodes) (one_version vs whole.ordered w v k (ancestry_member v vs F n) (sym (whole.own w k z t).0 ∙ sym e)) t)

level_le : (a b : Key) → key_cmp a b ≡ Less → a.level ≤ b.level
level_le a b h = elim (cases_lt b.level a.level) [
  | inl l ↦ absurd (asym key_cmp keys_strict a b h (lower_level b a l))
  | inr l ↦ l
]

-- what is seen at the parents is below the new version's level
pub seen_under : (vs : List Version) → IsWhole vs → (F : List (List ℕ)) → AreUnder (1 + greatest_level vs F) (seen_in vs F)
seen_under vs whole F = all_from_members (λ (y : Node Key). AllByRecursion (λ (b : Key). b.level < 1 + greatest_level vs F) (path_of y)) (seen_in vs F) (λ z m. go z (seen_member vs whole F z m))
  where
    go : (z : Node Key) → Member z (document_in vs) × ((v : Version) × Member v (ancestors_in vs F) × Member z v.nodes) × (deletes z.key (ancestors_in vs F) ≡ false) → AllByRecursion (λ (b : Key). b.level < 1 + greatest_level vs F) (path_of z)
    go z (d, (v, n, t), x) = climb z.above (all_member (RisesToKey key_cmp) z (document_in vs) whole.tree.rising d)
      where
        here : z.key.level ≤ greatest_level vs F
        here = let e : z.key.level ≡ v.level = (whole.own v (ancestry_member v vs F n) z t).1 in let l : v.level ≤ greatest_level vs F = ancestry_level vs F whole.ordered v n in omega arith

        climb : (p : List Key) → AllByRecursion (λ (b : Key). key_cmp b z.key ≡ Less) p → AllByRecursion (λ (b : Key). b.level < 1 + greatest_level vs F) (p ++ z.key ∷ [])
        climb [] all = (omega (arith, here), tt)
        climb (b ∷ p) all = (let l : b.level ≤ z.key.level = level_le b z.key all.0 in omega (arith, here), climb p all.1)

-- one more update keeps a whole document whole
pub whole_next : (us : List UpdateView) (u : UpdateView) → Follows us u → IsWhole (versions_in us) → IsWhole (versions_in (u ∷ us))
whole_next us u follows whole = record {
  ordered = (new_in us u follows, parents_in us u follows, refl, whole.ordered);
  tree = tree_with_nodes_at level u.id S rs 0 (document_in vs) whole.tree new sub (seen_under vs whole u.parents);
  known = all_from_members (λ (y : Node Key). AllByRecursion IsKnown (path_of y)) (with_nodes key_cmp nodes (document_in vs)) (λ y m. elim (member_with_nodes y nodes (document_in vs) m) [
    | inl a ↦ (facts y a).2
    | inr b ↦ old y b
  ]);
  own = own;
  placed = λ z m. elim (member_with_nodes z nodes (document_in vs) m) [
    | inl a ↦ (next, inl refl, a)
    | inr b ↦ later z (whole.placed z b)
  ];
}
  where
    vs : List Version
    vs = versions_in us

    next : Version
    next = version_in u vs

    level : ℕ
    level = 1 + greatest_level vs u.parents

    S : List (Node Key)
    S = seen_in vs u.parents

    rs : List Patch
    rs = unwrap_or (ranges (map char_of S) u.change) []

    nodes : List (Node Key)
    nodes = nodes_at (key_in level u.id) S 0 rs

    IsKnown : Key → Type 0
    IsKnown b = has_version b.id (next ∷ vs) ≡ true

    sub : (z : Node Key) → Member z S → Member z (document_in vs)
    sub z m = (seen_member vs whole u.parents z m).0

    differs : (b : Key) → has_version b.id vs ≡ true → (m : ℕ) → b ≡ key_in level u.id m → ⊥
    differs b h m e = let t : has_version u.id vs ≡ true = subst (λ (i : List ℕ). has_version i vs ≡ true) (ap (λ (k : Key). k.id) e) h in let f = new_in us u follows in cc

    new : AreNewKeys (key_in level u.id) 0 (document_in vs)
    new m le = all_from_members (IsWithout (key_in level u.id m)) (document_in vs) (λ y n. parts y y.above (all_member (λ (y : Node Key). AllByRecursion (λ (b : Key). has_version b.id vs ≡ true) (path_of y)) y (document_in vs) whole.known n))
      where
        parts : (y : Node Key) (p : List Key) → AllByRecursion (λ (b : Key). has_version b.id vs ≡ true) (p ++ y.key ∷ []) → AllByRecursion (λ (b : Key). (b ≡ key_in level u.id m) → ⊥) p × ((y.key ≡ key_in level u.id m) → ⊥)
        parts y [] all = (tt, differs y.key all.0 m)
        parts y (b ∷ p) all = ((differs b all.0 m, (parts y p all.1).0), (parts y p all.1).1)

    old : (y : Node Key) → Member y (document_in vs) → AllByRecursion IsKnown (path_of y)
    old y m = all_from_members IsKnown (path_of y) (λ b n. has_version_more b.id next vs (all_member (λ (b : Key). has_version b.id vs ≡ true) b (path_of y) (all_member (λ (y : Node Key). AllByRecursion (λ (b : Key). has_version b.id vs ≡ true) (path_of y)) y (document_in vs) whole.known m) n))

    facts : (z : Node Key) → Member z nodes → (z.key.id ≡ u.id) × (z.key.level ≡ level) × AllByRecursion IsKnown (path_of z)
    facts z m = nodes_member level u.id S rs 0 IsKnown (all_from_members (λ (y : Node Key). AllByRecursion IsKnown (path_of y)) S (λ y n. old y (sub y n))) (λ k. member_version next (next ∷ vs) (inl refl)) z m

    own : (v : Version) → Member v (next ∷ vs) → (z : Node Key) → Member z v.nodes → (z.key.id ≡ v.id) × (z.key.level ≡ v.level)
    own v (inl e) z m = subst (λ (t : Version). (z.key.id ≡ t.id) × (z.key.level ≡ t.level)) e (let f = facts z (subst (λ (t : Version). Member z t.nodes) (sym e) m) in (f.0, f.1))
    own v (inr n) z m = whole.own v n z m

    later : (z : Node Key) → (v : Version) × Member v vs × Member z v.nodes → (v : Version) × Member v (next ∷ vs) × Member z v.nodes
    later z (v, n, t) = (v, inr n, t)

whole_none : IsWhole []
whole_none = record {
  ordered = tt;
  tree = record { reading = tt; rising = tt; distinct = tt; closed = λ a b r (y, m, p). absurd m };
  known = tt;
  own = λ v m z n. absurd m;
  placed = λ z m. absurd m;
}

-- the document of a legal history is a tree
pub whole_legal : (us : List UpdateView) → IsLegalLog us → IsWhole (versions_in us)
whole_legal [] legal = whole_none
whole_legal (u ∷ us) legal = whole_next us u legal.0 (whole_legal us legal.1)

-- Histories that do not differ under one identifier say the same of the versions that both have.
use Rattle.std.proofs.Common.{◌≡◌, ℕ, ◌≤◌, ◌+◌, List, [], ◌∷◌, ◌++◌, Bool, true, false, ◌&&◌, not, cond, refl, sym, ap, subst, ◌∙◌, inl, inr, arith, map, filter, unwrap_or}
use Rattle.braid_tree.specs.Keys.{Key, key_cmp, key_in}
use Rattle.braid_tree.specs.Nodes.{Node, Before, IsReading}
use Rattle.braid_change.specs.Splices.{ranges}
use Rattle.braid_change.specs.Updates.{UpdateView}
use Rattle.braid_text.specs.Versions.{Version, has_version, deletes, ancestors_in, greatest_level, document_in, sees, seen_in, version_in, versions_in}
use Rattle.braid_graph.specs.Entries.{has_id}
use Rattle.braid_rebase.specs.Additions.{has_key, char_of, nodes_at, deleted_at}
use Rattle.braid_text.specs.Histories.{Follows, IsLegalLog}
use Rattle.braid_tree.specs.Trees.{Member}
use Rattle.braid_tree.proofs.Member.{all_member, all_from_members, member_append_cases}
use Rattle.braid_tree.proofs.Kept.{same_reading}
use Rattle.braid_tree.proofs.Keys.{keys_strict}
use Rattle.braid_text.proofs.Held.{id_member, member_id, version_member, member_version, deletes_member, member_deletes, AllHeld, parents_in}
use Rattle.braid_text.proofs.Whole.{IsWhole, IsOrdered, one_version, ancestry_member, greatest_at, greatest_least, seen_member, whole_legal, has_id-append}
use Rattle.braid_rebase.proofs.Filtered.{member_filter, filter_member}
use Rattle.braid_rebase.proofs.Added.{old_with_nodes, new_with_nodes}

-- a version of the first list whose identifier the second has is in the second
abbrev pub Agree : List Version → List Version → Type 0
Agree vs cs = (v : Version) → Member v vs → has_version v.id cs ≡ true → Member v cs

pub agree_back : (vs cs : List Version) → IsOrdered cs → Agree vs cs → Agree cs vs
agree_back vs cs o agree c m h = go (version_member c.id vs h)
  where
    go : (v : Version) × Member v vs × (v.id ≡ c.id) → Member c vs
    go (v, n, e) = subst (λ (t : Version). Member t vs) (one_version cs o v c (agree v n (subst (λ (i : List ℕ). has_version i cs ≡ true) (sym e) (member_version c cs m))) m e) n

-- a version of the frontier is in its ancestry
pub base_in : (cs : List Version) (F : List (List ℕ)) (x : Version) → Member x cs → has_id x.id F ≡ true → Member x (ancestors_in cs F)
base_in [] F x m h = absurd m
base_in (c ∷ cs) F x m h = go (has_id c.id F) refl m (λ G n. base_in cs G x n)
  where
    go : (b : Bool) → has_id c.id F ≡ b → Member x (c ∷ cs) → ((G : List (List ℕ)) → Member x cs → has_id x.id G ≡ true → Member x (ancestors_in cs G)) → Member x (cond b (c ∷ ancestors_in cs (c.parents ++ F)) (ancestors_in cs F))
    go true e (inl f) ih = inl f
    go true e (inr n) ih = inr (ih (c.parents ++ F) n (member_id x.id (c.parents ++ F) (right c.parents (id_member x.id F h))))
      where
        right : (G : List (List ℕ)) → Member x.id F → Member x.id (G ++ F)
        right [] m = m
        right (g ∷ G) m = inr (right G m)
    go false e (inl f) ih = absurd (let g : has_id c.id F ≡ true = subst (λ (t : Version). has_id t.id F ≡ true) (sym f) h in cc)
    go false e (inr n) ih = ih F n h

pub held_parents : (cs : List Version) → IsOrdered cs → (v : Version) → Member v cs → AllHeld cs v.parents
held_parents [] o v m i n = absurd m
held_parents (c ∷ cs) o v (inl e) i n = more (version_member i cs (o.1 i (subst (λ (t : Version). Member i t.parents) (sym e) n)))
  where
    more : (w : Version) × Member w cs × (w.id ≡ i) → has_version i (c ∷ cs) ≡ true
    more (w, k, f) = subst (λ (t : List ℕ). has_version t (c ∷ cs) ≡ true) f (member_version w (c ∷ cs) (inr k))
held_parents (c ∷ cs) o v (inr m) i n = more (version_member i cs (held_parents cs o.3 v m i n))
  where
    more : (w : Version) × Member w cs × (w.id ≡ i) → has_version i (c ∷ cs) ≡ true
    more (w, k, f) = subst (λ (t : List ℕ). has_version t (c ∷ cs) ≡ true) f (member_version w (c ∷ cs) (inr k))

-- no version is its own parent, nor one of an older version
not_first : (c : Version) (cs : List Version) → IsOrdered (c ∷ cs) → (v : Version) → Member v (c ∷ cs) → has_id c.id v.parents ≡ true → ⊥
not_first c cs o v (inl e) h = let t : has_version c.id cs ≡ true = o.1 c.id (id_member c.id c.parents (subst (λ (t : Version). has_id c.id t.parents ≡ true) (sym e) h)) in let f = o.0 in cc
not_first c cs o v (inr m) h = let t : has_version c.id cs ≡ true = held_parents cs o.3 v m c.id (id_member c.id v.parents h) in let f = o.0 in cc

-- an ancestry has its members' parents
pub parent_in : (cs : List Version) (F : List (List ℕ)) → IsOrdered cs → (v x : Version) → Member v (ancestors_in cs F) → Member x cs → has_id x.id v.parents ≡ true → Member x (ancestors_in cs F)
parent_in [] F o v x m n h = absurd n
parent_in (c ∷ cs) F o v x m (inl e) h = absurd (not_first c cs o v (ancestry_member v (c ∷ cs) F m) (subst (λ (t : Version). has_id t.id v.parents ≡ true) (sym e) h))
parent_in (c ∷ cs) F o v x m (inr n) h = go (has_id c.id F) m (λ G k. parent_in cs G o.3 v x k n h)
  where
    left : (G : List (List ℕ)) → Member x.id G → Member x.id (G ++ F)
    left [] m = absurd m
    left (g ∷ G) (inl e) = inl e
    left (g ∷ G) (inr m) = inr (left G m)

    go : (b : Bool) → Member v (cond b (c ∷ ancestors_in cs (c.parents ++ F)) (ancestors_in cs F)) → ((G : List (List ℕ)) → Member v (ancestors_in cs G) → Member x (ancestors_in cs G)) → Member x (cond b (c ∷ ancestors_in cs (c.parents ++ F)) (ancestors_in cs F))
    go true (inl e) ih = inr (base_in cs (c.parents ++ F) x n (member_id x.id (c.parents ++ F) (left c.parents (id_member x.id c.parents (subst (λ (t : Version). has_id x.id t.parents ≡ true) (sym e) h)))))
    go true (inr k) ih = inr (ih (c.parents ++ F) k)
    go false k ih = ih F k

-- what one list has in a frontier's ancestry, the other has too
ancestry_part : (cs : List Version) → IsOrdered cs → (F0 : List (List ℕ)) (vs : List Version) (F : List (List ℕ)) → Agree vs cs → AllHeld cs F → ((x : Version) → Member x cs → has_id x.id F ≡ true → Member x (ancestors_in cs F0)) → (w : Version) → Member w (ancestors_in vs F) → Member w (ancestors_in cs F0)
ancestry_part cs o F0 [] F agree held base w m = absurd m
ancestry_part cs o F0 (v ∷ vs) F agree held base w m = go (has_id v.id F) refl m (λ G. ancestry_part cs o F0 vs G (λ x n. agree x (inr n)))
  where
    go : (b : Bool) → has_id v.id F ≡ b → Member w (cond b (v ∷ ancestors_in vs (v.parents ++ F)) (ancestors_in vs F))
        → ((G : List (List ℕ)) → AllHeld cs G → ((x : Version) → Member x cs → has_id x.id G ≡ true → Member x (ancestors_in cs F0)) → (w : Version) → Member w (ancestors_in vs G) → Member w (ancestors_in cs F0)) → Member w (ancestors_in cs F0)
    go true e (inl f) ih = subst (λ (t : Version). Member t (ancestors_in cs F0)) f (base v (agree v (inl refl) (held v.id (id_member v.id F e))) e)
    go true e (inr n) ih = ih (v.parents ++ F) wider further w n
      where
        in_cs : Member v cs
        in_cs = agree v (inl refl) (held v.id (id_member v.id F e))

        wider : AllHeld cs (v.parents ++ F)
        wider i k = elim (member_append_cases i v.parents F k) [ inl a ↦ held_parents cs o v in_cs i a | inr b ↦ held i b ]

        further : (x : Version) → Member x cs → has_id x.id (v.parents ++ F) ≡ true → Member x (ancestors_in cs F0)
        further x k h = elim (has_id-append x.id v.parents F h) [ inl a ↦ parent_in cs F0 o v x (base v in_cs e) k a | inr b ↦ base x k b ]
    go false e n ih = ih F held base w n

ancestry_agrees : (vs cs : List Version) → IsOrdered cs → Agree vs cs → (F : List (List ℕ)) → AllHeld cs F → (w : Version) → Member w (ancestors_in vs F) → Member w (ancestors_in cs F)
ancestry_agrees vs cs o agree F held = ancestry_part cs o F vs F agree held (base_in cs F)

pub node_in : (vs : List Version) (v : Version) (z : Node Key) → Member v vs → Member z v.nodes → Member z (document_in vs)
node_in [] v z m n = absurd m
node_in (c ∷ vs) v z (inl e) n = new_with_nodes z c.nodes (document_in vs) (subst (λ (t : Version). Member z t.nodes) (sym e) n)
node_in (c ∷ vs) v z (inr m) n = old_with_nodes z c.nodes (document_in vs) (node_in vs v z m n)

pub and_true : (a b : Bool) → a ≡ true → b ≡ true → (a && b) ≡ true
and_true a b p q = rw (p, q)

seen_part : (vs cs : List Version) → IsWhole vs → IsWhole cs → Agree vs cs → (F : List (List ℕ)) → AllHeld vs F → AllHeld cs F → (z : Node Key) → Member z (seen_in vs F) → Member z (seen_in cs F)
seen_part vs cs wv wc agree F hv hc z m = go (seen_member vs wv F z m)
  where
    A : List Version
    A = ancestors_in cs F

    go : Member z (document_in vs) × ((v : Version) × Member v (ancestors_in vs F) × Member z v.nodes) × (deletes z.key (ancestors_in vs F) ≡ false) → Member z (seen_in cs F)
    go (d, (v, n, t), del) = filter_member (sees A) z (document_in cs) (node_in cs v z (ancestry_member v cs F there) t) (and_true (has_version z.key.id A) (not (deletes z.key A)) held kept)
      where
        there : Member v A
        there = ancestry_agrees vs cs wc.ordered agree F hc v n

        held : has_version z.key.id A ≡ true
        held = subst (λ (i : List ℕ). has_version i A ≡ true) (sym (wv.own v (ancestry_member v vs F n) z t).0) (member_version v A there)

        kept : not (deletes z.key A) ≡ true
        kept = by (deletes z.key A) refl
          where
            contra : (w : Version) × Member w A × (has_key z.key w.deleted ≡ true) → ⊥
            contra (w, k, h) = let g : deletes z.key (ancestors_in vs F) ≡ true = member_deletes z.key w (ancestors_in vs F) (ancestry_agrees cs vs wv.ordered (agree_back vs cs wc.ordered agree) F hv w k) h in cc

            by : (b : Bool) → deletes z.key A ≡ b → not b ≡ true
            by true e = absurd (contra (deletes_member z.key A e))
            by false e = refl

pub filter_reading : (p : Node Key → Bool) (d : List (Node Key)) → IsReading key_cmp d → IsReading key_cmp (filter p d)
filter_reading p [] r = tt
filter_reading p (x ∷ d) r = go (p x) (filter_reading p d r.1)
  where
    go : (b : Bool) → IsReading key_cmp (filter p d) → IsReading key_cmp (cond b (x ∷ filter p d) (filter p d))
    go true ih = (all_from_members (Before key_cmp x) (filter p d) (λ y m. all_member (Before key_cmp x) y d r.0 (member_filter p y d m).0), ih)
    go false ih = ih

pub seen_agrees : (vs cs : List Version) → IsWhole vs → IsWhole cs → Agree vs cs → (F : List (List ℕ)) → AllHeld vs F → AllHeld cs F → seen_in vs F ≡ seen_in cs F
seen_agrees vs cs wv wc agree F hv hc = same_reading key_cmp keys_strict (seen_in vs F) (seen_in cs F)
    (filter_reading (sees (ancestors_in vs F)) (document_in vs) wv.tree.reading) (filter_reading (sees (ancestors_in cs F)) (document_in cs) wc.tree.reading)
    (seen_part vs cs wv wc agree F hv hc) (seen_part cs vs wc wv (agree_back vs cs wc.ordered agree) F hc hv)

pub greatest_agrees : (vs cs : List Version) → Agree vs cs → (F : List (List ℕ)) → AllHeld cs F → greatest_level vs F ≤ greatest_level cs F
greatest_agrees vs cs agree F held = greatest_least vs F (greatest_level cs F) (λ w m h. greatest_at cs F w (agree w m (held w.id (id_member w.id F h))) h)

-- what an update adds, from what it sees and its level
made : UpdateView → List (Node Key) → ℕ → Version
made u S level = let rs = unwrap_or (ranges (map char_of S) u.change) [] in
    record { id = u.id; parents = u.parents; level = level; nodes = nodes_at (key_in level u.id) S 0 rs; deleted = deleted_at S rs }

pub version_agrees : (u : UpdateView) (vs cs : List Version) → seen_in vs u.parents ≡ seen_in cs u.parents → greatest_level vs u.parents ≡ greatest_level cs u.parents → version_in u vs ≡ version_in u cs
unfolding made
version_agrees u vs cs e g = ap (λ S. made u S (1 + greatest_level vs u.parents)) e ∙ ap (λ (n : ℕ). made u (seen_in cs u.parents) (1 + n)) g

-- where a version of a legal log comes from
pub record Source (i : List ℕ) (ks : List UpdateView) : Type 0 where
  pub update : UpdateView
  pub listed : Member update ks
  pub named : update.id ≡ i
  pub older : List UpdateView
  pub legal : IsLegalLog older
  pub follows : Follows older update
  pub versioned : Member (version_in update (versions_in older)) (versions_in ks)
  pub part : (t : UpdateView) → Member t older → Member t ks

pub source : (i : List ℕ) (ks : List UpdateView) → IsLegalLog ks → has_version i (versions_in ks) ≡ true → Source i ks
source i [] legal h = cc
source i (k ∷ ks) legal h = go (version_member i (versions_in (k ∷ ks)) h) (source i ks legal.1)
  where
    go : (v : Version) × Member v (versions_in (k ∷ ks)) × (v.id ≡ i) → (has_version i (versions_in ks) ≡ true → Source i ks) → Source i (k ∷ ks)
    go (v, inl e, f) ih = record { update = k; listed = inl refl; named = ap (λ (t : Version). t.id) e ∙ f; older = ks; legal = legal.1; follows = legal.0; versioned = inl refl; part = λ t m. inr m }
    go (v, inr m, f) ih = let s : Source i ks = ih (subst (λ (t : List ℕ). has_version t (versions_in ks) ≡ true) f (member_version v (versions_in ks) m)) in
        record { update = s.update; listed = inr s.listed; named = s.named; older = s.older; legal = s.legal; follows = s.follows; versioned = inr s.versioned; part = λ t n. inr (s.part t n) }

-- no two updates of the logs differ under one identifier
abbrev pub Compatible : List UpdateView → List UpdateView → Type 0
Compatible us ks = (u w : UpdateView) → Member u us → Member w ks → u.id ≡ w.id → u ≡ w

-- what two compatible legal logs say of a version that both have is the same
pub same_versions : (us : List UpdateView) → IsLegalLog us → (ks : List UpdateView) → IsLegalLog ks → Compatible us ks → Agree (versions_in us) (versions_in ks)
same_versions [] lu ks lk compatible v m h = absurd m
same_versions (u ∷ us) lu ks lk compatible v (inr m) h = same_versions us lu.1 ks lk (λ a b x y. compatible a b (inr x) y) v m h
same_versions (u ∷ us) lu ks lk compatible v (inl e) h = go (source u.id ks lk (subst (λ (t : Version). has_version t.id (versions_in ks) ≡ true) (sym e) h)) (λ os lo c. same_versions us lu.1 os lo c)
  where
    go : Source u.id ks → ((os : List UpdateView) → IsLegalLog os → Compatible us os → Agree (versions_in us) (versions_in os)) → Member v (versions_in ks)
    go s ih = subst (λ (t : Version). Member t (versions_in ks)) (sym same ∙ e) s.versioned
      where
        vs : List Version
        vs = versions_in us

        os : List Version
        os = versions_in s.older

        is : u ≡ s.update
        is = compatible u s.update (inl refl) s.listed (sym s.named)

        agree : Agree vs os
        agree = ih s.older s.legal (λ a b x y. compatible a b (inr x) (s.part b y))

        wu : IsWhole vs
        wu = whole_legal us lu.1

        wo : IsWhole os
        wo = whole_legal s.older s.legal

        hu : AllHeld vs u.parents
        hu = parents_in us u lu.0

        ho : AllHeld os u.parents
        ho = subst (λ (t : UpdateView). AllHeld os t.parents) (sym is) (parents_in s.older s.update s.follows)

        same : version_in u vs ≡ version_in s.update os
        same = version_agrees u vs os (seen_agrees vs os wu wo agree u.parents hu ho)
            (let a : greatest_level vs u.parents ≤ greatest_level os u.parents = greatest_agrees vs os agree u.parents ho in let b : greatest_level os u.parents ≤ greatest_level vs u.parents = greatest_agrees os vs (agree_back vs os wo.ordered agree) u.parents hu in omega arith)
            ∙ ap (λ (t : UpdateView). version_in t os) is

-- compatible legal logs read the same at every frontier within both
pub same_read : (us ks : List UpdateView) → IsLegalLog us → IsLegalLog ks → Compatible us ks → (F : List (List ℕ)) → AllHeld (versions_in us) F → AllHeld (versions_in ks) F → seen_in (versions_in us) F ≡ seen_in (versions_in ks) F
same_read us ks lu lk compatible F hu hk = seen_agrees (versions_in us) (versions_in ks) (whole_legal us lu) (whole_legal ks lk) (same_versions us lu ks lk compatible) F hu hk

-- What a version sees of its own: what its parents see with what the version adds.
use Rattle.std.proofs.Common.{Less, ◌≡◌, ℕ, ◌<◌, ◌+◌, List, [], ◌∷◌, ◌++◌, Bool, true, false, ◌||◌, not, cond, refl, sym, ap, subst, ◌∙◌, inl, inr, map, filter, length, append_assoc, unwrap_or}
use Rattle.std.specs.List.{AllByRecursion}
use Rattle.braid_tree.specs.Keys.{Key, key_cmp, key_in}
use Rattle.braid_tree.specs.Nodes.{Node, path_of, IsReading, with_nodes, run}
use Rattle.braid_change.specs.declared.patch.Patch.{Patch}
use Rattle.braid_change.specs.Splices.{ranges}
use Rattle.braid_change.specs.Updates.{UpdateView}
use Rattle.braid_text.specs.Versions.{Version, has_version, deletes, ancestors_in, greatest_level, document_in, sees, seen_in, version_in, versions_in, text_in}
use Rattle.braid_graph.specs.Entries.{has_id}
use Rattle.braid_rebase.specs.Additions.{has_key, char_of, origin_at, nodes_at, AreUnder}
use Rattle.braid_text.specs.Histories.{Follows, IsLegalLog}
use Rattle.braid_tree.specs.Trees.{Member, IsWithout, AreDistinct, AreNewKeys}
use Rattle.braid_tree.proofs.Member.{all_member, all_from_members, member_append_cases}
use Rattle.braid_tree.proofs.Kept.{same_reading}
use Rattle.braid_tree.proofs.Keys.{keys_strict}
use Rattle.braid_text.proofs.Held.{id_member, member_id, version_member, member_version, deletes_member, new_in, has_version_more}
use Rattle.braid_rebase.proofs.KeyTests.{key_member}
use Rattle.braid_text.proofs.Whole.{IsWhole, whole_legal, whole_next, seen_member, seen_under, and_cases, not_true, ancestry_member}
use Rattle.braid_rebase.proofs.Added.{member_with_nodes, old_with_nodes, new_with_nodes, with_nodes-append, new_with_run, origin_below}
use Rattle.braid_rebase.proofs.Filtered.{member_filter, filter_member}
use Rattle.braid_rebase.proofs.Weave.{reading_with_run, under_without}
use Rattle.braid_text.proofs.Same.{filter_reading, and_true}
use Rattle.braid_rebase.proofs.Spliced.{deleted_in}

-- a new identifier in the frontier changes no ancestry
has_id_extra : (v i : List ℕ) (F : List (List ℕ)) → ((v ≡ i) → ⊥) → has_id v (F ++ i ∷ []) ≡ has_id v F
has_id_extra v i F ne = go (has_id v (F ++ i ∷ [])) (has_id v F) refl refl
  where
    go : (b c : Bool) → has_id v (F ++ i ∷ []) ≡ b → has_id v F ≡ c → b ≡ c
    go true true e f = refl
    go false false e f = refl
    go true false e f = absurd (elim (member_append_cases v F (i ∷ []) (id_member v (F ++ i ∷ []) e)) [
      | inl a ↦ (let t : has_id v F ≡ true = member_id v F a in cc)
      | inr (inl g) ↦ ne (sym g)
      | inr (inr n) ↦ n
    ])
    go false true e f = absurd (let t : has_id v (F ++ i ∷ []) ≡ true = member_id v (F ++ i ∷ []) (wider F (id_member v F f)) in cc)
      where
        wider : (G : List (List ℕ)) → Member v G → Member v (G ++ i ∷ [])
        wider [] m = absurd m
        wider (g ∷ G) (inl x) = inl x
        wider (g ∷ G) (inr m) = inr (wider G m)

not_here : (v : Version) (vs : List Version) (i : List ℕ) → has_version i (v ∷ vs) ≡ false → (v.id ≡ i) → ⊥
not_here v vs i h e = let t : has_version i (v ∷ vs) ≡ true = subst (λ (j : List ℕ). has_version j (v ∷ vs) ≡ true) e (member_version v (v ∷ vs) (inl refl)) in cc

not_older : (v : Version) (vs : List Version) (i : List ℕ) → has_version i (v ∷ vs) ≡ false → has_version i vs ≡ false
not_older v vs i h = go (has_version i vs) refl
  where
    go : (b : Bool) → has_version i vs ≡ b → b ≡ false
    go true e = let t : has_version i (v ∷ vs) ≡ true = has_version_more i v vs e in cc
    go false e = refl

ancestry_extra : (vs : List Version) (i : List ℕ) (F : List (List ℕ)) → has_version i vs ≡ false → ancestors_in vs (F ++ i ∷ []) ≡ ancestors_in vs F
ancestry_extra [] i F h = refl
ancestry_extra (v ∷ vs) i F h =
    ap (λ (b : Bool). cond b (v ∷ ancestors_in vs (v.parents ++ (F ++ i ∷ []))) (ancestors_in vs (F ++ i ∷ []))) (has_id_extra v.id i F (not_here v vs i h))
    ∙ ap (λ t. cond (has_id v.id F) (v ∷ t) (ancestors_in vs (F ++ i ∷ []))) (ap (ancestors_in vs) (sym (append_assoc v.parents F (i ∷ []))) ∙ ancestry_extra vs i (v.parents ++ F) (not_older v vs i h))
    ∙ ap (λ t. cond (has_id v.id F) (v ∷ ancestors_in vs (v.parents ++ F)) t) (ancestry_extra vs i F (not_older v vs i h))

-- a version's own ancestry is itself and that of its parents
own_ancestry : (v : Version) (vs : List Version) → has_version v.id vs ≡ false → ancestors_in (v ∷ vs) (v.id ∷ []) ≡ v ∷ ancestors_in vs v.parents
own_ancestry v vs h = ap (λ (b : Bool). cond b (v ∷ ancestors_in vs (v.parents ++ v.id ∷ [])) (ancestors_in vs (v.id ∷ []))) (member_id v.id (v.id ∷ []) (inl refl)) ∙ ap (λ t. v ∷ t) (ancestry_extra vs v.id v.parents h)

-- a node of the document has a known identifier
pub known_node : (vs : List Version) → IsWhole vs → (z : Node Key) → Member z (document_in vs) → has_version z.key.id vs ≡ true
known_node vs whole z m = go (whole.placed z m)
  where
    go : (v : Version) × Member v vs × Member z v.nodes → has_version z.key.id vs ≡ true
    go (v, n, t) = subst (λ (i : List ℕ). has_version i vs ≡ true) (sym (whole.own v n z t).0) (member_version v vs n)

-- the keys that a legal log deletes are known
deleted_known : (us : List UpdateView) → IsLegalLog us → (w : Version) → Member w (versions_in us) → (k : Key) → Member k w.deleted → has_version k.id (versions_in us) ≡ true
deleted_known [] legal w m k n = absurd m
deleted_known (u ∷ us) legal w (inr m) k n = has_version_more k.id (version_in u (versions_in us)) (versions_in us) (deleted_known us legal.1 w m k n)
deleted_known (u ∷ us) legal w (inl e) k n = has_version_more k.id (version_in u (versions_in us)) (versions_in us) (go (deleted_in rs S k (subst (λ (t : Version). Member k t.deleted) (sym e) n)))
  where
    S : List (Node Key)
    S = seen_in (versions_in us) u.parents

    rs : List Patch
    rs = unwrap_or (ranges (map char_of S) u.change) []

    go : (y : Node Key) × Member y S × (y.key ≡ k) → has_version k.id (versions_in us) ≡ true
    go (y, m, f) = subst (λ (j : Key). has_version j.id (versions_in us) ≡ true) f (known_node (versions_in us) (whole_legal us legal.1) y (seen_member (versions_in us) (whole_legal us legal.1) u.parents y m).0)

false_or : (a b : Bool) → (a || b) ≡ false → (a ≡ false) × (b ≡ false)
false_or true b h = cc
false_or false b h = (refl, h)

or_false : (a b : Bool) → a ≡ false → b ≡ false → (a || b) ≡ false
or_false a b p q = rw (p, q)

reading_with_nodes : (level : ℕ) (id : List ℕ) (S : List (Node Key)) (rs : List Patch) (n : ℕ) (d : List (Node Key)) → IsReading key_cmp d → AreNewKeys (key_in level id) n d → AreUnder level S
    → IsReading key_cmp (with_nodes key_cmp (nodes_at (key_in level id) S n rs) d)
reading_with_nodes level id S [] n d text_in new under = text_in
reading_with_nodes level id S (r ∷ rs) n d text_in new under =
    subst (IsReading key_cmp) (sym (with_nodes-append first (nodes_at (key_in level id) S (n + length r.text) rs) d))
    (reading_with_nodes level id S rs (n + length r.text) (with_nodes key_cmp first d) (reading_with_run level id r.text (origin_at S r.start) n d text_in new up) (new_with_run level id r.text (origin_at S r.start) n d up new) under)
  where
    first : List (Node Key)
    first = run (key_in level id) (origin_at S r.start) n r.text

    up : AllByRecursion (λ (b : Key). key_cmp b (key_in level id n) ≡ Less) (origin_at S r.start)
    up = origin_below level id S r.start n under

-- what an update sees of its own, in a legal log that ends in it
module _ (us : List UpdateView) (u : UpdateView) (legal : IsLegalLog us) (follows : Follows us u) where
  abbrev vs : List Version
  vs = versions_in us

  abbrev v : Version
  v = version_in u (versions_in us)

  abbrev A : List Version
  A = ancestors_in (versions_in us) u.parents

  abbrev S : List (Node Key)
  S = seen_in (versions_in us) u.parents

  abbrev level : ℕ
  level = 1 + greatest_level (versions_in us) u.parents

  abbrev rs : List Patch
  rs = unwrap_or (ranges (map char_of (seen_in (versions_in us) u.parents)) u.change) []

  abbrev keep : Node Key → Bool
  keep z = not (has_key z.key (version_in u (versions_in us)).deleted)

  abbrev W : List (Node Key)
  W = with_nodes key_cmp (version_in u (versions_in us)).nodes (seen_in (versions_in us) u.parents)

  pub seen_own : seen_in (v ∷ vs) (u.id ∷ []) ≡ filter keep W
  seen_own = ap (λ B. filter (sees B) (document_in (v ∷ vs))) (own_ancestry v vs (new_in us u follows))
      ∙ same_reading key_cmp keys_strict (filter (sees (v ∷ A)) (document_in (v ∷ vs))) (filter keep W) (filter_reading (sees (v ∷ A)) (document_in (v ∷ vs)) next.tree.reading) (filter_reading keep W read_W) there back
    where
      whole : IsWhole vs
      whole = whole_legal us legal

      next : IsWhole (v ∷ vs)
      next = whole_next us u follows whole

      under : AreUnder level S
      under = seen_under vs whole u.parents

      fresh : (z : Node Key) → Member z (document_in vs) → (z.key.id ≡ u.id) → ⊥
      fresh z m e = let t : has_version u.id vs ≡ true = subst (λ (i : List ℕ). has_version i vs ≡ true) e (known_node vs whole z m) in let f = new_in us u follows in cc

      own : (z : Node Key) → Member z v.nodes → z.key.id ≡ u.id
      own z m = (next.own v (inl refl) z m).0

      new : AreNewKeys (key_in level u.id) 0 S
      new m le = all_from_members (IsWithout (key_in level u.id m)) S (λ y n. under_without level u.id m y (all_member (λ (y : Node Key). AllByRecursion (λ (b : Key). b.level < level) (path_of y)) y S under n))

      read_W : IsReading key_cmp W
      read_W = reading_with_nodes level u.id S rs 0 S (filter_reading (sees A) (document_in vs) whole.tree.reading) new under

      kept_own : (z : Node Key) → Member z v.nodes → keep z ≡ true
      kept_own z m = go (has_key z.key v.deleted) refl
        where
          no : (y : Node Key) × Member y S × (y.key ≡ z.key) → ⊥
          no (y, n, e) = fresh y (seen_member vs whole u.parents y n).0 (ap (λ (k : Key). k.id) e ∙ own z m)

          go : (b : Bool) → has_key z.key v.deleted ≡ b → not b ≡ true
          go true e = absurd (no (deleted_in rs S z.key (key_member z.key v.deleted e)))
          go false e = refl

      there : (z : Node Key) → Member z (filter (sees (v ∷ A)) (document_in (v ∷ vs))) → Member z (filter keep W)
      there z m = go (member_filter (sees (v ∷ A)) z (document_in (v ∷ vs)) m)
        where
          go : Member z (document_in (v ∷ vs)) × (sees (v ∷ A) z ≡ true) → Member z (filter keep W)
          go (d, s) = elim (member_with_nodes z v.nodes (document_in vs) d) [
            | inl a ↦ filter_member keep z W (new_with_nodes z v.nodes S a) (kept_own z a)
            | inr b ↦ filter_member keep z W (old_with_nodes z v.nodes S (filter_member (sees A) z (document_in vs) b (and_true (has_version z.key.id A) (not (deletes z.key A)) (held b) (ap not parts.1)))) (ap not parts.0)
          ]
            where
              both : (has_version z.key.id (v ∷ A) ≡ true) × (not (deletes z.key (v ∷ A)) ≡ true)
              both = and_cases (has_version z.key.id (v ∷ A)) (not (deletes z.key (v ∷ A))) s

              parts : (has_key z.key v.deleted ≡ false) × (deletes z.key A ≡ false)
              parts = false_or (has_key z.key v.deleted) (deletes z.key A) (not_true (deletes z.key (v ∷ A)) both.1)

              held : Member z (document_in vs) → has_version z.key.id A ≡ true
              held b = by (version_member z.key.id (v ∷ A) both.0)
                where
                  by : (w : Version) × Member w (v ∷ A) × (w.id ≡ z.key.id) → has_version z.key.id A ≡ true
                  by (w, inl e, f) = absurd (fresh z b (sym f ∙ ap (λ (t : Version). t.id) (sym e)))
                  by (w, inr n, f) = subst (λ (i : List ℕ). has_version i A ≡ true) f (member_version w A n)

      back : (z : Node Key) → Member z (filter keep W) → Member z (filter (sees (v ∷ A)) (document_in (v ∷ vs)))
      back z m = go (member_filter keep z W m)
        where
          go : Member z W × (keep z ≡ true) → Member z (filter (sees (v ∷ A)) (document_in (v ∷ vs)))
          go (w, k) = elim (member_with_nodes z v.nodes S w) [
            | inl a ↦ filter_member (sees (v ∷ A)) z (document_in (v ∷ vs)) (new_with_nodes z v.nodes (document_in vs) a) (and_true (has_version z.key.id (v ∷ A)) (not (deletes z.key (v ∷ A)))
                (subst (λ (i : List ℕ). has_version i (v ∷ A) ≡ true) (sym (own z a)) (member_version v (v ∷ A) (inl refl))) (ap not (or_false (has_key z.key v.deleted) (deletes z.key A) (not_true (has_key z.key v.deleted) k) (no_deletes a))))
            | inr b ↦ old (seen_member vs whole u.parents z b)
          ]
            where
              no_deletes : Member z v.nodes → deletes z.key A ≡ false
              no_deletes a = by (deletes z.key A) refl
                where
                  contra : (w : Version) × Member w A × (has_key z.key w.deleted ≡ true) → ⊥
                  contra (w, n, h) = let t : has_version u.id vs ≡ true = subst (λ (i : List ℕ). has_version i vs ≡ true) (own z a) (deleted_known us legal w (ancestry_member w vs u.parents n) z.key (key_member z.key w.deleted h)) in let f = new_in us u follows in cc

                  by : (b : Bool) → deletes z.key A ≡ b → b ≡ false
                  by true e = absurd (contra (deletes_member z.key A e))
                  by false e = refl

              old : Member z (document_in vs) × ((w : Version) × Member w A × Member z w.nodes) × (deletes z.key A ≡ false) → Member z (filter (sees (v ∷ A)) (document_in (v ∷ vs)))
              old (d, (w, n, t), del) = filter_member (sees (v ∷ A)) z (document_in (v ∷ vs)) (old_with_nodes z v.nodes (document_in vs) d) (and_true (has_version z.key.id (v ∷ A)) (not (deletes z.key (v ∷ A)))
                  (subst (λ (i : List ℕ). has_version i (v ∷ A) ≡ true) (sym (whole.own w (ancestry_member w vs u.parents n) z t).0) (member_version w (v ∷ A) (inr n)))
                  (ap not (or_false (has_key z.key v.deleted) (deletes z.key A) (not_true (has_key z.key v.deleted) k) del)))

  pub distinct_seen : AreDistinct S
  distinct_seen = distinct_filter (document_in (versions_in us)) (whole_legal us legal).tree.distinct
    where
      distinct_filter : (d : List (Node Key)) → AreDistinct d → AreDistinct (filter (sees (ancestors_in (versions_in us) u.parents)) d)
      distinct_filter [] h = tt
      distinct_filter (x ∷ d) h = go (sees (ancestors_in (versions_in us) u.parents) x) (distinct_filter d h.1)
        where
          go : (b : Bool) → AreDistinct (filter (sees (ancestors_in (versions_in us) u.parents)) d) → AreDistinct (cond b (x ∷ filter (sees (ancestors_in (versions_in us) u.parents)) d) (filter (sees (ancestors_in (versions_in us) u.parents)) d))
          go true ih = (all_from_members (λ (y : Node Key). (y.key ≡ x.key) → ⊥) (filter (sees (ancestors_in (versions_in us) u.parents)) d) (λ y m. all_member (λ (y : Node Key). (y.key ≡ x.key) → ⊥) y d h.0 (member_filter (sees (ancestors_in (versions_in us) u.parents)) y d m).0), ih)
          go false ih = ih

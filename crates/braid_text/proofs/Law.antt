-- The splice law: what is read at a version is the splice of what is read at its parents.
use Rattle.std.proofs.Common.{◌≡◌, ℕ, ◌+◌, List, [], ◌∷◌, true, refl, sym, ap, subst, ◌∙◌, inl, inr, Some}
use Rattle.braid_tree.specs.Keys.{Key, key_cmp}
use Rattle.braid_tree.specs.Nodes.{Node, IsReading}
use Rattle.braid_change.specs.Splices.{spliced}
use Rattle.braid_change.specs.Updates.{UpdateView}
use Rattle.braid_text.specs.Versions.{Version, has_version, ancestors_in, greatest_level, document_in, sees, seen_in, versions_in, text_in, version_in}
use Rattle.braid_rebase.specs.Additions.{AreUnder, chars_of, seen_after}
use Rattle.braid_text.specs.Histories.{Follows, IsLegalLog, graph_of}
use Rattle.braid_tree.specs.Trees.{Member}
use Rattle.braid_text.proofs.Held.{version_member, one_update, parents_in, update_of, update_version, AllHeld}
use Rattle.braid_text.proofs.Whole.{IsWhole, whole_legal, seen_under}
use Rattle.braid_text.proofs.Same.{filter_reading, same_read, Compatible, Source, source}
use Rattle.braid_rebase.proofs.Spliced.{splice_cut, text_after}
use Rattle.braid_text.proofs.Own.{distinct_seen, seen_own}
use Rattle.braid_text.proofs.Ties.{levels_log}
use Rattle.braid_graph.specs.Levels.{level_in}

-- the newest version of a legal log reads as the splice of what its parents read
pub law_newest : (us : List UpdateView) (u : UpdateView) → IsLegalLog us → Follows us u → spliced (text_in (versions_in us) u.parents) u.change ≡ Some (text_in (versions_in (u ∷ us)) (u.id ∷ []))
law_newest us u legal follows = splice_cut S u.change follows.fits ∙ ap Some (sym (ap chars_of (seen_own us u legal follows) ∙ text_after level u.id S u.change read (distinct_seen us u legal follows) under follows.built.shaped))
  where
    vs : List Version
    vs = versions_in us

    whole : IsWhole vs
    whole = whole_legal us legal

    S : List (Node Key)
    S = seen_in vs u.parents

    level : ℕ
    level = 1 + greatest_level vs u.parents

    under : AreUnder level S
    under = seen_under vs whole u.parents

    read : IsReading key_cmp S
    read = filter_reading (sees (ancestors_in vs u.parents)) (document_in vs) whole.tree.reading

-- an update of a legal log, by the older log that it follows
module _ (us : List UpdateView) (legal : IsLegalLog us) (u : UpdateView) (m : Member u us) (s : Source u.id us) where
  is : s.update ≡ u
  is = one_update us legal s.update u s.listed m s.named

  follows_older : Follows s.older u
  follows_older = subst (Follows s.older) is s.follows

  older : Compatible s.older us
  older a b x y e = one_update us legal a b (s.part a x) y e

  longer : Compatible (u ∷ s.older) us
  longer a b (inl x) y e = one_update us legal a b (subst (λ (t : UpdateView). Member t us) x m) y e
  longer a b (inr x) y e = older a b x y e

  held_there : AllHeld (versions_in us) u.parents
  held_there i k = lift (version_member i (versions_in s.older) (parents_in s.older u follows_older i k))
    where
      lift : (w : Version) × Member w (versions_in s.older) × (w.id ≡ i) → has_version i (versions_in us) ≡ true
      lift (w, n, e) = subst (λ (j : List ℕ). has_version j (versions_in us) ≡ true) e (held_update (update_of s.older w n))
        where
          held_update : (a : UpdateView) × Member a s.older × (a.id ≡ w.id) → has_version w.id (versions_in us) ≡ true
          held_update (a, k, f) = subst (λ (j : List ℕ). has_version j (versions_in us) ≡ true) f (update_version us a (s.part a k))

  parents_seen : seen_in (versions_in s.older) u.parents ≡ seen_in (versions_in us) u.parents
  parents_seen = same_read s.older us s.legal legal older u.parents (parents_in s.older u follows_older) held_there

  own_held : (os : List UpdateView) → has_version u.id (versions_in os) ≡ true → AllHeld (versions_in os) (u.id ∷ [])
  own_held os h i (inl e) = subst (λ (j : List ℕ). has_version j (versions_in os) ≡ true) e h
  own_held os h i (inr n) = absurd n

  own_there : seen_in (versions_in (u ∷ s.older)) (u.id ∷ []) ≡ seen_in (versions_in us) (u.id ∷ [])
  own_there = same_read (u ∷ s.older) us (follows_older, s.legal) legal longer (u.id ∷ []) (own_held (u ∷ s.older) (update_version (u ∷ s.older) u (inl refl))) (own_held us (update_version us u m))

  read_there : spliced (text_in (versions_in us) u.parents) u.change ≡ Some (text_in (versions_in us) (u.id ∷ []))
  read_there = ap (λ S. spliced (chars_of S) u.change) (sym parents_seen) ∙ law_newest s.older u s.legal follows_older ∙ ap (λ S. Some (chars_of S)) own_there

  level_there : 1 + greatest_level (versions_in s.older) u.parents ≡ level_in (graph_of us) u.id
  level_there = ap (λ (t : UpdateView). 1 + greatest_level (versions_in s.older) t.parents) (sym is) ∙ levels_log us legal (version_in s.update (versions_in s.older)) s.versioned ∙ ap (λ (t : UpdateView). level_in (graph_of us) t.id) is

  seen_there : seen_in (versions_in us) (u.id ∷ []) ≡ seen_after (level_in (graph_of us) u.id) u.id (seen_in (versions_in us) u.parents) u.change
  seen_there = sym own_there ∙ seen_own s.older u s.legal follows_older
      ∙ ap (λ (n : ℕ). seen_after n u.id (seen_in (versions_in s.older) u.parents) u.change) level_there ∙ ap (λ S. seen_after (level_in (graph_of us) u.id) u.id S u.change) parents_seen

-- every version of a legal log reads as the splice of what its parents read
pub law_any : (us : List UpdateView) → IsLegalLog us → (u : UpdateView) → Member u us → spliced (text_in (versions_in us) u.parents) u.change ≡ Some (text_in (versions_in us) (u.id ∷ []))
law_any us legal u m = read_there us legal u m (source u.id us legal (update_version us u m))

-- and sees what its parents see with what it adds
pub seen_any : (us : List UpdateView) → IsLegalLog us → (u : UpdateView) → Member u us → seen_in (versions_in us) (u.id ∷ []) ≡ seen_after (level_in (graph_of us) u.id) u.id (seen_in (versions_in us) u.parents) u.change
seen_any us legal u m = seen_there us legal u m (source u.id us legal (update_version us u m))

-- What the laws say, put together.
use Rattle.std.proofs.Common.{◌≡◌, ◌≢◌, ◌↔◌, ℕ, ◌<◌, List, [], ◌∷◌, sym, subst, inl, inr, ◌⊎◌}
use Rattle.std.specs.List.{Contains}
use Rattle.braid_graph.specs.Entries.{GraphEntry, HoldsAll, IsHistoryGraph, SameEntries}
use Rattle.braid_graph.specs.Ancestries.{IsAncestor, IsClosed, ancestry_of}
use Rattle.braid_graph.specs.Levels.{level_of}
use Rattle.braid_graph.specs.Orders.{SameAnswers}
use Rattle.braid_ids.proofs.Members.{contains_member}
use Rattle.braid_graph.proofs.Walk.{least, same_ancestry, walk_sound, walk_complete}
use Rattle.braid_graph.proofs.Levels.{below_frontier, same_levels}
use Rattle.braid_graph.proofs.Frontiers.{held_same, same_frontiers}

pub in_closed : (es : List GraphEntry) (F xs : List (List ℕ)) (v : List ℕ) → IsClosed es F xs → IsAncestor es F v → Contains xs v
in_closed es F xs v closed a = least es F (Contains xs) closed.names closed.parents v a

pub walk_members : (es : List GraphEntry) (F : List (List ℕ)) → IsHistoryGraph es → HoldsAll es F → (v : List ℕ) → Contains (ancestry_of es F) v ↔ IsAncestor es F v
walk_members es F h held v = (λ c. walk_sound es F v c, λ a. walk_complete es F h held v a)

pub above_ancestry : (es : List GraphEntry) → IsHistoryGraph es → (v w : List ℕ) → IsAncestor es (v ∷ []) w → w ≢ v → level_of es w < level_of es v
above_ancestry es h v w a other = go (below_frontier es h (v ∷ []) w a)
  where
    go : (u : List ℕ) × Contains (v ∷ []) u × ((u ≡ w) ⊎ (level_of es w < level_of es u)) → level_of es w < level_of es v
    go (u, c, r) = elim (contains_member (v ∷ []) u c) [
      | inl same ↦ elim r [
        | inl this ↦ absurd (other (sym (same_path v u w same this)))
        | inr below ↦ subst (λ (t : List ℕ). level_of es w < level_of es t) (sym same) below
      ]
      | inr m ↦ absurd m
    ]
      where
        same_path : (v u w : List ℕ) → v ≡ u → u ≡ w → v ≡ w
        same_path v u w a b = cc

pub same_answers : (es fs : List GraphEntry) → IsHistoryGraph es → IsHistoryGraph fs → SameEntries es fs → SameAnswers es fs
same_answers es fs h k same = record {
  held = λ v. (held_same es fs (λ e. (same e).0) v, held_same fs es (λ e. (same e).1) v);
  ancestry = λ F v. (same_ancestry es fs (λ e. (same e).0) F v, same_ancestry fs es (λ e. (same e).1) F v);
  level = same_levels es fs h k same;
  frontier = same_frontiers es fs same;
}

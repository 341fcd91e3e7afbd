-- What the runs and places of ranges stand for, where the seen rows list nodes.
use Rattle.std.specs.Prelude.{◌≡◌, ℕ, ◌+◌, List, [], ◌∷◌, length}
use Rattle.braid_change.specs.declared.patch.Patch.{Patch}
use Rattle.braid_tree.specs.Keys.{Key}
use Rattle.braid_tree.specs.Nodes.{Node}
use Rattle.braid_tree.specs.Rows.{Stamp, IsOrigin}
use Rattle.braid_rebase.specs.Additions.{origin_at}
use Rattle.braid_rebase.specs.declared.run.Run.{Run}

-- the runs are those of the ranges, one each: with the range's text, its ordinals going on from n, and the node that the text hangs below as its origin
abbrev pub AreRunsOf : List Stamp → List (Node Key) → ℕ → List Run → List Patch → Type 0
AreRunsOf vs N n [] [] = Unit {0}
AreRunsOf vs N n [] (r ∷ rs) = ⊥
AreRunsOf vs N n (run ∷ runs) [] = ⊥
AreRunsOf vs N n (run ∷ runs) (r ∷ rs) =
    (run.text ≡ r.text) × (run.ordinal ≡ n) × IsOrigin vs N run.after (origin_at N r.start)
    × AreRunsOf vs N (n + length r.text) runs rs

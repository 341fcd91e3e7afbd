-- Worked rows: the nodes and the changes of which they speak.
use Rattle.std.specs.Prelude.{ℕ, List, [], ◌∷◌, codes}
use Rattle.braid_change.specs.declared.patch.Patch.{Patch}
use Rattle.braid_change.specs.declared.change.Change.{Change}
use Rattle.braid_change.specs.declared.change.Change.TheVariants.{Patches}
use Rattle.braid_tree.specs.Keys.{Key, key_in}
use Rattle.braid_tree.specs.Nodes.{Node, run}
use Rattle.braid_rebase.specs.Additions.{chars_of, seen_after}

-- the nodes of `x-1` of level 1, which typed `abc` at the root
abbrev pub abc : List (Node Key)
abc = run (key_in 1 (codes "x-1")) [] 0 (codes "abc")

-- a patch
abbrev pub patch : ℕ → ℕ → List ℕ → Patch
patch start end text = record { start = start; end = end; text = text }

-- what `p-1` of level 2 reads after a change of these nodes
abbrev pub text_after : Change → List ℕ
text_after change = chars_of (seen_after 2 (codes "p-1") abc change)

-- two patches with one start, and a third
abbrev pub three_patches : Change
three_patches = Patches (patch 1 1 (codes "x") ∷ patch 1 2 (codes "yz") ∷ patch 3 3 (codes "!") ∷ [])

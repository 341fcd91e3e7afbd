-- Runs that are put into a document one after the other, and what its rows list then.
use Rattle.std.specs.Prelude.{◌≡◌, ℕ, ◌+◌, List, [], ◌∷◌, MatchOption, length, map}
use Rattle.std.specs.List.{sum_by, AllByRecursion}
use Rattle.braid_change.specs.declared.patch.Patch.{Patch}
use Rattle.braid_tree.specs.declared.at.At.{At}
use Rattle.braid_tree.specs.Keys.{Key, key_cmp}
use Rattle.braid_tree.specs.Nodes.{Node, with_nodes}
use Rattle.braid_tree.specs.Elements.{element_of}
use Rattle.braid_tree.specs.Trees.{Member, IsTree, AreNewKeys}
use Rattle.braid_tree.specs.Rows.{Stamp, Row, RowDeletion, HasPlace, element_at, next_key}
use Rattle.braid_rebase.specs.Additions.{nodes_at, AreUnder}
use Rattle.braid_rebase.specs.Standing.{AreRunsOf}
use Rattle.braid_rebase.specs.declared.run.Run.{Run}
use Rattle.braid_text.specs.RunCounts.{text_count}

abbrev pub text_len : Run → ℕ
text_len run = length run.text

-- how many characters runs insert
abbrev pub total_len : List Run → ℕ
total_len runs = sum_by text_len runs

abbrev pub run_count : Run → ℕ
run_count run = text_count run.text

-- how many runs have text
abbrev pub insertions_at : List Run → ℕ
insertions_at runs = sum_by run_count runs

-- the runs' places are there, and their ordinals go on from n
abbrev pub AreOver : List Row → ℕ → List Run → Type 0
AreOver rows n [] = Unit {0}
AreOver rows n (run ∷ runs) = MatchOption run.after (Unit {0}) (HasPlace rows) × (run.ordinal ≡ n)
    × AreOver rows (n + text_len run) runs

-- each of these places is there
abbrev pub AreThere : List Row → List At → Type 0
AreThere rows places = AllByRecursion (HasPlace rows) places

-- the version with this number deletes the element at a place
abbrev pub deletion_by : ℕ → At → RowDeletion
deletion_by n at = record { at = at; by = n }

-- what runs rest on: the rows list a tree with the seen nodes N, all below the version's level, and its keys from number n on are new
pub record Puts (vs : List Stamp) (rows : List Row) (d N : List (Node Key)) (n : ℕ) : Type 0 where
  pub tree : IsTree key_cmp d
  pub listed : map (element_at vs) rows ≡ map element_of d
  pub members : (z : Node Key) → Member z N → Member z d
  pub under : AreUnder (next_key vs 0).level N
  pub new : AreNewKeys (next_key vs) n d

-- whatever tree the old rows list, the new ones list that tree with the nodes of the ranges in their order
abbrev pub ListsWithRuns : List Stamp → List Row → List Row → List Run → Type 0
ListsWithRuns vs old new runs = (d N : List (Node Key)) (n : ℕ) (rs : List Patch) → Puts vs old d N n
    → AreRunsOf vs N n runs rs
    → map (element_at vs) new ≡ map element_of (with_nodes key_cmp (nodes_at (next_key vs) N n rs) d)

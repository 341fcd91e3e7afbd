-- What two lists of the same entries agree on.
use Rattle.std.specs.Prelude.{◌≡◌, ◌↔◌, ℕ, List}
use Rattle.braid_graph.specs.Entries.{GraphEntry, Holds}
use Rattle.braid_graph.specs.Ancestries.{IsAncestor}
use Rattle.braid_graph.specs.Levels.{level_of}
use Rattle.braid_graph.specs.Frontiers.{frontier_of}

-- the answers of two graphs are the same
pub record SameAnswers (es fs : List GraphEntry) : Type 0 where
  pub held : (v : List ℕ) → Holds es v ↔ Holds fs v
  pub ancestry : (F : List (List ℕ)) (v : List ℕ) → IsAncestor es F v ↔ IsAncestor fs F v
  pub level : (v : List ℕ) → level_of es v ≡ level_of fs v
  pub frontier : frontier_of es ≡ frontier_of fs

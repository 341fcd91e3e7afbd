-- Elements of a text, as callers know them: without their paths.
use Rattle.std.specs.Prelude.{◌≡◌, ℕ, List, [], ◌∷◌, Option, Some, None, MatchOption}
use Rattle.std.specs.declared.cmp.Ordering.TheVariants.{Less}
use Rattle.braid_tree.specs.Keys.{Key, key_cmp}
use Rattle.braid_tree.specs.Nodes.{Node, path_of}
use Rattle.braid_tree.specs.Trees.{Member}

-- an element: its key, its character, and its origin, which is a key or the root
pub record Element : Type 0 where
  pub key : Key
  pub char : ℕ
  pub origin : Option Key

-- the last key of a path, or the root where the path is empty
abbrev pub last_key : List Key → Option Key
last_key [] = None
last_key (k ∷ []) = Some k
last_key (k ∷ (j ∷ ks)) = last_key (j ∷ ks)

-- a node as an element: of its path only the origin's key is kept
abbrev pub element_of : Node Key → Element
element_of x = record { key = x.key; char = x.char; origin = last_key x.above }

-- the origin of a node's element in a list: the root for a node that hangs there, else a listed node with a smaller key,
-- below which it hangs
abbrev pub IsListedOrigin : List (Node Key) → Node Key → Option Key → Type 0
IsListedOrigin d x origin =
    MatchOption origin (x.above ≡ [])
    (λ (k : Key). (y : Node Key) × Member y d × (y.key ≡ k) × (path_of y ≡ x.above) × (key_cmp k x.key ≡ Less))

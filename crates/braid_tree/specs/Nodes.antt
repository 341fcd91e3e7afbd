-- The nodes of a tree, and the list of them in reading order.
use Rattle.std.specs.Prelude.{ℕ, List, [], ◌∷◌, ◌++◌, ◌+◌, if◌then◌else◌}
use Rattle.std.specs.declared.cmp.Ordering.{Ordering}
use Rattle.std.specs.Ordering.{is_lt}
use Rattle.std.specs.List.{AllByRecursion}
use Rattle.braid_tree.specs.Paths.{path_cmp, PathBefore}

-- a node below the root: the path of its origin, which is empty at the root, its key, and its character
pub record Node (K : Type 0) : Type 0 where
  pub above : List K
  pub key : K
  pub char : ℕ

-- the keys from the first below the root to the node's own
abbrev pub path_of : {K : Type 0} → Node K → List K
path_of x = x.above ++ x.key ∷ []

-- x stands before y: its path is a proper prefix of y's, or has the greater key at their first difference
abbrev pub Before : {K : Type 0} → (K → K → Ordering) → Node K → Node K → Type 0
Before R x y = PathBefore R (path_of x) (path_of y)

-- each node stands before all that follow
abbrev pub IsReading : {K : Type 0} → (K → K → Ordering) → List (Node K) → Type 0
IsReading R [] = Unit {0}
IsReading R (x ∷ xs) = AllByRecursion (Before R x) xs × IsReading R xs

-- a node put in order: before the first that it stands before
abbrev pub with_node : {K : Type 0} → (K → K → Ordering) → Node K → List (Node K) → List (Node K)
with_node R x [] = x ∷ []
with_node R x (y ∷ ys) = if is_lt (path_cmp R (path_of x) (path_of y)) then x ∷ y ∷ ys else (y ∷ with_node R x ys)

-- nodes put in order one after the other
abbrev pub with_nodes : {K : Type 0} → (K → K → Ordering) → List (Node K) → List (Node K) → List (Node K)
with_nodes R [] ys = ys
with_nodes R (x ∷ xs) ys = with_nodes R xs (with_node R x ys)

-- the nodes of a run of characters: the first has the node at the end of this path as its origin, each further one the one
-- before it; key n is the key of number n
abbrev pub run : {K : Type 0} → (ℕ → K) → List K → ℕ → List ℕ → List (Node K)
run key above n [] = []
run key above n (c ∷ cs) = record { above = above; key = key n; char = c } ∷ run key (above ++ key n ∷ []) (n + 1) cs

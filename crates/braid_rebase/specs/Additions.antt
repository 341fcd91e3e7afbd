-- What an update adds to a text: the nodes that it inserts and the keys that it deletes, from the nodes that its parents see.
use Rattle.std.specs.Prelude.{◌≡◌, ℕ, ◌<◌, ◌≤◌, ◌+◌, ◌-◌, List, [], ◌∷◌, ◌++◌, length, take, drop, map, filter, unwrap_or, Bool, false, not, ◌||◌, Some, slice_get, Contains}
use Rattle.std.specs.Ordering.{is_eq}
use Rattle.std.specs.List.{AllByRecursion}
use Rattle.braid_change.specs.declared.patch.Patch.{Patch}
use Rattle.braid_change.specs.declared.change.Change.{Change}
use Rattle.braid_change.specs.Splices.{ranges}
use Rattle.braid_tree.specs.Keys.{Key, key_cmp, key_in}
use Rattle.braid_tree.specs.Nodes.{Node, path_of, with_nodes, run}

abbrev pub char_of : Node Key → ℕ
char_of x = x.char

abbrev pub key_of : Node Key → Key
key_of x = x.key

-- whether a key is among others
abbrev pub has_key : Key → List Key → Bool
has_key k [] = false
has_key k (j ∷ js) = is_eq (key_cmp k j) || has_key k js

-- the characters of nodes, in their order
abbrev pub chars_of : List (Node Key) → List ℕ
chars_of S = map char_of S

-- the ranges of the seen nodes that a change replaces; none where a patch passes their end
abbrev pub ranges_at : List (Node Key) → Change → List Patch
ranges_at S change = unwrap_or (ranges (chars_of S) change) []

-- the path of the last node, or p where there is none
abbrev pub last_path : List Key → List (Node Key) → List Key
last_path p [] = p
last_path p (x ∷ xs) = last_path (path_of x) xs

-- the path of seen node number s - 1, or of the root where s is 0
abbrev pub origin_at : List (Node Key) → ℕ → List Key
origin_at S s = last_path [] (take s S)

-- the nodes inserted at ranges: each range's text is a run behind the node before the range; ordinals go on from n through all ranges
abbrev pub nodes_at : (ℕ → Key) → List (Node Key) → ℕ → List Patch → List (Node Key)
nodes_at key S n [] = []
nodes_at key S n (r ∷ rs) = run key (origin_at S r.start) n r.text ++ nodes_at key S (n + length r.text) rs

-- the keys deleted at ranges: those of the seen nodes from each range's start up to its end
abbrev pub deleted_at : List (Node Key) → List Patch → List Key
deleted_at S [] = []
deleted_at S (r ∷ rs) = map key_of (take (r.end - r.start) (drop r.start S)) ++ deleted_at S rs

-- the nodes that a version with this level and identifier inserts
abbrev pub added_nodes : ℕ → List ℕ → List (Node Key) → Change → List (Node Key)
added_nodes level id S change = nodes_at (key_in level id) S 0 (ranges_at S change)

-- the keys that a change deletes
abbrev pub deleted_keys : List (Node Key) → Change → List Key
deleted_keys S change = deleted_at S (ranges_at S change)

-- nodes without those of these keys
abbrev pub without_keys : List Key → List (Node Key) → List (Node Key)
without_keys keys S = filter (λ (x : Node Key). not (has_key x.key keys)) S

-- what a new version sees: the nodes that its parents see and its own in reading order, without those that it deletes
abbrev pub seen_after : ℕ → List ℕ → List (Node Key) → Change → List (Node Key)
seen_after level id S change =
    without_keys (deleted_keys S change) (with_nodes key_cmp (added_nodes level id S change) S)

-- every key on the nodes' paths has a level below this one
abbrev pub AreUnder : ℕ → List (Node Key) → Type 0
AreUnder level S = AllByRecursion (λ (y : Node Key). AllByRecursion (λ (b : Key). b.level < level) (path_of y)) S

-- the key is that of a seen node from a range's start up to its end
abbrev pub IsDeletedAt : List (Node Key) → List Patch → Key → Type 0
IsDeletedAt S rs k =
    (r : Patch) × (i : ℕ) × (x : Node Key) × Contains rs r × (r.start ≤ i) × (i < r.end) × (slice_get S i ≡ Some x)
    × (x.key ≡ k)

-- When a list of nodes is a tree in reading order, and when nodes are new to it.
use Rattle.std.specs.Prelude.{◌≡◌, ◌⊎◌, ℕ, ◌<◌, ◌≤◌, List, [], ◌∷◌, ◌++◌}
use Rattle.std.specs.declared.cmp.Ordering.{Ordering}
use Rattle.std.specs.declared.cmp.Ordering.TheVariants.{Less}
use Rattle.std.specs.List.{AllByRecursion}
use Rattle.braid_tree.specs.Nodes.{Node, path_of, IsReading}

-- x is one of the list: what `Contains` says by number, said by cases on the list
abbrev pub Member : {A : Type 0} → A → List A → Type 0
Member x [] = ⊥
Member x (y ∷ ys) = (y ≡ x) ⊎ Member x ys

-- some node of the list has the path
abbrev pub HasPath : {K : Type 0} → List (Node K) → List K → Type 0
HasPath {K} d z = (y : Node K) × Member y d × (path_of y ≡ z)

-- each key of a path is smaller than k
abbrev pub AreSmaller : {K : Type 0} → (K → K → Ordering) → K → List K → Type 0
AreSmaller {K} R k p = AllByRecursion (λ (b : K). R b k ≡ Less) p

-- each key above the node is smaller than its own
abbrev pub RisesToKey : {K : Type 0} → (K → K → Ordering) → Node K → Type 0
RisesToKey R y = AreSmaller R y.key y.above

-- nothing on the node's path is the key k
abbrev pub IsWithout : {K : Type 0} → K → Node K → Type 0
IsWithout {K} k y = AllByRecursion (λ (b : K). (b ≡ k) → ⊥) y.above × ((y.key ≡ k) → ⊥)

-- no two nodes have one key
abbrev pub AreDistinct : {K : Type 0} → List (Node K) → Type 0
AreDistinct [] = Unit {0}
AreDistinct {K} (x ∷ xs) = AllByRecursion (λ (y : Node K). (y.key ≡ x.key) → ⊥) xs × AreDistinct xs

-- a list of nodes in reading order with different keys, in which each node's path rises and leads through nodes of the list
pub record IsTree {K : Type 0} (R : K → K → Ordering) (d : List (Node K)) : Type 0 where
  pub reading : IsReading R d
  pub rising : AllByRecursion (RisesToKey R) d
  pub distinct : AreDistinct d
  pub closed : (a : List K) (b : K) (r : List K) → HasPath d (a ++ b ∷ r) → HasPath d (a ++ b ∷ [])

-- front is the list up to the origin with this path: nothing at the root
abbrev pub EndsAt : {K : Type 0} → List (Node K) → List K → Type 0
EndsAt {K} front above =
    ((front ≡ []) × (above ≡ []))
    ⊎ ((before : List (Node K)) × (origin : Node K) × (front ≡ before ++ origin ∷ []) × (path_of origin ≡ above))

-- each node of the list has a greater key than k
abbrev pub AreGreater : {K : Type 0} → (K → K → Ordering) → K → List (Node K) → Type 0
AreGreater {K} R k ys = AllByRecursion (λ (y : Node K). R k y.key ≡ Less) ys

-- the first node, if there is one, has a smaller key than k
abbrev pub StartsSmaller : {K : Type 0} → (K → K → Ordering) → K → List (Node K) → Type 0
StartsSmaller R k [] = Unit {0}
StartsSmaller R k (y ∷ ys) = R y.key k ≡ Less

-- a tree in three parts for a new key below this path: up to the origin, the neighbours with greater keys, and the rest,
-- which begins with a smaller key
pub record IsCutFor {K : Type 0} (R : K → K → Ordering) (above : List K) (k : K)
    (front over tail : List (Node K)) : Type 0 where
  pub tree : IsTree R (front ++ (over ++ tail))
  pub origin : EndsAt front above
  pub greater : AreGreater R k over
  pub smaller : StartsSmaller R k tail

-- a greater number has the greater key
abbrev pub AreRisingKeys : {K : Type 0} → (K → K → Ordering) → (ℕ → K) → Type 0
AreRisingKeys R key = (m n : ℕ) → m < n → R (key m) (key n) ≡ Less

-- the keys of number n and more are on no path of the list
abbrev pub AreNewKeys : {K : Type 0} → (ℕ → K) → ℕ → List (Node K) → Type 0
AreNewKeys key n d = (m : ℕ) → n ≤ m → AllByRecursion (IsWithout (key m)) d

-- The versions, the rows and the deletions of a document, and the elements that its rows name.
use Rattle.std.specs.Prelude.{◌≡◌, ◌⊎◌, ℕ, ◌+◌, ◌-◌, ◌<◌, ◌≤◌, List, [], ◌∷◌, ◌++◌, Option, Some, None, MatchOption, All, length, map, take, drop, slice_get}
use Rattle.std.specs.Option.{option_map}
use Rattle.braid_tree.specs.Keys.{Key, key_cmp}
use Rattle.braid_tree.specs.Nodes.{Node, path_of, with_nodes, run}
use Rattle.braid_tree.specs.Trees.{Member, IsTree, AreSmaller, AreNewKeys}
use Rattle.braid_tree.specs.Elements.{Element, element_of}
use Rattle.braid_tree.specs.declared.at.At.{At}

-- a version as a document knows it
pub record Stamp : Type 0 where
  pub id : List ℕ
  pub level : ℕ

-- an element as a document lists it: its place, its character, and the place of its origin, which is none at the root
pub record Row : Type 0 where
  pub at : At
  pub char : ℕ
  pub origin : Option At

-- that the version with this arrival number deletes the element at a place
pub record RowDeletion : Type 0 where
  pub at : At
  pub by : ℕ

-- how many versions, elements and deletions more there is room for
pub record DocumentRoom : Type 0 where
  pub versions : ℕ
  pub elements : ℕ
  pub deletions : ℕ

abbrev pub place : ℕ → ℕ → At
place version n = record { version = version; ordinal = n }

-- the key of number n of a version; a version that is not there has level 0 and no identifier
abbrev pub key_by : Option Stamp → ℕ → Key
key_by None n = record { level = 0; id = []; ordinal = n }
key_by (Some v) n = record { level = v.level; id = v.id; ordinal = n }

-- the key that a place names
abbrev pub key_at : List Stamp → At → Key
key_at vs at = key_by (slice_get vs at.version) at.ordinal

-- the element that a row names
abbrev pub element_at : List Stamp → Row → Element
element_at vs row = record { key = key_at vs row.at; char = row.char; origin = option_map (key_at vs) row.origin }

-- key number n of the version begun last
abbrev pub next_key : List Stamp → ℕ → Key
next_key vs n = key_at vs (place (length vs - 1) n)

-- the rows of a run: each further one has the one before it as its origin
abbrev pub run_rows : ℕ → Option At → ℕ → List ℕ → List Row
run_rows version origin n [] = []
run_rows version origin n (c ∷ cs) =
    record { at = place version n; char = c; origin = origin } ∷ run_rows version (Some (place version n)) (n + 1) cs

-- some row is that of the place
abbrev pub HasPlace : List Row → At → Type 0
HasPlace [] at = ⊥
HasPlace (r ∷ rows) at = (r.at ≡ at) ⊎ HasPlace rows at

-- each place of the old rows is one of the new rows
abbrev pub KeepsPlaces : List Row → List Row → Type 0
KeepsPlaces old new = (at : At) → HasPlace old at → HasPlace new at

-- this ordinal of a version and all later ones are new: no row has such a place
abbrev pub AreNewOrdinals : List Row → ℕ → ℕ → Type 0
AreNewOrdinals rows version n = (m : ℕ) → n ≤ m → ¬ (HasPlace rows (place version m))

-- the versions of a row's place and of its origin are there
pub record IsKnownRow (vs : List Stamp) (row : Row) : Type 0 where
  pub place_known : row.at.version < length vs
  pub origin_known : MatchOption row.origin (Unit {0}) (λ (at : At). at.version < length vs)

abbrev pub AreKnown : List Stamp → List Row → Type 0
AreKnown vs rows = All (IsKnownRow vs) rows

-- the new rows are the old ones with those of a run together between them, or at an end
abbrev pub PutsRun : List Row → List Row → ℕ → Option At → ℕ → List ℕ → Type 0
PutsRun old new version after n text =
    (p : ℕ) × (p ≤ length old) × (new ≡ take p old ++ (run_rows version after n text ++ drop p old))

-- the new list is the old one with x put somewhere between, or at an end
abbrev pub PutsOne : {A : Type 0} → List A → A → List A → Type 0
PutsOne {A} old x new = (front : List A) × (back : List A) × (old ≡ front ++ back) × (new ≡ front ++ x ∷ back)

-- the place is that of the node at the end of this path; where there is none, the path is the root's
abbrev pub IsOrigin : List Stamp → List (Node Key) → Option At → List Key → Type 0
IsOrigin vs es after above =
    MatchOption after (above ≡ []) (λ (at : At). (z : Node Key) × Member z es × (z.key ≡ key_at vs at)
    × (path_of z ≡ above))

-- what a run's place in the order rests on: the rows list a tree, the run's origin is its node at this path or the root, and
-- the run's keys are greater than those of the path, and new
pub record Inserts (vs : List Stamp) (rows : List Row) (es : List (Node Key)) (after : Option At) (above : List Key)
    (n : ℕ) : Type 0 where
  pub tree : IsTree key_cmp es
  pub listed : map (element_at vs) rows ≡ map element_of es
  pub origin : IsOrigin vs es after above
  pub up : AreSmaller key_cmp (next_key vs n) above
  pub new : AreNewKeys (next_key vs) n es

-- whatever tree the old rows list, the new ones list that tree with the run in its order
abbrev pub ListsWithRun : List Stamp → List Row → List Row → Option At → ℕ → List ℕ → Type 0
ListsWithRun vs old new after n text =
    (es : List (Node Key)) (above : List Key) → Inserts vs old es after above n
    → map (element_at vs) new ≡ map element_of (with_nodes key_cmp (run (next_key vs) above n text) es)

-- room for this many versions, elements and deletions is there
pub record HasRoomFor (room : DocumentRoom) (versions elements deletions : ℕ) : Type 0 where
  pub versions_fit : versions ≤ room.versions
  pub elements_fit : elements ≤ room.elements
  pub deletions_fit : deletions ≤ room.deletions

-- of the old room at most this much is gone
pub record Spends (old new : DocumentRoom) (versions elements deletions : ℕ) : Type 0 where
  pub versions_left : old.versions ≤ new.versions + versions
  pub elements_left : old.elements ≤ new.elements + elements
  pub deletions_left : old.deletions ≤ new.deletions + deletions

-- The ancestry of a frontier: the least set with its members and each parent of a member.
use Rattle.std.specs.Prelude.{◌≡◌, ◌≢◌, ◌↔◌, ℕ, List, [], ◌∷◌, ◌++◌, Bool, Some, if◌then◌else◌, length, reverse, slice_get, Contains}
use Rattle.std.specs.declared.cmp.Ordering.TheVariants.{Greater}
use Rattle.braid_ids.specs.Identifiers.{id_cmp}
use Rattle.braid_ids.specs.MarkSets.{IsMarked}
use Rattle.braid_ids.specs.declared.unknown.Unknown.{Unknown}
use Rattle.braid_ids.specs.declared.unknown.Unknown.TheVariants.{Id, Memory}
use Rattle.braid_graph.specs.Entries.{GraphEntry, Holds, HoldsAll, has_id}

-- a member of the ancestry of F: a member of F, or a parent of a member of the ancestry, and nothing else
pub data IsAncestor (es : List GraphEntry) (F : List (List ℕ)) : List ℕ → Type 0 where
  named : (v : List ℕ) → Contains F v → IsAncestor es F v
  parent : (e : GraphEntry) (v : List ℕ) → Contains es e → IsAncestor es F e.id → Contains e.parents v
      → IsAncestor es F v

-- a set that has the members of F and each parent of a member
pub record IsClosed (es : List GraphEntry) (F xs : List (List ℕ)) : Type 0 where
  pub names : (v : List ℕ) → Contains F v → Contains xs v
  pub parents : (e : GraphEntry) (v : List ℕ) → Contains es e → Contains xs e.id → Contains e.parents v → Contains xs v

-- the least such set
pub record IsAncestry (es : List GraphEntry) (F xs : List (List ℕ)) : Type 0 where
  pub closed : IsClosed es F xs
  pub least : (ys : List (List ℕ)) → IsClosed es F ys → (v : List ℕ) → Contains xs v → Contains ys v

-- the ancestry among entries that are listed newest first, by one walk from the newest to the oldest
abbrev pub ancestry_in : List GraphEntry → List (List ℕ) → List (List ℕ)
ancestry_in [] F = []
ancestry_in (e ∷ es) F = if has_id e.id F then e.id ∷ ancestry_in es (e.parents ++ F) else ancestry_in es F

-- the identifiers in the ancestry of F, the newest first
abbrev pub ancestry_of : List GraphEntry → List (List ℕ) → List (List ℕ)
ancestry_of es F = ancestry_in (reverse es) F

-- each member of `lower` is in the ancestry of `upper`
abbrev pub Covers : List GraphEntry → List (List ℕ) → List (List ℕ) → Type 0
Covers es upper lower = (v : List ℕ) → Contains lower v → IsAncestor es upper v

-- the members of F are held, and marked are exactly the arrival numbers of its ancestry
pub record MarksAncestry (es : List GraphEntry) (F : List (List ℕ)) (marks : List Bool) : Type 0 where
  pub held : HoldsAll es F
  pub size : length marks ≡ length es
  pub exact : (n : ℕ) (e : GraphEntry) → slice_get es n ≡ Some e → IsMarked marks n ↔ IsAncestor es F e.id

-- the least of these identifiers that no entry has
pub record IsLeastUnheld (es : List GraphEntry) (F : List (List ℕ)) (v : List ℕ) : Type 0 where
  pub named : Contains F v
  pub unheld : ¬ (Holds es v)
  pub least : (w : List ℕ) → Contains F w → ¬ (Holds es w) → id_cmp v w ≢ Greater

-- the identifier that an answer names, where it names one
abbrev pub NamesUnknown : Unknown → List ℕ → Type 0
NamesUnknown (Id w) v = w ≡ v
NamesUnknown Memory v = Unit {0}

-- why identifiers were not all found: the least that is not held. Memory may come for any identifiers
abbrev pub IsUnknown : List GraphEntry → List (List ℕ) → Unknown → Type 0
IsUnknown es F (Id v) = IsLeastUnheld es F v
IsUnknown es F Memory = Unit {0}

-- Keys of elements, and their order.
use Rattle.std.specs.Prelude.{ℕ, List}
use Rattle.std.specs.declared.cmp.Ordering.{Ordering}
use Rattle.std.specs.Ordering.{nat_cmp, ordering_then}
use Rattle.braid_ids.specs.Identifiers.{id_cmp}

-- the key of an element: the level of its version, the version's identifier, and the element's number in the version
pub record Key : Type 0 where
  pub level : ℕ
  pub id : List ℕ
  pub ordinal : ℕ

-- keys are compared by level, then by the identifier's bytes, then by ordinal
abbrev pub key_cmp : Key → Key → Ordering
key_cmp a b = ordering_then (nat_cmp a.level b.level) (ordering_then (id_cmp a.id b.id) (nat_cmp a.ordinal b.ordinal))

-- the key of element number n of the version with this level and identifier
abbrev pub key_in : ℕ → List ℕ → ℕ → Key
key_in level id n = record { level = level; id = id; ordinal = n }

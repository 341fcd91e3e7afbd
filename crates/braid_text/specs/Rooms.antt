-- The limits of a replica, and the name and limit of what there is too little room for.
use Rattle.std.specs.Prelude.{ℕ, List, codes}
use Rattle.braid_text.specs.declared.room.Room.{Room}
use Rattle.braid_text.specs.declared.room.Which.{Which}
use Rattle.braid_text.specs.declared.room.Which.TheVariants.{Resources, Versions, Elements, Deletions, Width}

-- the name of a count
abbrev pub which_name : Which → List ℕ
which_name Resources = codes "resources"
which_name Versions = codes "versions"
which_name Elements = codes "elements"
which_name Deletions = codes "deletions"
which_name Width = codes "width"

-- the most that a replica has of one resource
abbrev pub replica_limits : Room
replica_limits = record { versions = 524_288; elements = 33_554_432; deletions = 67_108_864; width = 2_000 }

-- the limit of one count; there is one resource
abbrev pub limit_of : Room → Which → ℕ
limit_of limits Resources = 1
limit_of limits Versions = limits.versions
limit_of limits Elements = limits.elements
limit_of limits Deletions = limits.deletions
limit_of limits Width = limits.width

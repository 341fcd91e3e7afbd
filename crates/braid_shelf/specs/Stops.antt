-- Places of a value, from how many bytes were left at them.
use Rattle.std.specs.Prelude.{◌≡◌, ℕ, ◌+◌, ◌-◌, ◌≤◌, List, length, Option, Some, None}
use Rattle.braid_shelf.specs.declared.fault.Stop.{Stop}
use Rattle.braid_shelf.specs.declared.fault.Stop.TheVariants as stops
use Rattle.braid_shelf.specs.declared.fault.ShelfFault.{ShelfFault}
use Rattle.braid_shelf.specs.declared.fault.ShelfFault.TheVariants as faults
use Rattle.braid_shelf.specs.declared.member.Member.{Member}
use Rattle.braid_shelf.specs.Lists.{AreStrings}
use Rattle.braid_shelf.specs.Faults.{IsNotString}

-- a fault is at one of so many bytes, or at their end
abbrev pub IsWithin : Stop → ℕ → Type 0
IsWithin (stops.Bad left kind) len = left ≤ len
IsWithin stops.Memory len = Unit {0}

-- the fault of a value of so many bytes
abbrev pub fault_of : Stop → ℕ → ShelfFault
fault_of (stops.Bad left kind) len = faults.Bad (len - left) kind
fault_of stops.Memory len = faults.Memory

-- the place of the first member that is no String without parameters, where there is one
abbrev pub IsOther : List ℕ → List Member → Option ℕ → Type 0
IsOther value members None = AreStrings members
IsOther value members (Some left) = (at : ℕ) × (at + left ≡ length value) × IsNotString value at

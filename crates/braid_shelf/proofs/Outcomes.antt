-- What the answers of the readers of whole values say.
use Rattle.std.proofs.Common.{◌≡◌, ℕ, ◌-◌, List, [], length, subst, arith}
use Rattle.braid_shelf.specs.declared.fault.ShelfFault.{ShelfFault}
use Rattle.braid_shelf.specs.declared.fault.ShelfFault.TheVariants as faults
use Rattle.braid_shelf.specs.declared.fault.Stop.{Stop}
use Rattle.braid_shelf.specs.declared.fault.Stop.TheVariants as stops
use Rattle.braid_shelf.specs.Lists.{SpellsList}
use Rattle.braid_shelf.specs.Faults as kinds
use Rattle.braid_shelf.specs.Faults.{IsListFault, IsShelfFault, IsStringsFault, IsStringsShelfFault, IsCountShelfFault, IsNotString}
use Rattle.braid_shelf.specs.Reading.{Read, Stops, Found, list_at}
use Rattle.braid_shelf.specs.Stops.{IsWithin, fault_of, IsOther}
use Rattle.braid_shelf.proofs.Wholes.{IsListRead, list_read}

pub found_list : (value : List ℕ) (found : Found) → list_at value ≡ Read found [] → SpellsList found.members value
found_list value found e = let h = subst (IsListRead value) e (list_read value) in h.1

pub found_other : (value : List ℕ) (found : Found) → list_at value ≡ Read found [] → IsOther value found.members found.other
found_other value found e = let h = subst (IsListRead value) e (list_read value) in h.2

pub stop_within : (stop : Stop) (value : List ℕ) → Stops stop (list_at value) → IsWithin stop (length value)
stop_within (stops.Bad left kind) value e = let h = subst (IsListRead value) e (list_read value) in omega (arith, h.1)
stop_within stops.Memory value e = tt

pub stop_fault : (stop : Stop) (value : List ℕ) → Stops stop (list_at value) → IsShelfFault value (fault_of stop (length value))
stop_fault (stops.Bad left kind) value e =
    let h = subst (IsListRead value) e (list_read value) in
    let place : h.0 ≡ length value - left = omega (arith, h.1) in
    subst (λ at. IsListFault value at kind) place h.2
stop_fault stops.Memory value e = tt

pub no_count : (fault : ShelfFault) (value : List ℕ) → IsShelfFault value fault → IsCountShelfFault value fault
no_count (faults.Bad at kind) value f = kinds.no_list value at kind f
no_count faults.Memory value f = tt

-- Laws of header lists.
use Rattle.std.proofs.Common.{◌≡◌, ℕ, List, [], sym, ap, ◌∙◌, arith, inl, inr, ◌⊎◌}
use Rattle.braid_shelf.specs.declared.fault.ShelfKind.{ShelfKind}
use Rattle.braid_shelf.specs.declared.member.Member.{Member}
use Rattle.braid_shelf.specs.Lists.{SpellsList}
use Rattle.braid_shelf.specs.Faults.{IsListFault}
use Rattle.braid_shelf.specs.Reading.{Outcome, Read, Bad, Found, list_at}
use Rattle.braid_shelf.proofs.Wholes.{IsListRead, list_read}
use Rattle.braid_shelf.proofs.Spelled.{list_only, fault_only}

pub same_found : (found grown : Found) (outcome : Outcome Found) → outcome ≡ Read found [] → outcome ≡ Read grown [] → found ≡ grown
same_found found grown outcome e f = cc

pub one_reading : (members others : List Member) (value : List ℕ) → SpellsList members value → SpellsList others value → members ≡ others
one_reading members others value h k =
    let a = list_only members value h in
    let b = list_only others value k in
    sym a.2 ∙ ap (λ (found : Found). found.members) (same_found a.0 b.0 (list_at value) a.1 b.1) ∙ b.2

apart : (found : Found) (outcome : Outcome Found) (left : ℕ) (kind : ShelfKind) → outcome ≡ Read found [] → outcome ≡ Bad left kind → ⊥
apart found outcome left kind e f = cc

pub not_both : (members : List Member) (value : List ℕ) (at : ℕ) (kind : ShelfKind) → SpellsList members value → IsListFault value at kind → ⊥
not_both members value at kind h f =
    let a = list_only members value h in
    apart a.0 (list_at value) f.left kind a.1 (fault_only value at kind f)

same_fault : (outcome : Outcome Found) (left other : ℕ) (kind sort : ShelfKind) → outcome ≡ Bad left kind → outcome ≡ Bad other sort → (left ≡ other) × (kind ≡ sort)
same_fault outcome left other kind sort e f = (cc, cc)

pub one_fault : (value : List ℕ) (at other : ℕ) (kind sort : ShelfKind) → IsListFault value at kind → IsListFault value other sort → (at ≡ other) × (kind ≡ sort)
one_fault value at other kind sort f g =
    let same = same_fault (list_at value) f.left g.left kind sort (fault_only value at kind f) (fault_only value other sort g) in
    let place = f.place in
    let other_place = g.place in
    let lefts = same.0 in
    (omega arith, same.1)

pub decided : (value : List ℕ) → ((members : List Member) × SpellsList members value) ⊎ ((at : ℕ) × (kind : ShelfKind) × IsListFault value at kind)
decided value = go (list_at value) (list_read value)
  where
    go : (outcome : Outcome Found) → IsListRead value outcome → ((members : List Member) × SpellsList members value) ⊎ ((at : ℕ) × (kind : ShelfKind) × IsListFault value at kind)
    go (Read found rest) h = inl (found.members, h.1)
    go (Bad left kind) h = inr (h.0, kind, h.2)

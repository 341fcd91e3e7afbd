-- A change is not written for one reason, and for none where it is written.
use Rattle.std.proofs.Common.{◌≡◌, ◌≢◌, ℕ, ◌<◌, ◌^◌, List, [], Bool, true, false, ◌&&◌, not, is_some, IsSome, Option, Some, None, nat_lt, refl, sym, ap, subst, ◌∙◌, arith}
use Rattle.braid_change.specs.declared.change.Change.{Change}
use Rattle.braid_change.specs.declared.update.BuildFault.{BuildFault}
use Rattle.braid_change.specs.Changes.{IsShaped, AreScalars}
use Rattle.braid_change.specs.Updates.{IsBuildFault}
use Rattle.braid_change.specs.Splices.{spliced, first_past}
use Rattle.braid_change.proofs.Built.{fault_one, built_faultless}
use Rattle.braid_change.proofs.Pieces.{undefined_past}
use Rattle.braid_text.specs.Histories.{text_of}
use Rattle.braid_text.specs.Rooms.{limit_of}
use Rattle.braid_text.specs.Refusals.{first_full}
use Rattle.braid_text.specs.Answers.{IsOver, HasRoom, room_of}
use Rattle.braid_text.specs.declared.accept.Accept.{Accept}
use Rattle.braid_text.specs.declared.room.Room.{Room}
use Rattle.braid_text.specs.declared.room.Which.{Which}
use Rattle.braid_text.specs.declared.room.Which.TheVariants.{Resources, Versions, Elements, Deletions, Width}
use Rattle.braid_text.proofs.Answered.{IsOverAnswer, over_is}
use Rattle.braid_text.proofs.Whole.{and_cases}
use Rattle.braid_outbox.specs.declared.faults.WriteFault.{WriteFault}
use Rattle.braid_outbox.specs.declared.faults.WriteFault.TheVariants as writes
use Rattle.braid_outbox.specs.Shapes.{is_change}
use Rattle.braid_outbox.specs.Replicas.{ReplicaView, all_of}
use Rattle.braid_outbox.specs.Writes.{last_number, write_needs, is_written, IsWriteFault}
use Rattle.braid_outbox.proofs.Shapes.{lt_from, built_from}

one_over : (need room : Room) (a b : Which) (n k m l : ℕ) → IsOver need room a n k → IsOver need room b m l → a ≡ b
one_over need room Resources b n k m l h g = absurd h
one_over need room Versions Resources n k m l h g = absurd g
one_over need room Versions Versions n k m l h g = refl
one_over need room Versions Elements n k m l h g = absurd (omega (arith, h.0, h.1, h.2, g.0))
one_over need room Versions Deletions n k m l h g = absurd (omega (arith, h.0, h.1, h.2, g.0))
one_over need room Versions Width n k m l h g = absurd (omega (arith, h.0, h.1, h.2, g.0))
one_over need room Elements Resources n k m l h g = absurd g
one_over need room Elements Versions n k m l h g = absurd (omega (arith, g.0, g.1, g.2, h.0))
one_over need room Elements Elements n k m l h g = refl
one_over need room Elements Deletions n k m l h g = absurd (omega (arith, h.1, h.2, h.3, g.1))
one_over need room Elements Width n k m l h g = absurd (omega (arith, h.1, h.2, h.3, g.1))
one_over need room Deletions Resources n k m l h g = absurd g
one_over need room Deletions Versions n k m l h g = absurd (omega (arith, g.0, g.1, g.2, h.0))
one_over need room Deletions Elements n k m l h g = absurd (omega (arith, g.1, g.2, g.3, h.1))
one_over need room Deletions Deletions n k m l h g = refl
one_over need room Deletions Width n k m l h g = absurd (omega (arith, h.2, h.3, h.4, g.2))
one_over need room Width Resources n k m l h g = absurd g
one_over need room Width Versions n k m l h g = absurd (omega (arith, g.0, g.1, g.2, h.0))
one_over need room Width Elements n k m l h g = absurd (omega (arith, g.1, g.2, g.3, h.1))
one_over need room Width Deletions n k m l h g = absurd (omega (arith, g.2, g.3, g.4, h.2))
one_over need room Width Width n k m l h g = refl

not_over : (need room : Room) (a : Which) (n k : ℕ) → HasRoom need room → IsOver need room a n k → ⊥
not_over need room Resources n k has h = h
not_over need room Versions n k has h = let l = has.versions in omega (arith, l, h.0, h.1, h.2)
not_over need room Elements n k has h = let l = has.elements in omega (arith, l, h.1, h.2, h.3)
not_over need room Deletions n k has h = let l = has.deletions in omega (arith, l, h.2, h.3, h.4)
not_over need room Width n k has h = let l = has.width in omega (arith, l, h.3, h.4, h.5)

-- a change that has a splice ends within the text
past_not_spliced : (t : List ℕ) (c : Change) (patch : ℕ) → first_past t c ≡ Some patch → IsSome (spliced t c) → ⊥
past_not_spliced t c patch e s =
    let none : spliced t c ≡ None = (undefined_past t c).1 (subst IsSome (sym e) refl) in
    let z : false ≡ true = subst IsSome none s in
    cc

-- a change that has its shape has no fault of it
shaped_faultless : (c : Change) (f : BuildFault) → IsShaped c → AreScalars c → IsBuildFault [] c f → ⊥
shaped_faultless c f shaped scalar h = built_faultless [] c f (record { few_parents = omega arith; shaped = shaped; scalar = scalar }) h

pub one_unwritten : (limits : Room) (r : ReplicaView) (c : Change) (f g : WriteFault) → AreScalars c → f ≢ writes.Memory → g ≢ writes.Memory → IsWriteFault limits r c f → IsWriteFault limits r c g → f ≡ g
one_unwritten limits r c (writes.Shape x) (writes.Shape y) scalar nf ng h k = ap writes.Shape (fault_one [] c x y h k)
one_unwritten limits r c (writes.Shape x) (writes.OutOfRange q m) scalar nf ng h k = absurd (shaped_faultless c x k.0 scalar h)
one_unwritten limits r c (writes.Shape x) writes.NumbersSpent scalar nf ng h k = absurd (shaped_faultless c x k.0.0 scalar h)
one_unwritten limits r c (writes.Shape x) (writes.Full w l) scalar nf ng h k = absurd (shaped_faultless c x k.0.0 scalar h)
one_unwritten limits r c (writes.Shape x) writes.Memory scalar nf ng h k = absurd (ng refl)
one_unwritten limits r c (writes.OutOfRange p n) (writes.Shape y) scalar nf ng h k = absurd (shaped_faultless c y h.0 scalar k)
one_unwritten limits r c (writes.OutOfRange p n) (writes.OutOfRange q m) scalar nf ng h k =
    let found : Some p ≡ Some q = sym h.1 ∙ k.1 in
    let e : p ≡ q = cc in
    let s : n ≡ m = h.2 ∙ sym k.2 in
    λ i. writes.OutOfRange (e i) (s i)
one_unwritten limits r c (writes.OutOfRange p n) writes.NumbersSpent scalar nf ng h k = absurd (past_not_spliced (text_of (all_of r)) c p h.1 k.0.1)
one_unwritten limits r c (writes.OutOfRange p n) (writes.Full w l) scalar nf ng h k = absurd (past_not_spliced (text_of (all_of r)) c p h.1 k.0.1)
one_unwritten limits r c (writes.OutOfRange p n) writes.Memory scalar nf ng h k = absurd (ng refl)
one_unwritten limits r c writes.NumbersSpent (writes.Shape y) scalar nf ng h k = absurd (shaped_faultless c y h.0.0 scalar k)
one_unwritten limits r c writes.NumbersSpent (writes.OutOfRange q m) scalar nf ng h k = absurd (past_not_spliced (text_of (all_of r)) c q k.1 h.0.1)
one_unwritten limits r c writes.NumbersSpent writes.NumbersSpent scalar nf ng h k = refl
one_unwritten limits r c writes.NumbersSpent (writes.Full w l) scalar nf ng h k = absurd (let a = h.1 in let b = k.1 in omega (arith, a, b))
one_unwritten limits r c writes.NumbersSpent writes.Memory scalar nf ng h k = absurd (ng refl)
one_unwritten limits r c (writes.Full w l) (writes.Shape y) scalar nf ng h k = absurd (shaped_faultless c y h.0.0 scalar k)
one_unwritten limits r c (writes.Full w l) (writes.OutOfRange q m) scalar nf ng h k = absurd (past_not_spliced (text_of (all_of r)) c q k.1 h.0.1)
one_unwritten limits r c (writes.Full w l) writes.NumbersSpent scalar nf ng h k = absurd (let a = h.1 in let b = k.1 in omega (arith, a, b))
one_unwritten limits r c (writes.Full w l) (writes.Full v m) scalar nf ng h k =
    let same : w ≡ v = one_over (write_needs r c) (room_of limits (all_of r)) w v h.2.0 h.2.1 k.2.0 k.2.1 h.2.2 k.2.2 in
    let s : l ≡ m = h.3 ∙ ap (limit_of limits) same ∙ sym k.3 in
    λ i. writes.Full (same i) (s i)
one_unwritten limits r c (writes.Full w l) writes.Memory scalar nf ng h k = absurd (ng refl)
one_unwritten limits r c writes.Memory g scalar nf ng h k = absurd (nf refl)

not_full : (need room : Room) (o : Option Accept) → IsOverAnswer need room o → not (is_some o) ≡ true → HasRoom need room
not_full need room None h e = h
not_full need room (Some a) h e = cc

pub written_faultless : (limits : Room) (r : ReplicaView) (c : Change) (f : WriteFault) → is_written limits r c ≡ true → f ≢ writes.Memory → IsWriteFault limits r c f → ⊥
written_faultless limits r c f due nf h = go f nf h
  where
    s : Bool
    s = is_some (spliced (text_of (all_of r)) c)

    n : Bool
    n = nat_lt (last_number r) (2 ^ 64)

    room : Bool
    room = not (is_some (first_full (write_needs r c) (room_of limits (all_of r))))

    first : (is_change c ≡ true) × ((s && (n && room)) ≡ true)
    first = and_cases (is_change c) (s && (n && room)) due

    second : (s ≡ true) × ((n && room) ≡ true)
    second = and_cases s (n && room) first.1

    third : (n ≡ true) × (room ≡ true)
    third = and_cases n room second.1

    fits : last_number r < 2 ^ 64
    fits = lt_from (last_number r) (2 ^ 64) third.0

    has : HasRoom (write_needs r c) (room_of limits (all_of r))
    has = not_full (write_needs r c) (room_of limits (all_of r)) (first_full (write_needs r c) (room_of limits (all_of r))) (over_is (write_needs r c) (room_of limits (all_of r))) third.1

    go : (f : WriteFault) → f ≢ writes.Memory → IsWriteFault limits r c f → ⊥
    go (writes.Shape x) o k = built_faultless [] c x (built_from [] c (omega arith) first.0) k
    go (writes.OutOfRange p l) o k = past_not_spliced (text_of (all_of r)) c p k.1 second.0
    go writes.NumbersSpent o k = let a = k.1 in let b = fits in omega (arith, a, b)
    go (writes.Full w l) o k = not_over (write_needs r c) (room_of limits (all_of r)) w k.2.0 k.2.1 has k.2.2
    go writes.Memory o k = o refl

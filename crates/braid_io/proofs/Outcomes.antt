-- A call of a form in memory has one outcome.
use Rattle.std.proofs.Common.{◌≡◌, ℕ, List, [], refl, ap, sym, ◌∙◌, length, min, inl, inr, arith}
use Rattle.braid_io.specs.declared.source.Read.{Read}
use Rattle.braid_io.specs.declared.source.Read.TheVariants.{Got, End, Failed}
use Rattle.braid_io.specs.declared.sink.Wrote.{Wrote}
use Rattle.braid_io.specs.declared.sink.Wrote.TheVariants.{Took, Failed as NotTaken}
use Rattle.braid_io.specs.InMemory.{MemIntake, MemOutflow, MemReads, MemWrites, Gives, PureIntake, PureReads, GivesFront}

-- where a piece is given, something is left
not_ended : (n : ℕ) (buf : List ℕ) (old new : MemIntake) → Gives n buf old new → old.left ≡ [] → ⊥
not_ended n buf old new g e =
    let none : length old.left ≡ 0 = ap length e in
    let some = g.some in
    omega arith

-- the state after a read of n bytes
same_given : (n m : ℕ) (buf other : List ℕ) (old new later : MemIntake) → length buf ≡ length other → Gives n buf old new → Gives m other old later → (Got n ≡ Got m) × (new ≡ later)
same_given n m buf other old new later l g h =
    let counts : n ≡ m = g.count ∙ ap (min (min old.piece (length old.left))) l ∙ sym h.count in
    (ap Got counts, g.moved ∙ rw counts (sym h.moved))

pub read_once : (old new later : MemIntake) (first second : Read) (buf other : List ℕ) → length buf ≡ length other → MemReads first buf old new → MemReads second other old later → (first ≡ second) × (new ≡ later)
read_once old new later Failed Failed buf other l a b = (refl, a.1 ∙ sym b.1)
read_once old new later Failed End buf other l a b = absurd (b.0 a.0)
read_once old new later Failed (Got m) buf other l a b = absurd (b.0 a.0)
read_once old new later End Failed buf other l a b = absurd (a.0 b.0)
read_once old new later End End buf other l a b = (refl, a.2 ∙ sym b.2)
read_once old new later End (Got m) buf other l a b = absurd (not_ended _ _ _ _ b.1 a.1)
read_once old new later (Got n) Failed buf other l a b = absurd (a.0 b.0)
read_once old new later (Got n) End buf other l a b = absurd (not_ended _ _ _ _ a.1 b.1)
read_once old new later (Got n) (Got m) buf other l a b = same_given n m buf other old new later l a.1 b.1

-- the same of a source that never fails
pure_not_ended : (n : ℕ) (buf : List ℕ) (old new : PureIntake) → GivesFront n buf old new → old.left ≡ [] → ⊥
pure_not_ended n buf old new g e =
    let none : length old.left ≡ 0 = ap length e in
    let some = g.some in
    omega arith

pub pure_read_once : (old new later : PureIntake) (first second : Read) (buf other : List ℕ) → length buf ≡ length other → PureReads first buf old new → PureReads second other old later → (first ≡ second) × (new ≡ later)
pure_read_once old new later Failed second buf other l a b = absurd a
pure_read_once old new later End Failed buf other l a b = absurd b
pure_read_once old new later End End buf other l a b = (refl, a.1 ∙ sym b.1)
pure_read_once old new later End (Got m) buf other l a b = absurd (pure_not_ended _ _ _ _ b a.0)
pure_read_once old new later (Got n) Failed buf other l a b = absurd b
pure_read_once old new later (Got n) End buf other l a b = absurd (pure_not_ended _ _ _ _ a b.0)
pure_read_once old new later (Got n) (Got m) buf other l a b =
    let counts : n ≡ m = a.count ∙ ap (min (length old.left)) l ∙ sym b.count in
    (ap Got counts, a.moved ∙ rw counts (sym b.moved))

-- where a piece is taken, the write is not due to fail and there is room
not_refused : (n : ℕ) (piece : List ℕ) (old new later : MemOutflow) → MemWrites (Took n) piece old new → MemWrites NotTaken piece old later → ⊥
not_refused n piece old new later a b =
    let some = a.1.some in
    elim b.0 [ inl due ↦ a.0 due | inr none ↦ omega arith ]

pub write_once : (old new later : MemOutflow) (first second : Wrote) (piece : List ℕ) → MemWrites first piece old new → MemWrites second piece old later → (first ≡ second) × (new ≡ later)
write_once old new later NotTaken NotTaken piece a b = (refl, a.1 ∙ sym b.1)
write_once old new later NotTaken (Took m) piece a b = absurd (not_refused m piece old later new b a)
write_once old new later (Took n) NotTaken piece a b = absurd (not_refused n piece old new later a b)
write_once old new later (Took n) (Took m) piece a b =
    let counts : n ≡ m = a.1.count ∙ sym b.1.count in
    (ap Took counts, a.1.moved ∙ rw counts (sym b.1.moved))

-- One read of a source in memory, and of one that never fails, in the words of every source.
use Rattle.std.proofs.Common.{◌≡◌, ℕ, ◌+◌, ◌<◌, List, ◌++◌, Some, refl, ap, sym, ◌∙◌, length, take, drop, min, arith}
use Rattle.std.proofs.lemmas.List.{take-append-drop, drop-drop}
use Rattle.std.proofs.Math.Seq.{take-add}
use Rattle.braid_io.specs.declared.source.Read.TheVariants.{Got}
use Rattle.braid_io.specs.Outside.{Reads, next_count}
use Rattle.braid_io.specs.InMemory.{MemIntake, Gives, intake_of, PureIntake, GivesFront, pure_intake}

-- a piece that is given moves, and is at least a byte
pub gives_reads : (n : ℕ) (buf : List ℕ) (old new : MemIntake) → 0 < old.piece → 0 < length buf → Gives n buf old new → Reads (Got n) buf (intake_of old) (intake_of new)
gives_reads n buf old new piece room g =
    let count = g.count in
    let some = g.some in (
      omega arith,
      omega arith,
      record {
        taken = ap Some (ap (λ (s : MemIntake). s.taken) g.moved ∙ ap (λ xs. old.taken ++ xs) (sym g.bytes));
        left = ap Some (sym (take-append-drop n old.left) ∙ ap (λ xs. xs ++ drop n old.left) (sym g.bytes) ∙ ap (λ (s : MemIntake). take n buf ++ s.left) (sym g.moved));
        faults = ap (λ (s : MemIntake). s.faults) g.moved;
      },
    )

-- a read of n bytes at a place in a list gives a piece
pub gives_front : (bytes rest buf : List ℕ) (at n : ℕ) (old new : MemIntake) → rest ≡ drop at bytes → 0 < length rest → n ≡ min (min old.piece (length rest)) (length buf) → take n buf ≡ take n rest
    → old.taken ≡ take at bytes → old.left ≡ drop at bytes → new ≡ record old { taken = take (at + n) bytes; left = drop (at + n) bytes; calls = next_count old.calls } → Gives n buf old new
gives_front bytes rest buf at n old new r some count given t l moved =
    let is_left : rest ≡ old.left = r ∙ sym l in
    let grown : take (at + n) bytes ≡ old.taken ++ take n old.left = rw (t, l) (take-add at n bytes) in
    let fallen : drop (at + n) bytes ≡ drop n old.left = rw l (sym (drop-drop n at bytes)) in
    record {
      some = rw (← is_left) some;
      count = rw (← is_left) count;
      bytes = rw (← is_left) given;
      moved = moved ∙ ap (λ xs. record old { taken = xs; left = drop (at + n) bytes; calls = next_count old.calls }) grown ∙ ap (λ xs. record old { taken = old.taken ++ take n old.left; left = xs; calls = next_count old.calls }) fallen;
    }

-- the same of a source that never fails
pub front_reads : (n : ℕ) (buf : List ℕ) (old new : PureIntake) → 0 < length buf → GivesFront n buf old new → Reads (Got n) buf (pure_intake old) (pure_intake new)
front_reads n buf old new room g =
    let count = g.count in
    let some = g.some in (
      omega arith,
      omega arith,
      record {
        taken = ap Some (ap (λ (s : PureIntake). s.taken) g.moved ∙ ap (λ xs. old.taken ++ xs) (sym g.bytes));
        left = ap Some (sym (take-append-drop n old.left) ∙ ap (λ xs. xs ++ drop n old.left) (sym g.bytes) ∙ ap (λ (s : PureIntake). take n buf ++ s.left) (sym g.moved));
        faults = refl;
      },
    )

pub front_given : (bytes rest buf : List ℕ) (at n : ℕ) (old new : PureIntake) → rest ≡ drop at bytes → 0 < length rest → n ≡ min (min (length rest) (length rest)) (length buf) → take n buf ≡ take n rest
    → old.taken ≡ take at bytes → old.left ≡ drop at bytes → new ≡ record { taken = take (at + n) bytes; left = drop (at + n) bytes } → GivesFront n buf old new
front_given bytes rest buf at n old new r some count given t l moved =
    let is_left : rest ≡ old.left = r ∙ sym l in
    let once : n ≡ min (length rest) (length buf) = omega arith in
    let grown : take (at + n) bytes ≡ old.taken ++ take n old.left = rw (t, l) (take-add at n bytes) in
    let fallen : drop (at + n) bytes ≡ drop n old.left = rw l (sym (drop-drop n at bytes)) in
    record {
      some = rw (← is_left) some;
      count = rw (← is_left) once;
      bytes = rw (← is_left) given;
      moved = moved ∙ ap (λ xs. record { taken = xs; left = drop (at + n) bytes }) grown ∙ ap (λ xs. record { taken = old.taken ++ take n old.left; left = xs }) fallen;
    }

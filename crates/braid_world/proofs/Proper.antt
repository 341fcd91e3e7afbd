-- An update that the program can hold passes the test.
use Rattle.std.proofs.Common.{◌≡◌, ℕ, ◌<◌, List, [], ◌∷◌, true, ◌&&◌, nat_le, nat_lt, refl, ap, arith, length, suc, get_or}
use Rattle.std.specs.List.Sorted.{IsStrictlySortedBy}
use Rattle.std.specs.Ordering.{is_lt}
use Rattle.braid_ids.specs.Identifiers.{IsIdentifier, IsPrintable, id_cmp}
use Rattle.braid_ids.specs.Frontiers.{IsRising}
use Rattle.braid_change.specs.Updates.{UpdateView, IsUpdate}
use Rattle.braid_text.proofs.Same.{and_true}
use Rattle.braid_outbox.specs.Shapes.{is_change, are_printable, is_identifier, is_rising, is_update}
use Rattle.braid_outbox.proofs.Shapes.{le_to, lt_to, shaped_to}

printable_to : (bs : List ℕ) → ((k : ℕ) → k < length bs → IsPrintable (get_or bs k 0)) → are_printable bs ≡ true
printable_to [] h = refl
printable_to (b ∷ bs) h = let p = h 0 (omega arith) in
    and_true (nat_le 0x20 b) (nat_le b 0x7e && are_printable bs) (le_to 0x20 b p.0) (and_true (nat_le b 0x7e) (are_printable bs) (le_to b 0x7e p.1) (printable_to bs (λ k l. h (suc k) (omega (arith, l)))))

identifier_to : (v : List ℕ) → IsIdentifier v → is_identifier v ≡ true
identifier_to v is = and_true (nat_lt 0 (length v)) (nat_le (length v) 128 && are_printable v) (lt_to 0 (length v) is.some) (and_true (nat_le (length v) 128) (are_printable v) (le_to (length v) 128 is.short) (printable_to v is.printable))

rising_to : (vs : List (List ℕ)) → IsRising vs → is_rising vs ≡ true
unfolding IsStrictlySortedBy
rising_to [] h = refl
rising_to (v ∷ []) h = refl
rising_to (v ∷ w ∷ ws) h = and_true (is_lt (id_cmp v w)) (is_rising (w ∷ ws)) (ap is_lt h.0.0) (rising_to (w ∷ ws) h.1)

pub update_to : (u : UpdateView) → IsUpdate u → is_update u ≡ true
update_to u is = and_true (is_identifier u.id) (is_rising u.parents && (nat_le (length u.parents) 32 && is_change u.change)) (identifier_to u.id is.identifier)
    (and_true (is_rising u.parents) (nat_le (length u.parents) 32 && is_change u.change) (rising_to u.parents is.rising)
    (and_true (nat_le (length u.parents) 32) (is_change u.change) (le_to (length u.parents) 32 is.built.few_parents) (shaped_to u.change is.built.shaped is.built.scalar)))

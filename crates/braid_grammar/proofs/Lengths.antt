-- How long canonical lines are at most.
use Rattle.std.proofs.Common.{ℕ, ◌+◌, ◌*◌, ◌<◌, ◌≤◌, ◌^◌, List, [], ◌∷◌, length, flat_map, codes, decimal, eqb, arith, ◌||◌, length-append, inl, inr}
use Rattle.std.proofs.lemmas.Bool.{cases_Bool}
use Rattle.std.proofs.lemmas.Fmt.{length-decimal-le}
use Rattle.std.specs.List.{AllByRecursion}
use Rattle.braid_ids.specs.Identifiers.{IsIdentifier, escaped, spelled_id, spelled_ids}
use Rattle.braid_change.specs.Spellings.{list_text}

escaped_len : (byte : ℕ) → length (escaped byte) ≤ 2
escaped_len byte = elim (cases_Bool (eqb byte 34 || eqb byte 92)) [ inl e ↦ rw e (omega arith) | inr e ↦ rw e (omega arith) ]

escaped_all_len : (bytes : List ℕ) → length (flat_map escaped bytes) ≤ 2 * length bytes
escaped_all_len [] = omega arith
escaped_all_len (x ∷ bytes) = omega (arith, length-append (escaped x) (flat_map escaped bytes), escaped_len x, escaped_all_len bytes)

pub spelled_len : (id : List ℕ) → IsIdentifier id → length (spelled_id id) ≤ 258
spelled_len id h = omega (arith, length-append (34 ∷ flat_map escaped id) (34 ∷ []), escaped_all_len id, h.short)

others_len : (ids : List (List ℕ)) → AllByRecursion IsIdentifier ids → length (flat_map (λ other. 44 ∷ 32 ∷ spelled_id other) ids) ≤ 260 * length ids
others_len [] h = omega arith
others_len (id ∷ ids) h =
    omega (arith, length-append (44 ∷ 32 ∷ spelled_id id) (flat_map (λ other. 44 ∷ 32 ∷ spelled_id other) ids), spelled_len id h.0, others_len ids h.1)

pub parents_len : (ids : List (List ℕ)) → AllByRecursion IsIdentifier ids → length (list_text ids) ≤ 1 + 260 * length ids
parents_len [] h = omega arith
parents_len (id ∷ ids) h =
    omega (arith, length-append (codes " ") (spelled_ids (id ∷ ids)), length-append (spelled_id id) (flat_map (λ other. 44 ∷ 32 ∷ spelled_id other) ids), spelled_len id h.0, others_len ids h.1)

pub number_len : (n : ℕ) → n < 2 ^ 32 → length (decimal n) ≤ 10
number_len n h = length-decimal-le 10 n (omega arith) (omega arith) (omega arith)

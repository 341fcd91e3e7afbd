-- A map of fields grows by at most one name and by one value.
use Rattle.std.proofs.Common.{◌≡◌, ℕ, List, [], ◌∷◌, ◌++◌, bytes_eq, refl, inl, inr, ◌+◌, ◌≤◌, length, arith}
use Rattle.std.proofs.lemmas.List.{length_push}
use Rattle.std.proofs.lemmas.List.Sums.{sum_by-cons}
use Rattle.std.proofs.lemmas.Bool.{cases_Bool}
use Rattle.http_header.specs.HeaderMap.{Entries, append, value_count}
use Rattle.http_header.specs.FieldValue.{FieldValue}

-- one more value under a name
pub count_append : (m : Entries FieldValue) (name : List ℕ) (v : FieldValue) → value_count (append m name v) ≡ value_count m + 1
count_append [] name v = refl
count_append (e ∷ m) name v =
    elim (cases_Bool (bytes_eq e.0 name)) [
      | inl t ↦ rw t (omega (arith, sum_by-cons (λ (x : List ℕ × List FieldValue). length x.1) e m, sum_by-cons (λ (x : List ℕ × List FieldValue). length x.1) (e.0, e.1 ++ v ∷ []) m, length_push e.1 v))
      | inr f ↦ rw f (omega (arith, count_append m name v, sum_by-cons (λ (x : List ℕ × List FieldValue). length x.1) e m, sum_by-cons (λ (x : List ℕ × List FieldValue). length x.1) e (append m name v)))
    ]

pub length_append_le : (m : Entries FieldValue) (name : List ℕ) (v : FieldValue) → length (append m name v) ≤ length m + 1
length_append_le [] name v = omega arith
length_append_le (e ∷ m) name v =
    elim (cases_Bool (bytes_eq e.0 name)) [
      | inl t ↦ rw t (omega arith)
      | inr f ↦ rw f (omega (arith, length_append_le m name v))
    ]

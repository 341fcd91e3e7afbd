-- The identifiers of an agent's versions.
use Rattle.std.proofs.Common.{◌≡◌, ℕ, ◌-◌, ◌<◌, ◌≤◌, ◌^◌, inl, inr, List, [], ◌∷◌, ◌++◌, refl, ap, sym, ◌∙◌, length, get_or, zero, suc, decimal, arith, length-append, append_assoc}
use Rattle.std.proofs.lemmas.Bool.{cases_lt}
use Rattle.std.proofs.lemmas.Fmt.{length-decimal-le, digits_decimal, decimal_injective}
use Rattle.std.proofs.lemmas.List.{append_cancel_left, get_or_append_left, get_or-append_right}
use Rattle.std.proofs.lemmas.Str.Parse.{IsNumeralModel, numerals_by_value, tells_digits, digit_at}
use Rattle.std.specs.Str.Parse.{AllDigits, digits_value}
use Rattle.braid_ids.specs.Agents.{IsAgent, agent_name}
use Rattle.braid_ids.specs.Identifiers.{IsIdentifier, IsPrintable}
use Rattle.braid_ids.specs.Lists.{Lacks}
use Rattle.braid_ids.proofs.Splits.{lacks_at, one_split}

own : IsNumeralModel (AllDigits 10) (digits_value 10)
own = numerals_by_value _ tells_digits

-- each byte of the list is printable
record AllPrintable (bytes : List ℕ) : Type 0 where
  each : (k : ℕ) → k < length bytes → IsPrintable (get_or bytes k 0)

printable_agent : (agent : List ℕ) → IsAgent agent → AllPrintable agent
printable_agent agent a = record { each = λ k l. elim (a.letters k l) [ inl s ↦ (omega arith, omega arith) | inr d ↦ (omega arith, omega arith) ] }

printable_decimal : (n : ℕ) → n < 2 ^ 64 → AllPrintable (decimal n)
printable_decimal n small = record { each = λ k l. let r = digit_at (decimal n) k (digits_decimal own n small) l in (omega (arith, r.0), omega (arith, r.1)) }

printable_cons : (byte : ℕ) (bytes : List ℕ) → IsPrintable byte → AllPrintable bytes → AllPrintable (byte ∷ bytes)
printable_cons byte bytes p a = record { each = go }
  where
    go : (k : ℕ) → k < length (byte ∷ bytes) → IsPrintable (get_or (byte ∷ bytes) k 0)
    go zero l = p
    go (suc k) l = a.each k (omega arith)

printable_append : (xs ys : List ℕ) → AllPrintable xs → AllPrintable ys → AllPrintable (xs ++ ys)
printable_append xs ys a b =
    record {
      each = λ k l. elim (cases_lt k (length xs)) [
        | inl m ↦ rw (get_or_append_left xs ys 0 k m) (a.each k m)
        | inr m ↦ rw (get_or-append_right xs ys (length xs) k 0 refl m) (b.each (k - length xs) (omega (arith, l, length-append xs ys)))
      ];
    }

pub named_identifier : (agent : List ℕ) (k : ℕ) → IsAgent agent → k < 2 ^ 64 → IsIdentifier (agent_name agent k)
named_identifier agent k a small =
    let digits : length (decimal k) ≤ 20 = length-decimal-le 20 k (omega arith) (omega arith) small in
    record {
      some = omega (arith, length-append agent (45 ∷ decimal k));
      short = omega (arith, a.short, digits, length-append agent (45 ∷ decimal k));
      printable = (printable_append agent (45 ∷ decimal k) (printable_agent agent a) (printable_cons 45 (decimal k) (omega arith, omega arith) (printable_decimal k small))).each;
    }

-- what follows the agent's bytes in an identifier
pub same_rest : (agent id front bytes rest tail : List ℕ) → front ≡ agent → bytes ≡ id → bytes ≡ front ++ rest → id ≡ agent ++ tail → rest ≡ tail
same_rest agent id front bytes rest tail f b e i = append_cancel_left agent rest tail (ap (λ (z : List ℕ). z ++ rest) (sym f) ∙ sym e ∙ b ∙ i)

-- what follows the dash
pub same_digits : (rest digits tail : List ℕ) → rest ≡ 45 ∷ digits → rest ≡ 45 ∷ tail → digits ≡ tail
same_digits rest digits tail r e = cc

-- zero is no version's number
pub no_zero : (n k : ℕ) (digits : List ℕ) → n ≡ 0 → 1 ≤ k → n < 2 ^ 64 → k < 2 ^ 64 → digits ≡ decimal n → digits ≡ decimal k → ⊥
no_zero n k digits z low m small d e = let s = decimal_injective n k m small (sym d ∙ e) in omega (arith, s)

no_dash : (agent : List ℕ) → IsAgent agent → Lacks 45 agent
no_dash agent a = lacks_at 45 agent (λ i l e. elim (a.letters i l) [ inl s ↦ omega (arith, e) | inr d ↦ omega (arith, e) ])

pub author_same : (a b : List ℕ) (j k : ℕ) → IsAgent a → IsAgent b → j < 2 ^ 64 → k < 2 ^ 64 → agent_name a j ≡ agent_name b k → (a ≡ b) × (j ≡ k)
author_same a b j k p q m n e =
    let parts = one_split 45 a (decimal j) b (decimal k) (no_dash a p) (no_dash b q) e in
    (parts.0, decimal_injective j k m n parts.1)

-- the agent's bytes, a dash and the digits, put together one after the other
pub name_is : (agent given first second digits text all : List ℕ) (k : ℕ) → given ≡ agent → first ≡ given → second ≡ first ++ 45 ∷ [] → digits ≡ text → text ≡ decimal k → all ≡ second ++ digits → all ≡ agent_name agent k
name_is agent given first second digits text all k g f s d t a = let grouped = append_assoc agent (45 ∷ []) (decimal k) in cc

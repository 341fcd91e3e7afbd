-- Gaps, and what begins with no empty line.
use Rattle.std.proofs.Common.{◌≡◌, ℕ, ◌+◌, ◌≤◌, true, List, [], ◌∷◌, ◌++◌, length, refl, sym, ap, ◌∙◌, eqb, arith, length-append, inl, inr}
use Rattle.std.proofs.lemmas.Bool.{cases_Bool}
use Rattle.braid_fields.specs.Lines.{is_empty_line}
use Rattle.braid_grammar.specs.Outcomes.{Outcome, past_gap}
use Rattle.braid_grammar.specs.Streams.{BeginsNoEmptyLine}
use Rattle.braid_grammar.specs.Readers.{IsBehindGap}
use Rattle.braid_grammar.proofs.Spelled.{gap_reads, empty_reads}
use Rattle.braid_grammar.proofs.Back.{Past, gap_back}
use Rattle.braid_grammar.proofs.Law.{rest_of, whole_same}

-- bytes that begin with no empty line are read where they begin
pub none_reads : {A : Type 0} (f : ℕ → List ℕ → Outcome A) (at : ℕ) (rest : List ℕ) → BeginsNoEmptyLine rest → past_gap f at rest ≡ f at rest
none_reads f at [] h = refl
none_reads f at (b ∷ []) h = elim (cases_Bool (eqb b 10)) [
  | inl e ↦ absurd (h (b ∷ []) [] e refl)
  | inr e ↦ rw e refl
]
none_reads f at (b ∷ c ∷ bs) h = elim (cases_Bool (eqb b 10)) [
  | inl e ↦ absurd (h (b ∷ []) (c ∷ bs) e refl)
  | inr e ↦ elim (cases_Bool (eqb b 13)) [
    | inl d ↦ elim (cases_Bool (eqb c 10)) [
      | inl g ↦ absurd (h (b ∷ c ∷ []) bs (rw d g) refl)
      | inr g ↦ rw (e, d, g) refl
    ]
    | inr d ↦ rw (e, d) refl
  ]
]

-- a gap is passed over up to where no empty line follows
pub gap_passed : {A : Type 0} (f : ℕ → List ℕ → Outcome A) (at : ℕ) (bytes rest : List ℕ) → (k : IsBehindGap bytes rest) → past_gap f at bytes ≡ f (at + length k.gap) rest
gap_passed f at bytes rest k = ap (past_gap f at) k.spelled ∙ gap_reads f at k.gap rest k.is_gap ∙ none_reads f (at + length k.gap) rest k.stops

empty_some : (line : List ℕ) → is_empty_line line ≡ true → 1 ≤ length line
empty_some [] e = absurd (cc)
empty_some (x ∷ line) e = omega arith

-- bytes are a gap, and what begins with no empty line
pub gap_before : (bytes : List ℕ) → (rest : List ℕ) × IsBehindGap bytes rest
gap_before bytes = (p.first, record { gap = p.gap; is_gap = p.is_gap; stops = stops; spelled = p.spelled })
  where
    p : Past rest_of 0 bytes
    p = gap_back rest_of 0 bytes

    stops : BeginsNoEmptyLine p.first
    stops line more i e =
        let q = gap_back rest_of (0 + length p.gap + length line) more in
        let w : past_gap rest_of 0 bytes ≡ rest_of (0 + length p.gap + length line + length q.gap) q.first =
        ap (past_gap rest_of 0) (p.spelled ∙ ap (λ t. p.gap ++ t) e) ∙ gap_reads rest_of 0 p.gap (line ++ more) p.is_gap ∙ empty_reads rest_of (0 + length p.gap) line more i ∙ q.reads in
        let same : p.first ≡ q.first = whole_same p.first q.first _ _ (sym p.reads ∙ w) in
        omega (arith, empty_some line i, ap length same, ap length e, length-append line more, ap length q.spelled, length-append q.gap q.first)

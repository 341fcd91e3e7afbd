-- What is read stays when the bytes go on.
use Rattle.std.proofs.Common.{◌≡◌, ℕ, zero, suc, ◌+◌, ◌≤◌, ◌-◌, Bool, true, false, List, [], ◌∷◌, ◌++◌, length, take, drop, refl, sym, ap, ◌∙◌, eqb, ltb, cond, arith, length-append, inl, inr, ◌⊎◌, Option, Some, None, Result, Ok, Err}
use Rattle.std.proofs.lemmas.Bool.{cases_Bool, eqb-true, ltb-false, le-ltb}
use Rattle.std.proofs.lemmas.List.{take-append-le, drop-append-le, length-take}
use Rattle.std.specs.Str.{chars, is_utf8}
use Rattle.braid_fields.specs.declared.reason.Reason.{Reason}
use Rattle.braid_fields.specs.declared.reason.Reason.TheVariants.{BadLine, BadStatus, NotText}
use Rattle.braid_fields.specs.Lines.{is_empty_line}
use Rattle.braid_fields.specs.Fields.{Field, field_of}
use Rattle.braid_fields.specs.Statuses.{is_status, is_good_status}
use Rattle.braid_grammar.specs.Lines.{lines_from, lines_of, begun_from, join}
use Rattle.braid_grammar.specs.Heads.{Verdict, Open, Wrong, Closed, behind, with_field, fields_of, some_fields_of, head_of}
use Rattle.braid_grammar.specs.Outcomes.{Outcome, Part, Bad, Whole, then_read, head_limit, settle, head_at, content_at, past_gap, or_bad}
use Rattle.braid_grammar.proofs.Cut.{chosen, lines_more, lines_join}

-- the second outcome is what the first one is when m follows
abbrev pub Extends : {A : Type 0} → Outcome A → Outcome A → List ℕ → Type 0
Extends Part o m = Unit {0}
Extends (Bad at r) o m = o ≡ Bad at r
Extends (Whole x at rest) o m = o ≡ Whole x at (rest ++ m)

abbrev pub IsStable : {A : Type 0} → (ℕ → List ℕ → Outcome A) → Type 0
IsStable f = (at : ℕ) (b m : List ℕ) → Extends (f at b) (f at (b ++ m)) m

pub same_extends : {A : Type 0} (o o' p p' : Outcome A) (m : List ℕ) → o ≡ p → o' ≡ p' → Extends p p' m → Extends o o' m
same_extends o o' p p' m e e' h = rw (e, e') h

pub then_extends : {A B : Type 0} (o o' : Outcome A) (g : A → ℕ → List ℕ → Outcome B) (m : List ℕ) → Extends o o' m → ((x : A) (at : ℕ) (rest : List ℕ) → Extends (g x at rest) (g x at (rest ++ m)) m) → Extends (then_read o g) (then_read o' g) m
then_extends Part o' g m h k = tt
then_extends (Bad at r) o' g m h k = rw h refl
then_extends (Whole x at rest) o' g m h k = rw h (k x at rest)

pub or_extends : {A B : Type 0} (at : ℕ) (r : Result A Reason) (f g : A → Outcome B) (m : List ℕ) → ((x : A) → Extends (f x) (g x) m) → Extends (or_bad at r f) (or_bad at r g) m
or_extends at (Ok x) f g m h = h x
or_extends at (Err r) f g m h = refl

-- the verdict on lines: more lines change nothing once it is there
pub record IsJudge (judge : List (List ℕ) → Verdict) : Type 0 where
  pub none : judge [] ≡ Open
  pub grows : (ls ms : List (List ℕ)) → (judge ls ≡ Open) ⊎ (judge (ls ++ ms) ≡ judge ls)
  pub within : (ls : List (List ℕ)) (fs : List Field) (n : ℕ) → judge ls ≡ Closed fs n → n ≤ length (join ls)

behind_grows : (n : ℕ) (gs : List Field) (v w : Verdict) → (v ≡ Open) ⊎ (w ≡ v) → (behind n gs v ≡ Open) ⊎ (behind n gs w ≡ behind n gs v)
behind_grows n gs v w h = elim h [ inl e ↦ inl (ap (behind n gs) e) | inr e ↦ inr (ap (behind n gs) e) ]

field_grows : (o : Option Field) (n : ℕ) (v w : Verdict) → (v ≡ Open) ⊎ (w ≡ v) → (with_field o n v ≡ Open) ⊎ (with_field o n w ≡ with_field o n v)
field_grows None n v w h = inr refl
field_grows (Some f) n v w h = behind_grows n (f ∷ []) v w h

cond_grows : (b : Bool) (x x' y y' : Verdict) → (x ≡ Open) ⊎ (x' ≡ x) → (y ≡ Open) ⊎ (y' ≡ y) → (cond b x y ≡ Open) ⊎ (cond b x' y' ≡ cond b x y)
cond_grows true x x' y y' h k = h
cond_grows false x x' y y' h k = k

pub fields_grow : (ls ms : List (List ℕ)) → (fields_of ls ≡ Open) ⊎ (fields_of (ls ++ ms) ≡ fields_of ls)
fields_grow [] ms = inl refl
fields_grow (l ∷ ls) ms = cond_grows (is_empty_line l) _ _ _ _ (inr refl) (field_grows (field_of l) (length l) (fields_of ls) (fields_of (ls ++ ms)) (fields_grow ls ms))

some_fields_grow : (ls ms : List (List ℕ)) → (some_fields_of ls ≡ Open) ⊎ (some_fields_of (ls ++ ms) ≡ some_fields_of ls)
some_fields_grow [] ms = inl refl
some_fields_grow (l ∷ ls) ms = cond_grows (is_empty_line l) _ _ _ _ (inr refl) (field_grows (field_of l) (length l) (fields_of ls) (fields_of (ls ++ ms)) (fields_grow ls ms))

head_grows : (ls ms : List (List ℕ)) → (head_of ls ≡ Open) ⊎ (head_of (ls ++ ms) ≡ head_of ls)
head_grows [] ms = inl refl
head_grows (l ∷ ls) ms =
    cond_grows (is_status l) _ _ _ _
    (cond_grows (is_good_status l) _ _ _ _ (behind_grows (length l) [] (some_fields_of ls) (some_fields_of (ls ++ ms)) (some_fields_grow ls ms)) (inr refl))
    (some_fields_grow (l ∷ ls) ms)

-- where a verdict with something before it is Closed
pub behind_closed : (n : ℕ) (gs : List Field) (v : Verdict) (fs : List Field) (k : ℕ) → behind n gs v ≡ Closed fs k → (hs : List Field) × (j : ℕ) × (v ≡ Closed hs j) × (fs ≡ gs ++ hs) × (k ≡ n + j)
behind_closed n gs Open fs k e = absurd (cc)
behind_closed n gs (Wrong j r) fs k e = absurd (cc)
behind_closed n gs (Closed hs j) fs k e = (hs, j, refl, cc, cc)

pub field_closed : (o : Option Field) (n : ℕ) (v : Verdict) (fs : List Field) (k : ℕ) → with_field o n v ≡ Closed fs k → (f : Field) × (hs : List Field) × (j : ℕ) × (o ≡ Some f) × (v ≡ Closed hs j) × (fs ≡ f ∷ hs) × (k ≡ n + j)
field_closed None n v fs k e = absurd (cc)
field_closed (Some f) n v fs k e = let p = behind_closed n (f ∷ []) v fs k e in (f, p.0, p.1, refl, p.2, p.3, p.4)

join_len : (l : List ℕ) (ls : List (List ℕ)) → length (join (l ∷ ls)) ≡ length l + length (join ls)
join_len l ls = length-append l (join ls)

pub fields_within : (ls : List (List ℕ)) (fs : List Field) (n : ℕ) → fields_of ls ≡ Closed fs n → n ≤ length (join ls)
fields_within [] fs n e = absurd (cc)
fields_within (l ∷ ls) fs n e = elim (chosen (is_empty_line l) (Closed [] (length l)) (with_field (field_of l) (length l) (fields_of ls))) [
  | inl c ↦ let k : n ≡ length l = cc in omega (arith, join_len l ls)
  | inr c ↦ let p = field_closed (field_of l) (length l) (fields_of ls) fs n (sym c.1 ∙ e) in omega (arith, join_len l ls, fields_within ls p.1 p.2 p.4, p.6)
]

some_fields_within : (ls : List (List ℕ)) (fs : List Field) (n : ℕ) → some_fields_of ls ≡ Closed fs n → n ≤ length (join ls)
some_fields_within [] fs n e = absurd (cc)
some_fields_within (l ∷ ls) fs n e = elim (chosen (is_empty_line l) (Wrong 0 BadLine) (with_field (field_of l) (length l) (fields_of ls))) [
  | inl c ↦ absurd (cc)
  | inr c ↦ let p = field_closed (field_of l) (length l) (fields_of ls) fs n (sym c.1 ∙ e) in omega (arith, join_len l ls, fields_within ls p.1 p.2 p.4, p.6)
]

head_within : (ls : List (List ℕ)) (fs : List Field) (n : ℕ) → head_of ls ≡ Closed fs n → n ≤ length (join ls)
head_within [] fs n e = absurd (cc)
head_within (l ∷ ls) fs n e = elim (chosen (is_status l) (cond (is_good_status l) (behind (length l) [] (some_fields_of ls)) (Wrong 0 BadStatus)) (some_fields_of (l ∷ ls))) [
  | inl c ↦ elim (chosen (is_good_status l) (behind (length l) [] (some_fields_of ls)) (Wrong 0 BadStatus)) [
    | inl d ↦ let p = behind_closed (length l) [] (some_fields_of ls) fs n (sym d.1 ∙ (sym c.1 ∙ e)) in omega (arith, join_len l ls, some_fields_within ls p.0 p.1 p.2, p.4)
    | inr d ↦ absurd (cc)
  ]
  | inr c ↦ some_fields_within (l ∷ ls) fs n (sym c.1 ∙ e)
]

pub judge_fields : IsJudge some_fields_of
judge_fields = record { none = refl; grows = some_fields_grow; within = some_fields_within }

pub judge_heads : IsJudge head_of
judge_heads = record { none = refl; grows = head_grows; within = head_within }

pub take_append : (k : ℕ) (b m : List ℕ) → take k (b ++ m) ≡ take k b ++ take (k - length b) m
take_append zero b m = let e : 0 - length b ≡ 0 = omega arith in rw e refl
take_append (suc k) [] m = let e : suc k - 0 ≡ suc k = omega arith in rw e refl
take_append (suc k) (x ∷ b) m = let e : suc k - suc (length b) ≡ k - length b = omega arith in rw e (ap (λ t. x ∷ t) (take_append k b m))

lines_within : (k : ℕ) (b : List ℕ) → length (join (lines_of (take k b))) ≤ length b
lines_within k b = omega (arith, ap length (lines_join [] (take k b)), length-append (join (lines_of (take k b))) (begun_from [] (take k b)), length-take k b)

module _ (judge : List (List ℕ) → Verdict) (j : IsJudge judge) where
  settle_same : (at : ℕ) (b m : List ℕ) (v : Verdict) → ((fs : List Field) (n : ℕ) → v ≡ Closed fs n → n ≤ length b) → Extends (settle at b v) (settle at (b ++ m) v) m
  settle_same at b m Open h = elim (cases_Bool (ltb (length b) head_limit)) [
    | inl e ↦ rw e tt
    | inr e ↦ let f : ltb (length (b ++ m)) head_limit ≡ false = le-ltb (length (b ++ m)) head_limit (omega (arith, ltb-false _ _ e, length-append b m)) in rw (e, f) refl
  ]
  settle_same at b m (Wrong k r) h = refl
  settle_same at b m (Closed fs n) h = ap (Whole fs (at + n)) (drop-append-le n b m (h fs n refl))

  pub head_stable : IsStable (head_at judge)
  head_stable at b m = elim (j.grows (lines_of (take head_limit b)) (lines_from (begun_from [] (take head_limit b)) (take (head_limit - length b) m))) [
    | inl e ↦ elim (cases_Bool (ltb (length b) head_limit)) [
      | inl c ↦ same_extends _ _ Part _ m (ap (settle at b) e ∙ rw c refl) refl tt
      | inr c ↦ let t : take head_limit (b ++ m) ≡ take head_limit b = take-append-le head_limit b m (ltb-false _ _ c) in
          same_extends _ _ _ (settle at (b ++ m) (judge (lines_of (take head_limit b)))) m refl (ap (λ x. settle at (b ++ m) (judge (lines_of x))) t) (settle_same at b m _ (bound b))
    ]
    | inr e ↦ same_extends _ _ _ (settle at (b ++ m) (judge (lines_of (take head_limit b)))) m refl
        (ap (λ x. settle at (b ++ m) (judge (lines_of x))) (take_append head_limit b m) ∙ ap (λ x. settle at (b ++ m) (judge x)) (lines_more [] (take head_limit b) (take (head_limit - length b) m)) ∙ ap (settle at (b ++ m)) e)
        (settle_same at b m _ (bound b))
  ]
    where
      bound : (b : List ℕ) (fs : List Field) (n : ℕ) → judge (lines_of (take head_limit b)) ≡ Closed fs n → n ≤ length b
      bound b fs n e = omega (arith, j.within _ fs n e, lines_within head_limit b)

pub content_stable : (n : ℕ) → IsStable (content_at n)
content_stable n at b m = elim (cases_Bool (ltb (length b) n)) [
  | inl e ↦ rw e tt
  | inr e ↦
      let l : n ≤ length b = ltb-false _ _ e in
      let f : ltb (length (b ++ m)) n ≡ false = le-ltb (length (b ++ m)) n (omega (arith, length-append b m)) in
      let t : take n (b ++ m) ≡ take n b = take-append-le n b m l in
      let d : drop n (b ++ m) ≡ drop n b ++ m = drop-append-le n b m l in
      rw (e, f, t, d) (judged (is_utf8 (take n b)) (chars (take n b)) at (at + n) (drop n b) m)
]
  where
    judged : (t : Bool) (x : List ℕ) (at to : ℕ) (rest m : List ℕ) → Extends (cond t (Whole x to rest) (Bad at NotText)) (cond t (Whole x to (rest ++ m)) (Bad at NotText)) m
    judged true x at to rest m = refl
    judged false x at to rest m = refl

-- a reader that wants a line that is not empty
pub record IsReader {A : Type 0} (f : ℕ → List ℕ → Outcome A) : Type 0 where
  pub stable : IsStable f
  pub none : (at : ℕ) → f at [] ≡ Part
  pub cr : (at : ℕ) → f at (13 ∷ []) ≡ Part

pub gap_stable : {A : Type 0} (f : ℕ → List ℕ → Outcome A) → IsReader f → IsStable (past_gap f)
gap_stable f r at [] m = same_extends (f at []) _ Part _ m (r.none at) refl tt
gap_stable f r at (b ∷ []) [] = same_extends _ _ _ _ [] refl refl (one f r at b)
  where
    one : {A : Type 0} (f : ℕ → List ℕ → Outcome A) → IsReader f → (at b : ℕ) → Extends (past_gap f at (b ∷ [])) (past_gap f at (b ∷ [])) []
    one f r at b = elim (cases_Bool (eqb b 10)) [
      | inl e ↦ rw e (r.stable (at + 1) [] [])
      | inr e ↦ rw e (r.stable at (b ∷ []) [])
    ]
gap_stable f r at (b ∷ []) (c ∷ cs) = elim (cases_Bool (eqb b 10)) [
  | inl e ↦ same_extends _ _ Part _ (c ∷ cs) (rw e (r.none (at + 1))) refl tt
  | inr e ↦ elim (cases_Bool (eqb b 13)) [
    | inl d ↦ same_extends _ _ Part _ (c ∷ cs) (rw e (ap (λ x. f at (x ∷ [])) (eqb-true b 13 d) ∙ r.cr at)) refl tt
    | inr d ↦ rw (e, d) (r.stable at (b ∷ []) (c ∷ cs))
  ]
]
gap_stable f r at (b ∷ c ∷ bs) m = elim (cases_Bool (eqb b 10)) [
  | inl e ↦ rw e (gap_stable f r (at + 1) (c ∷ bs) m)
  | inr e ↦ elim (cases_Bool (eqb b 13)) [
    | inl d ↦ elim (cases_Bool (eqb c 10)) [
      | inl g ↦ rw (e, d, g) (gap_stable f r (at + 2) bs m)
      | inr g ↦ rw (e, d, g) (r.stable at (b ∷ c ∷ bs) m)
    ]
    | inr d ↦ rw (e, d) (r.stable at (b ∷ c ∷ bs) m)
  ]
]

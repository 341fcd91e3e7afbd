-- Readings of contents and of PUTs: what the reader of contents finds is one, and there is no other.
use Rattle.std.proofs.Common.{◌≡◌, ◌≢◌, ◌↔◌, IsTrue, Bool, eqb, ℕ, ◌+◌, ◌≤◌, List, ◌++◌, length, Result, Ok, Err, refl, sym, ap, subst, ◌∙◌, arith, inl, inr, ◌⊎◌}
use Rattle.std.proofs.lemmas.Bool.{cases_Bool, eqb-true, eqb-false}
use Rattle.braid_change.specs.declared.change.Change.{Change}
use Rattle.braid_change.specs.Changes.{patches_content}
use Rattle.braid_change.specs.Updates.{UpdateView, IsBuilt, IsUpdate}
use Rattle.braid_fields.specs.declared.parts.Parts.{Parts}
use Rattle.braid_fields.specs.declared.reason.Reason.{Reason}
use Rattle.braid_fields.specs.declared.plan.Asks.{Asks}
use Rattle.braid_fields.specs.declared.plan.Asks.TheVariants as asks
use Rattle.braid_fields.specs.declared.plan.Plan.{Plan}
use Rattle.braid_fields.specs.Table.{judge_put}
use Rattle.braid_grammar.specs.declared.put.PutFault.{PutFault}
use Rattle.braid_grammar.specs.declared.put.PutFault.TheVariants as faults
use Rattle.braid_grammar.specs.Outcomes.{Outcome, Part, Bad, Whole, content_at, past_gap}
use Rattle.braid_grammar.specs.Readings.{patch_at, patches_at, change_at}
use Rattle.braid_grammar.specs.Streams.{IsGap, SpellsChange}
use Rattle.braid_grammar.specs.FaultPlaces.{APatch, IsWrongBehind, last_end}
use Rattle.braid_grammar.specs.Puts.{IsWhole, HasReason, IsShort, HasExtra, IsContentReading, IsPlanOf, SpellsPut, HasPutReason, of_fields, of_content, IsPutReading}
use Rattle.braid_fields.proofs.PlanLimits.{put_within}
use Rattle.braid_grammar.proofs.Spelled.{gap_reads, change_read}
use Rattle.braid_grammar.proofs.Back.{change_back}
use Rattle.braid_grammar.proofs.Law.{gap_cases}
use Rattle.braid_grammar.proofs.Gaps.{none_reads}
use Rattle.braid_grammar.proofs.Places.{then_bad, content_bad}
use Rattle.braid_grammar.proofs.WrongUpdates.{patches_bad}
use Rattle.braid_grammar.proofs.Faulty.{change_fails, wrong_fails, patches_fail}
use Rattle.braid_grammar.proofs.OneUpdate.{change_is}
use Rattle.braid_grammar.specs.Readers.{IsBehindGap}
use Rattle.braid_grammar.proofs.ReadStreams.{is_all_gap, is_no_gap}

-- a content that is spelled at the front is found
found_at : (a : Asks) (b : List ℕ) (c : Change) (content rest : List ℕ) → SpellsChange a c content → b ≡ content ++ rest → change_at a 0 b ≡ Whole c (0 + length content) rest
found_at a b c content rest k e = ap (change_at a 0) e ∙ change_read a c 0 content rest k

-- a reason is a fault
pub reason_fails : (a : Asks) (b : List ℕ) (r : Reason) → HasReason a b r → (to : ℕ) × (change_at a 0 b ≡ Bad to r)
reason_fails (asks.Body n) b r h = (0, ap (change_at (asks.Body n) 0) h.1.spelled ∙ change_fails (asks.Body n) 0 h.1.content h.1.more h.1.len_is h.1.no_text ∙ ap (λ s. Bad 0 s) (sym h.0))
reason_fails (asks.OnePatch plan) b r h = (0, ap (change_at (asks.OnePatch plan) 0) h.1.spelled ∙ change_fails (asks.OnePatch plan) 0 h.1.content h.1.more h.1.len_is h.1.no_text ∙ ap (λ s. Bad 0 s) (sym h.0))
reason_fails (asks.Patches n) b r h = (to, all)
  where
    used : ℕ
    used = length (patches_content h.patches)

    to : ℕ
    to = 0 + length h.content + length h.gap + h.offset

    none : used ≡ 0 + used
    none = omega arith

    one : past_gap (patch_at (0 + used) (last_end 0 h.patches)) (0 + length h.content) (h.gap ++ h.rest) ≡ Bad to r
    one =
        ap (λ m. past_gap (patch_at m (last_end 0 h.patches)) (0 + length h.content) (h.gap ++ h.rest)) (sym none)
        ∙ gap_reads (patch_at used (last_end 0 h.patches)) (0 + length h.content) h.gap h.rest h.is_gap
        ∙ none_reads (patch_at used (last_end 0 h.patches)) (0 + length h.content + length h.gap) h.rest h.begins
        ∙ wrong_fails (APatch used (last_end 0 h.patches)) (0 + length h.content + length h.gap) h.rest h.offset r h.wrong

    bad : patches_at n 0 0 0 b ≡ Bad to r
    bad = ap (patches_at n 0 0 0) h.spelled ∙ patches_fail n 0 0 0 h.patches h.content (h.gap ++ h.rest) to r h.fewer h.spell one

    all : change_at (asks.Patches n) 0 b ≡ Bad to r
    all = rw bad refl

-- and a fault has its reason
pub bad_is_reason : (a : Asks) (b : List ℕ) (to : ℕ) (r : Reason) → change_at a 0 b ≡ Bad to r → HasReason a b r
bad_is_reason (asks.Body n) b to r e = elim (then_bad (content_at n 0 b) _ to r e) [
  | inl c ↦ let k = content_bad n 0 b to r c in (k.reason, record { content = k.content; more = k.more; len_is = k.len; no_text = k.no_text; spelled = k.spelled })
  | inr c ↦ absurd (let d = c.two in cc)
]
bad_is_reason (asks.OnePatch plan) b to r e = elim (then_bad (content_at plan.len 0 b) _ to r e) [
  | inl c ↦ let k = content_bad plan.len 0 b to r c in (k.reason, record { content = k.content; more = k.more; len_is = k.len; no_text = k.no_text; spelled = k.spelled })
  | inr c ↦ absurd (let d = c.two in cc)
]
bad_is_reason (asks.Patches n) b to r e = elim (then_bad (patches_at n 0 0 0 b) _ to r e) [
  | inl c ↦ let k = patches_bad n 0 0 0 b to r c in record {
    patches = k.patches;
    content = k.content;
    gap = k.gap;
    rest = k.rest;
    offset = k.k;
    fewer = k.fewer;
    spell = k.spell;
    is_gap = k.is_gap;
    begins = k.begins;
    wrong = subst (λ m. IsWrongBehind (APatch m (last_end 0 k.patches)) k.rest k.k r) (let z : 0 + length (patches_content k.patches) ≡ length (patches_content k.patches) = omega arith in z) k.wrong;
    spelled = k.spelled;
  }
  | inr c ↦ absurd (let d = c.two in cc)
]

-- a content that is not whole is short
pub part_is_short : (a : Asks) (b : List ℕ) → change_at a 0 b ≡ Part → IsShort a b
part_is_short a b e = record {
  no_content = λ c content rest k w. let found = found_at a b c content rest k w in let bad : ◌≡◌ {A = Outcome Change} Part (Whole c (0 + length content) rest) = sym e ∙ found in cc;
  no_reason = λ r h. let f = reason_fails a b r h in let bad : ◌≡◌ {A = Outcome Change} Part (Bad f.0 r) = sym e ∙ f.1 in cc;
}

-- a content that was found is the whole with the gap behind it, or more stands there
pub found_is_whole : (a : Asks) (b : List ℕ) (c : Change) (to : ℕ) (rest : List ℕ) → change_at a 0 b ≡ Whole c to rest → IsGap rest → IsWhole a c b
found_is_whole a b c to rest e g = let f = change_back a 0 b c to rest e in record { content = f.bytes; gap = rest; spells = f.is; is_gap = g; spelled = f.spelled }

pub found_has_extra : (a : Asks) (b : List ℕ) (c : Change) (to : ℕ) (rest : List ℕ) → change_at a 0 b ≡ Whole c to rest → (IsGap rest → ⊥) → HasExtra a b
found_has_extra a b c to rest e g = let f = change_back a 0 b c to rest e in record { change = c; content = f.bytes; rest = rest; spells = f.is; no_gap = g; spelled = f.spelled }

-- what an outcome says of a content that is to be all of the bytes
abbrev Says : Outcome Change → Result Change PutFault → Type 0
Says Part t = t ≡ Err faults.Short
Says (Bad to r) t = t ≡ Err (faults.Reason r)
Says (Whole c to rest) t = ((t ≡ Ok c) × IsGap rest) ⊎ ((t ≡ Err faults.Extra) × (IsGap rest → ⊥))

says_one : (o : Outcome Change) (s t : Result Change PutFault) → Says o s → Says o t → s ≡ t
says_one Part s t h k = h ∙ sym k
says_one (Bad to r) s t h k = h ∙ sym k
says_one (Whole c to rest) s t (inl h) (inl k) = h.0 ∙ sym k.0
says_one (Whole c to rest) s t (inl h) (inr k) = absurd (k.1 h.1)
says_one (Whole c to rest) s t (inr h) (inl k) = absurd (h.1 k.1)
says_one (Whole c to rest) s t (inr h) (inr k) = h.0 ∙ sym k.0

short_says : (a : Asks) (b : List ℕ) → IsShort a b → (o : Outcome Change) → change_at a 0 b ≡ o → Says o (Err faults.Short)
short_says a b h Part e = refl
short_says a b h (Bad to r) e = absurd (h.no_reason r (bad_is_reason a b to r e))
short_says a b h (Whole c to rest) e = let f = change_back a 0 b c to rest e in absurd (h.no_content c f.bytes rest f.is f.spelled)

content_says : (a : Asks) (b : List ℕ) (t : Result Change PutFault) → t ≢ Err faults.Memory → IsContentReading a b t → Says (change_at a 0 b) t
content_says a b (Ok c) n h = subst (λ o. Says o (Ok c)) (sym (found_at a b c h.content h.gap h.spells h.spelled)) (inl (refl, h.is_gap))
content_says a b (Err (faults.Reason r)) n h = let f = reason_fails a b r h in subst (λ o. Says o (Err (faults.Reason r))) (sym f.1) refl
content_says a b (Err faults.Short) n h = short_says a b h (change_at a 0 b) refl
content_says a b (Err faults.Extra) n h = subst (λ o. Says o (Err faults.Extra)) (sym (found_at a b h.change h.content h.rest h.spells h.spelled)) (inr (refl, h.no_gap))
content_says a b (Err faults.Memory) n h = absurd (n refl)

-- there is a reading of a content
record Reading (a : Asks) (b : List ℕ) : Type 0 where
  answer : Result Change PutFault
  some : answer ≢ Err faults.Memory
  reading : IsContentReading a b answer

content_read : (a : Asks) (b : List ℕ) (o : Outcome Change) → change_at a 0 b ≡ o → Reading a b
content_read a b Part e = record { answer = Err faults.Short; some = λ d. cc; reading = part_is_short a b e }
content_read a b (Bad to r) e = record { answer = Err (faults.Reason r); some = λ d. cc; reading = bad_is_reason a b to r e }
content_read a b (Whole c to rest) e = elim (gap_cases rest) [
  | inl g ↦ record { answer = Ok c; some = λ d. cc; reading = found_is_whole a b c to rest e g }
  | inr g ↦ record { answer = Err faults.Extra; some = λ d. cc; reading = found_has_extra a b c to rest e g }
]

-- the update of a plan and a change
abbrev made : Plan → Result Change PutFault → Result UpdateView PutFault
made plan (Ok c) = Ok (record { id = plan.id; parents = plan.parents; change = c })
made plan (Err f) = Err f

-- the reading of a content is that of the PUT whose fields ask for it
pub put_read : (p : Parts) (b : List ℕ) (plan : Plan) (t : Result Change PutFault) → IsPlanOf p b plan → IsContentReading plan.asks b t → IsPutReading p b (made plan t)
put_read p b plan (Ok c) e h = record { plan = plan; planned = e; id = refl; parents = refl; whole = h }
put_read p b plan (Err (faults.Reason r)) e h = of_content plan e h
put_read p b plan (Err faults.Short) e h = (plan, e, h)
put_read p b plan (Err faults.Extra) e h = (plan, e, h)
put_read p b plan (Err faults.Memory) e h = tt

-- what is judged says of a PUT
abbrev Judges : Result Plan Reason → List ℕ → Result UpdateView PutFault → Type 0
Judges (Err r) b s = s ≡ Err (faults.Reason r)
Judges (Ok plan) b s = (t : Result Change PutFault) × Says (change_at plan.asks 0 b) t × (s ≡ made plan t)

judges_one : (j : Result Plan Reason) (b : List ℕ) (r s : Result UpdateView PutFault) → Judges j b r → Judges j b s → r ≡ s
judges_one (Err x) b r s h k = h ∙ sym k
judges_one (Ok plan) b r s h k = h.2 ∙ ap (made plan) (says_one (change_at plan.asks 0 b) h.0 k.0 h.1 k.1) ∙ sym k.2

judged_so : (p : Parts) (b : List ℕ) (plan : Plan) (t : Result Change PutFault) (s : Result UpdateView PutFault) → IsPlanOf p b plan → t ≢ Err faults.Memory → IsContentReading plan.asks b t → s ≡ made plan t → Judges (judge_put (length b) p) b s
judged_so p b plan t s e n h k = subst (λ j. Judges j b s) (sym e) (t, content_says plan.asks b t n h, k)

put_judges : (p : Parts) (b : List ℕ) (s : Result UpdateView PutFault) → s ≢ Err faults.Memory → IsPutReading p b s → Judges (judge_put (length b) p) b s
put_judges p b (Ok u) n h = judged_so p b h.plan (Ok u.change) (Ok u) h.planned (λ e. cc) h.whole (ap (λ (v : UpdateView). Ok v) (same u h.plan.id h.plan.parents h.id h.parents))
  where
    same : (u : UpdateView) (i : List ℕ) (ps : List (List ℕ)) → u.id ≡ i → u.parents ≡ ps → u ≡ record { id = i; parents = ps; change = u.change }
    same u i ps h g = rw (sym h, sym g) refl
put_judges p b (Err (faults.Reason r)) n h = go h
  where
    go : HasPutReason p b r → Judges (judge_put (length b) p) b (Err (faults.Reason r))
    go (of_fields e) = subst (λ j. Judges j b (Err (faults.Reason r))) (sym e) refl
    go (of_content plan e k) = judged_so p b plan (Err (faults.Reason r)) (Err (faults.Reason r)) e (λ d. cc) k refl
put_judges p b (Err faults.Short) n h = judged_so p b h.0 (Err faults.Short) (Err faults.Short) h.1 (λ d. cc) h.2 refl
put_judges p b (Err faults.Extra) n h = judged_so p b h.0 (Err faults.Extra) (Err faults.Extra) h.1 (λ d. cc) h.2 refl
put_judges p b (Err faults.Memory) n h = absurd (n refl)

-- a PUT has one reading
pub puts_one : (p : Parts) (b : List ℕ) (r s : Result UpdateView PutFault) → r ≢ Err faults.Memory → s ≢ Err faults.Memory → IsPutReading p b r → IsPutReading p b s → r ≡ s
puts_one p b r s n m h k = judges_one (judge_put (length b) p) b r s (put_judges p b r n h) (put_judges p b s m k)

-- and there is one
pub put_some : (p : Parts) (b : List ℕ) → (r : Result UpdateView PutFault) × (r ≢ Err faults.Memory) × IsPutReading p b r
put_some p b = go (judge_put (length b) p) refl
  where
    made_some : (plan : Plan) (t : Result Change PutFault) → t ≢ Err faults.Memory → made plan t ≢ Err faults.Memory
    made_some plan (Ok c) n e = cc
    made_some plan (Err f) n e = n (let same : f ≡ faults.Memory = cc in ap (λ (g : PutFault). Err g) same)

    go : (j : Result Plan Reason) → judge_put (length b) p ≡ j → (r : Result UpdateView PutFault) × (r ≢ Err faults.Memory) × IsPutReading p b r
    go (Err x) e = (Err (faults.Reason x), λ d. cc, of_fields e)
    go (Ok plan) e = let t = content_read plan.asks b (change_at plan.asks 0 b) refl in (made plan t.answer, made_some plan t.answer t.some, put_read p b plan t.answer e t.reading)

-- a content that a plan asks for can be built
pub whole_is_built : (p : Parts) (b : List ℕ) (plan : Plan) (c : Change) → IsPlanOf p b plan → IsWhole plan.asks c b → IsBuilt plan.parents c
whole_is_built p b plan c e h =
    let k = put_within (length b) p plan e in
    let s = change_is plan.asks c h.content k.asked h.spells in
    record { few_parents = k.few; shaped = s.0; scalar = s.1 }

pub put_is_update : (u : UpdateView) (p : Parts) (b : List ℕ) → SpellsPut u p b → IsUpdate u
put_is_update u p b h =
    let plan = put_within (length b) p h.plan h.planned in
    let change = change_is h.plan.asks u.change h.whole.content plan.asked h.whole.spells in
    let few : length u.parents ≤ 32 = omega (arith, ap length h.parents, plan.few) in
    record {
      identifier = rw h.id plan.identifier;
      identifiers = rw h.parents plan.parents;
      rising = rw h.parents plan.rising;
      built = record { few_parents = few; shaped = change.0; scalar = change.1 };
    }

-- a PUT is refused with the fault of its content
pub put_refused : (p : Parts) (b : List ℕ) (plan : Plan) (f g : PutFault) (r : Result UpdateView PutFault) → IsPlanOf p b plan → IsContentReading plan.asks b (Err f) → r ≡ Err g → g ≡ f → IsPutReading p b r
put_refused p b plan f g r e h k l = subst (IsPutReading p b) (sym (k ∙ ap (λ (x : PutFault). Err x) l)) (put_read p b plan (Err f) e h)

-- what is left behind the gap is nothing exactly where all is a gap
pub gap_told : (t : Bool) (bytes rest : List ℕ) → IsBehindGap bytes rest → t ≡ eqb (length rest) 0 → IsTrue t ↔ IsGap bytes
gap_told t bytes rest g e = (
  λ h. is_all_gap bytes rest g (eqb-true (length rest) 0 (sym e ∙ h)),
  λ k. elim (cases_Bool (eqb (length rest) 0)) [
    | inl y ↦ e ∙ y
    | inr n ↦ absurd (is_no_gap bytes rest g (let l = eqb-false (length rest) 0 n in omega (arith, l)) k)
  ],
)

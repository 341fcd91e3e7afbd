-- Reading contents and patches of whole slices.
use Rattle.std.proofs.Common.{◌≡◌, ℕ, suc, ◌+◌, ◌-◌, ◌≤◌, ◌<◌, true, false, List, [], ◌∷◌, ◌++◌, length, take, drop, refl, sym, ap, subst, ◌∙◌, append_assoc, ltb, arith, length-append, inl, inr, min, ◌^◌}
use Rattle.std.proofs.lemmas.Bool.{cases_Bool, le-ltb}
use Rattle.std.specs.Str.{chars, is_utf8}
use Rattle.braid_change.specs.declared.patch.Patch.{Patch}
use Rattle.braid_change.specs.Texts.{IsTextOf}
use Rattle.braid_fields.specs.declared.reason.Reason.{Reason}
use Rattle.braid_fields.specs.declared.reason.Reason.TheVariants.{NotText}
use Rattle.braid_grammar.specs.Outcomes.{Outcome, Part, Bad, Whole, then_read, content_at, past_gap}
use Rattle.braid_grammar.specs.Readings.{patch_len, patch_at, patches_at}
use Rattle.braid_grammar.specs.Readers.{IsBehindGap}
use Rattle.braid_grammar.proofs.Characters.{text_is_utf8, text_chars, chars_are_text}
use Rattle.braid_grammar.proofs.Back.{patch_back}
use Rattle.braid_grammar.proofs.Gaps.{gap_passed}
use Rattle.braid_fields.proofs.PlanLimits.{patch_within}
use Rattle.braid_grammar.proofs.OneUpdate.{content_len_is}

pub content_found : (n at : ℕ) (bytes text content rest : List ℕ) → n ≤ length bytes → content ≡ take n bytes → rest ≡ drop n bytes → IsTextOf text content → content_at n at bytes ≡ Whole text (at + n) rest
content_found n at bytes text content rest l e d k =
    let f : ltb (length bytes) n ≡ false = le-ltb (length bytes) n l in
    let u : is_utf8 (take n bytes) ≡ true = ap is_utf8 (sym e) ∙ text_is_utf8 text content k in
    let t : chars (take n bytes) ≡ text = ap chars (sym e) ∙ text_chars text content k in
    rw (f, u) (ap (λ x. Whole x (at + n) (drop n bytes)) t ∙ ap (Whole text (at + n)) (sym d))

pub content_wrong : (n at : ℕ) (bytes content : List ℕ) → n ≤ length bytes → content ≡ take n bytes → ((text : List ℕ) → IsTextOf text content → ⊥) → content_at n at bytes ≡ Bad at NotText
content_wrong n at bytes content l e k = elim (cases_Bool (is_utf8 (take n bytes))) [
  | inl u ↦ absurd (k (chars (take n bytes)) (subst (IsTextOf (chars (take n bytes))) (sym e) (chars_are_text (take n bytes) u)))
  | inr u ↦ let f : ltb (length bytes) n ≡ false = le-ltb (length bytes) n l in rw (f, u) refl
]

-- behind its gap, bytes are read as what is left of them
pub past_behind : {A : Type 0} (f : ℕ → List ℕ → Outcome A) (at : ℕ) (bytes rest : List ℕ) → IsBehindGap bytes rest → past_gap f at bytes ≡ f (at + (length bytes - length rest)) rest
past_behind f at bytes rest k =
    gap_passed f at bytes rest k
    ∙ ap (λ n. f n rest) (let e : at + length k.gap ≡ at + (length bytes - length rest) = omega (arith, ap length k.spelled, length-append k.gap rest) in e)

pub behind_shorter : (bytes rest : List ℕ) → IsBehindGap bytes rest → length rest ≤ length bytes
behind_shorter bytes rest k = omega (arith, ap length k.spelled, length-append k.gap rest)

-- a patch that was read: the bytes left behind it, and the contents so far
pub record IsPatchRead (used at : ℕ) (bytes : List ℕ) (p : Patch) (last : ℕ) (left : List ℕ) : Type 0 where
  pub room : last + length left ≡ at + length bytes
  pub fits : used + patch_len p ≤ 1_048_576

pub patch_is_read : (used before at : ℕ) (bytes : List ℕ) (p : Patch) (last : ℕ) (left : List ℕ) → patch_at used before at bytes ≡ Whole p last left → IsPatchRead used at bytes p last left
patch_is_read used before at bytes p last left e =
    let f = patch_back used before at bytes p last left e in
    let plan = patch_within used before f.is.fields f.is.plan f.is.judged in
    let len = content_len_is f.is.plan.len p.text f.is.content f.is.is_content in
    record { room = omega (arith, f.place, ap length f.spelled, length-append f.bytes left); fits = omega (arith, plan.short, len) }

-- the first patches were read, and what follows them is the rest
pub record ArePatchesRead (count at : ℕ) (bytes : List ℕ) (n : ℕ) (patches : List Patch) (used before to : ℕ) (rest : List ℕ) : Type 0 where
  pub said : patches_at count 0 0 at bytes ≡ then_read (patches_at (count - n) used before to rest) (λ ps last end. Whole (patches ++ ps) last end)
  pub fits : used ≤ 1_048_576
  pub room : to + length rest ≡ at + length bytes

read_same : (o : Outcome (List Patch)) → o ≡ then_read o (λ ps last end. Whole ([] ++ ps) last end)
read_same Part = refl
read_same (Bad at r) = refl
read_same (Whole ps at rest) = refl

read_twice : (p : Patch) (patches : List Patch) (o : Outcome (List Patch)) → then_read (then_read o (λ ps last end. Whole (p ∷ ps) last end)) (λ ps last end. Whole (patches ++ ps) last end) ≡ then_read o (λ ps last end. Whole ((patches ++ p ∷ []) ++ ps) last end)
read_twice p patches Part = refl
read_twice p patches (Bad at r) = refl
read_twice p patches (Whole ps at rest) = ap (λ (qs : List Patch). Whole qs at rest) (sym (append_assoc patches (p ∷ []) ps))

-- what the next patch says of all of them
pub next_says : (count at : ℕ) (bytes : List ℕ) (n : ℕ) (patches : List Patch) (used before to : ℕ) (rest start : List ℕ) → ArePatchesRead count at bytes n patches used before to rest → n < count → IsBehindGap rest start
    → patches_at count 0 0 at bytes ≡ then_read (then_read (patch_at used before (to + (length rest - length start)) start) (λ p after left. then_read (patches_at (count - (n + 1)) (used + patch_len p) p.end after left) (λ ps last end. Whole (p ∷ ps) last end))) (λ ps last end. Whole (patches ++ ps) last end)
next_says count at bytes n patches used before to rest start r l g =
    r.said
    ∙ ap (λ m. then_read (patches_at m used before to rest) (λ ps last end. Whole (patches ++ ps) last end)) (let e : count - n ≡ suc (count - (n + 1)) = omega arith in e)
    ∙ ap (λ o. then_read (then_read o (λ p after left. then_read (patches_at (count - (n + 1)) (used + patch_len p) p.end after left) (λ ps last end. Whole (p ∷ ps) last end))) (λ ps last end. Whole (patches ++ ps) last end)) (past_behind (patch_at used before) to rest start g)

pub patches_go_on : (count at : ℕ) (bytes : List ℕ) (n : ℕ) (patches : List Patch) (used before to : ℕ) (rest start : List ℕ) (p : Patch) (last : ℕ) (left : List ℕ) → ArePatchesRead count at bytes n patches used before to rest → n < count → IsBehindGap rest start
    → patch_at used before (to + (length rest - length start)) start ≡ Whole p last left → ArePatchesRead count at bytes (n + 1) (patches ++ p ∷ []) (used + patch_len p) p.end last left
patches_go_on count at bytes n patches used before to rest start p last left r l g e =
    let w = patch_is_read used before (to + (length rest - length start)) start p last left e in
    record {
      said = next_says count at bytes n patches used before to rest start r l g
          ∙ ap (λ o. then_read (then_read o (λ p after left. then_read (patches_at (count - (n + 1)) (used + patch_len p) p.end after left) (λ ps last end. Whole (p ∷ ps) last end))) (λ ps last end. Whole (patches ++ ps) last end)) e
          ∙ read_twice p patches (patches_at (count - (n + 1)) (used + patch_len p) p.end last left);
      fits = w.fits;
      room = omega (arith, w.room, r.room, behind_shorter rest start g);
    }

pub patches_part : (count at : ℕ) (bytes : List ℕ) (n : ℕ) (patches : List Patch) (used before to : ℕ) (rest start : List ℕ) → ArePatchesRead count at bytes n patches used before to rest → n < count → IsBehindGap rest start
    → patch_at used before (to + (length rest - length start)) start ≡ Part → patches_at count 0 0 at bytes ≡ Part
patches_part count at bytes n patches used before to rest start r l g e = let s = next_says count at bytes n patches used before to rest start r l g in s ∙ rw e refl

pub patches_bad : (count at : ℕ) (bytes : List ℕ) (n : ℕ) (patches : List Patch) (used before to : ℕ) (rest start : List ℕ) (place : ℕ) (r : Reason) → ArePatchesRead count at bytes n patches used before to rest → n < count → IsBehindGap rest start
    → patch_at used before (to + (length rest - length start)) start ≡ Bad place r → patches_at count 0 0 at bytes ≡ Bad place r
patches_bad count at bytes n patches used before to rest start place why r l g e = let s = next_says count at bytes n patches used before to rest start r l g in s ∙ rw e refl

-- the length of a patch's content, where it is counted up to the greatest number
pub counted_len : (n : ℕ) (p : Patch) → n ≡ min (patch_len p) (2 ^ 64 - 1) → patch_len p ≤ 1_048_576 → n ≡ patch_len p
counted_len n p e l = omega arith

pub patches_same : (count at : ℕ) (bytes : List ℕ) (n : ℕ) (patches items : List Patch) (used more before to : ℕ) (rest : List ℕ) → items ≡ patches → more ≡ used → ArePatchesRead count at bytes n patches used before to rest → ArePatchesRead count at bytes n items more before to rest
patches_same count at bytes n patches items used more before to rest e d r = subst (λ qs. ArePatchesRead count at bytes n qs more before to rest) (sym e) (subst (λ m. ArePatchesRead count at bytes n patches m before to rest) (sym d) r)

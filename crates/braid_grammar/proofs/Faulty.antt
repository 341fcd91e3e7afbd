-- What is wrong behind a stream is its fault.
use Rattle.std.proofs.Common.{◌≡◌, ℕ, zero, suc, ◌+◌, ◌-◌, ◌<◌, ◌≤◌, false, List, [], ◌∷◌, ◌++◌, length, take, encode_utf8_all, refl, sym, ap, subst, ◌∙◌, append_assoc, ltb, arith, length-append}
use Rattle.std.proofs.lemmas.Bool.{le-ltb}
use Rattle.std.proofs.lemmas.List.{append-nil, take_at, take_all}
use Rattle.braid_ids.specs.Lists.{Lacks}
use Rattle.braid_change.specs.declared.patch.Patch.{Patch}
use Rattle.braid_change.specs.Changes.{patches_content}
use Rattle.braid_change.specs.Texts.{IsTextOf}
use Rattle.braid_fields.specs.declared.reason.Reason.{Reason}
use Rattle.braid_fields.specs.declared.reason.Reason.TheVariants.{HeadTooLong, NotText}
use Rattle.braid_fields.specs.declared.plan.Asks.{Asks}
use Rattle.braid_fields.specs.declared.plan.Asks.TheVariants as asks
use Rattle.braid_grammar.specs.Lines.{IsLine, join, lines_of, lines_from}
use Rattle.braid_grammar.specs.Outcomes.{Bad, Whole, head_limit, settle, head_at, content_at, past_gap}
use Rattle.braid_grammar.specs.Readings.{patch_len, patch_at, patches_at, change_at, update_at}
use Rattle.braid_grammar.specs.Streams.{BeginsNoEmptyLine, SpellPatches, IsFault}
use Rattle.braid_grammar.specs.FaultPlaces.{Owner, AnUpdate, APatch, AsksLength, HasWrongLine, IsTooLong, HasWrongHead, HasWrongContent, IsWrongBehind, by_line, by_length, by_head, by_content, last_end, IsBeforePatch, IsBefore, IsWrongAt}
use Rattle.braid_grammar.proofs.Cut.{lines_lines, lines_lack}
use Rattle.braid_grammar.proofs.Stable.{take_append}
use Rattle.braid_grammar.proofs.Spelled.{gap_reads, some_reads, head_begins, head_read, patch_head_read, patch_read, all_join, join_one}
use Rattle.braid_grammar.proofs.WrongLines.{verdict_of}
use Rattle.braid_grammar.proofs.GoodLines.{good_open, good_then_wrong, good_lines}
use Rattle.braid_grammar.proofs.Gaps.{none_reads}
use Rattle.braid_grammar.proofs.ReadContents.{content_wrong}

-- the reader of what this owner's head begins has this fault
abbrev pub FailsAt : Owner → ℕ → List ℕ → ℕ → Reason → Type 0
FailsAt AnUpdate at bytes to reason = update_at at bytes ≡ Bad to reason
FailsAt (APatch used before) at bytes to reason = patch_at used before at bytes ≡ Bad to reason

head_fails : (owner : Owner) (at : ℕ) (bytes : List ℕ) (to : ℕ) (r : Reason) → head_at (verdict_of owner) at bytes ≡ Bad to r → FailsAt owner at bytes to r
head_fails AnUpdate at bytes to r e = rw e refl
head_fails (APatch used before) at bytes to r e = rw e refl

-- good lines and then a wrong one
line_fails : (owner : Owner) (at : ℕ) (bytes : List ℕ) (k : ℕ) (r : Reason) → HasWrongLine owner bytes k r → head_at (verdict_of owner) at bytes ≡ Bad (at + k) r
line_fails owner at bytes k r w =
    let good : List (List ℕ) = w.statuses ++ w.fields in
    let all : List (List ℕ) = good ++ w.line ∷ [] in
    let cut : bytes ≡ join all ++ w.more = w.spelled ∙ sym (append_assoc (join good) w.line w.more) ∙ ap (λ t. t ++ w.more) (join_one good w.line) in
    let size : length (join all) ≤ head_limit = omega (arith, ap length (join_one good w.line), length-append (join good) w.line, w.short) in
    ap (head_at (verdict_of owner) at) cut
    ∙ ap (λ t. settle at (join all ++ w.more) (verdict_of owner (lines_of t))) (take_append head_limit (join all) w.more ∙ ap (λ t. t ++ take (head_limit - length (join all)) w.more) (take_all head_limit (join all) size))
    ∙ ap (λ ls. settle at (join all ++ w.more) (verdict_of owner ls)) (lines_lines all (take (head_limit - length (join all)) w.more) (all_join IsLine good (w.line ∷ []) (good_lines owner w.statuses w.fields w.good) (w.is_line, tt)) ∙ append_assoc good (w.line ∷ []) _)
    ∙ ap (settle at (join all ++ w.more)) (good_then_wrong owner w.statuses w.fields w.line _ r w.good w.wrong)
    ∙ ap (λ n. Bad (at + n) r) (sym w.place)

-- good lines, and the beginning of one more, up to the limit
long_fails : (owner : Owner) (at : ℕ) (bytes : List ℕ) → IsTooLong owner bytes → head_at (verdict_of owner) at bytes ≡ Bad at HeadTooLong
long_fails owner at bytes w =
    let good : List (List ℕ) = w.statuses ++ w.fields in
    let first : List ℕ = join good ++ w.begun in
    let size : length first ≡ head_limit = length-append (join good) w.begun ∙ w.long in
    let cut : bytes ≡ first ++ w.more = w.spelled ∙ sym (append_assoc (join good) w.begun w.more) in
    let lines : lines_of first ≡ good = lines_lines good w.begun (good_lines owner w.statuses w.fields w.good) ∙ ap (λ t. good ++ t) (no_lines w.begun w.no_end) ∙ append-nil good in
    let full : ltb (length (first ++ w.more)) head_limit ≡ false = le-ltb (length (first ++ w.more)) head_limit (omega (arith, length-append first w.more, size)) in
    ap (head_at (verdict_of owner) at) cut
    ∙ ap (λ t. settle at (first ++ w.more) (verdict_of owner (lines_of t))) (take_at first w.more head_limit size)
    ∙ ap (λ ls. settle at (first ++ w.more) (verdict_of owner ls)) lines
    ∙ ap (settle at (first ++ w.more)) (good_open owner w.statuses w.fields w.good)
    ∙ rw full refl
  where
    no_lines : (bytes : List ℕ) → Lacks 10 bytes → lines_from [] bytes ≡ []
    no_lines bytes h = ap (lines_from []) (sym (append-nil bytes)) ∙ lines_lack [] bytes [] h

-- a head with a reason against it
wrong_head_fails : (owner : Owner) (at : ℕ) (bytes : List ℕ) (r : Reason) → HasWrongHead owner bytes r → FailsAt owner at bytes at r
wrong_head_fails AnUpdate at bytes r w =
    let read = head_read w.fields at w.head w.more w.is_head in
    let e = w.against in
    let bad : update_at at (w.head ++ w.more) ≡ Bad at r = rw (read, e) refl in
    ap (update_at at) w.spelled ∙ bad
wrong_head_fails (APatch used before) at bytes r w =
    let read = patch_head_read w.fields at w.head w.more w.is_head in
    let e = w.against in
    let bad : patch_at used before at (w.head ++ w.more) ≡ Bad at r = rw (read, e) refl in
    ap (patch_at used before at) w.spelled ∙ bad

content_fails : (at : ℕ) (content more : List ℕ) → ((text : List ℕ) → IsTextOf text content → ⊥) → content_at (length content) at (content ++ more) ≡ Bad at NotText
content_fails at content more h = content_wrong (length content) at (content ++ more) content (omega (arith, length-append content more)) (sym (take_at content more (length content) refl)) h

pub change_fails : (a : Asks) (at : ℕ) (content more : List ℕ) → AsksLength a (length content) → ((text : List ℕ) → IsTextOf text content → ⊥) → change_at a at (content ++ more) ≡ Bad at NotText
change_fails (asks.Body n) at content more e h = let c = content_fails at content more h in rw (e, c) refl
change_fails (asks.OnePatch plan) at content more e h = let c = content_fails at content more h in rw (e, c) refl
change_fails (asks.Patches n) at content more e h = absurd e

-- a head, and a content that is no text
wrong_content_fails : (owner : Owner) (at : ℕ) (bytes : List ℕ) (k : ℕ) → HasWrongContent owner bytes k → FailsAt owner at bytes (at + k) NotText
wrong_content_fails AnUpdate at bytes k w =
    let read = head_read w.fields at w.head (w.content ++ w.more) w.is_head in
    let e = w.asks.1 in
    let c = change_fails w.asks.0.asks (at + length w.head) w.content w.more w.asks.2 w.no_text in
    let bad : update_at at (w.head ++ (w.content ++ w.more)) ≡ Bad (at + length w.head) NotText = rw (read, e, c) refl in
    ap (update_at at) w.spelled ∙ bad ∙ ap (λ n. Bad (at + n) NotText) (sym w.place)
wrong_content_fails (APatch used before) at bytes k w =
    let read = patch_head_read w.fields at w.head (w.content ++ w.more) w.is_head in
    let e = w.asks.1 in
    let n = w.asks.2 in
    let c = content_fails (at + length w.head) w.content w.more w.no_text in
    let bad : patch_at used before at (w.head ++ (w.content ++ w.more)) ≡ Bad (at + length w.head) NotText = rw (read, e, n, c) refl in
    ap (patch_at used before at) w.spelled ∙ bad ∙ ap (λ n. Bad (at + n) NotText) (sym w.place)

at_once : (at k : ℕ) → k ≡ 0 → at ≡ at + k
at_once at k e = omega (arith, e)

-- what is wrong behind the first byte of a head is what its reader finds
pub wrong_fails : (owner : Owner) (at : ℕ) (bytes : List ℕ) (k : ℕ) (r : Reason) → IsWrongBehind owner bytes k r → FailsAt owner at bytes (at + k) r
wrong_fails owner at bytes k r (by_line w) = head_fails owner at bytes (at + k) r (line_fails owner at bytes k r w)
wrong_fails owner at bytes k r (by_length z e w) = head_fails owner at bytes (at + k) r (long_fails owner at bytes w ∙ ap (λ s. Bad at s) (sym e) ∙ ap (λ n. Bad n r) (at_once at k z))
wrong_fails owner at bytes k r (by_head z w) = subst (λ n. FailsAt owner at bytes n r) (at_once at k z) (wrong_head_fails owner at bytes r w)
wrong_fails owner at bytes k r (by_content e w) = subst (λ s. FailsAt owner at bytes (at + k) s) (sym e) (wrong_content_fails owner at bytes k w)

-- whole patches, and then a patch that is wrong
pub patches_fail : (n used before at : ℕ) (ps : List Patch) (content rest : List ℕ) (to : ℕ) (r : Reason) → length ps < n → SpellPatches used before ps content
    → past_gap (patch_at (used + length (patches_content ps)) (last_end before ps)) (at + length content) rest ≡ Bad to r → patches_at n used before at (content ++ rest) ≡ Bad to r
patches_fail zero used before at ps content rest to r l s e = absurd (omega arith)
patches_fail (suc n) used before at [] content rest to r l s e =
    let bytes : content ++ rest ≡ rest = ap (λ t. t ++ rest) s in
    let a : at + length content ≡ at = omega (arith, ap length s) in
    let u : used + 0 ≡ used = omega arith in
    let one : past_gap (patch_at used before) at (content ++ rest) ≡ Bad to r =
    ap (past_gap (patch_at used before) at) bytes ∙ ap (λ n. past_gap (patch_at used before) n rest) (sym a) ∙ ap (λ n. past_gap (patch_at n before) (at + length content) rest) (sym u) ∙ e in
    rw one refl
patches_fail (suc n) used before at (p ∷ ps) content rest to r l s e =
    let one : past_gap (patch_at used before) at (content ++ rest) ≡ Whole p (at + length s.gap + length s.first) (s.rest ++ rest) =
    ap (λ t. past_gap (patch_at used before) at (t ++ rest)) s.spelled
    ∙ ap (past_gap (patch_at used before) at) (append_assoc s.gap (s.first ++ s.rest) rest ∙ ap (λ t. s.gap ++ t) (append_assoc s.first s.rest rest))
    ∙ gap_reads (patch_at used before) at s.gap (s.first ++ (s.rest ++ rest)) s.is_gap
    ∙ patch_read used before (at + length s.gap) p s.first (s.rest ++ rest) s.is_first in
    let u : used + patch_len p + length (patches_content ps) ≡ used + length (encode_utf8_all p.text ++ patches_content ps) = omega (arith, length-append (encode_utf8_all p.text) (patches_content ps)) in
    let a : at + length s.gap + length s.first + length s.rest ≡ at + length content = omega (arith, ap length s.spelled, length-append s.gap (s.first ++ s.rest), length-append s.first s.rest) in
    let few : length ps < n = omega (arith, l) in
    let two : patches_at n (used + patch_len p) p.end (at + length s.gap + length s.first) (s.rest ++ rest) ≡ Bad to r =
    patches_fail n (used + patch_len p) p.end (at + length s.gap + length s.first) ps s.rest rest to r few s.is_rest
    (ap (λ m. past_gap (patch_at m (last_end p.end ps)) (at + length s.gap + length s.first + length s.rest) rest) u
    ∙ ap (λ m. past_gap (patch_at (used + length (encode_utf8_all p.text ++ patches_content ps)) (last_end p.end ps)) m rest) a
    ∙ e) in
    rw (one, two) refl

-- a patch that is wrong, behind the head of its update and the patches before it
patch_is_faulty : (used before : ℕ) (front rest : List ℕ) (to : ℕ) (r : Reason) → (b : IsBeforePatch used before front) → past_gap (patch_at used before) (length front) rest ≡ Bad to r → IsFault (front ++ rest) to r
patch_is_faulty used before front rest to r b e = record {
  updates = b.updates;
  front = b.front;
  rest = b.head ++ (b.content ++ (b.gap ++ rest));
  stream = b.stream;
  fault = some_reads update_at (length b.front) (b.head ++ (b.content ++ (b.gap ++ rest))) (head_begins b.fields b.head b.is_head (b.content ++ (b.gap ++ rest))) ∙ bad;
  spelled = ap (λ t. t ++ rest) b.spelled ∙ append_assoc b.front (b.head ++ (b.content ++ b.gap)) rest ∙ ap (λ t. b.front ++ t) (append_assoc b.head (b.content ++ b.gap) rest ∙ ap (λ t. b.head ++ t) (append_assoc b.content b.gap rest));
}
  where
    at : ℕ
    at = length b.front + length b.head

    place : at + length b.content + length b.gap ≡ length front
    place = omega (arith, ap length b.spelled, length-append b.front (b.head ++ (b.content ++ b.gap)), length-append b.head (b.content ++ b.gap), length-append b.content b.gap)

    used_is : 0 + length (patches_content b.patches) ≡ used
    used_is = omega (arith, b.used_is)

    one : past_gap (patch_at (0 + length (patches_content b.patches)) (last_end 0 b.patches)) (at + length b.content) (b.gap ++ rest) ≡ Bad to r
    one =
        gap_reads (patch_at (0 + length (patches_content b.patches)) (last_end 0 b.patches)) (at + length b.content) b.gap rest b.is_gap
        ∙ ap (λ n. past_gap (patch_at (0 + length (patches_content b.patches)) (last_end 0 b.patches)) n rest) place
        ∙ ap (λ n. past_gap (patch_at n (last_end 0 b.patches)) (length front) rest) used_is
        ∙ ap (λ n. past_gap (patch_at used n) (length front) rest) (sym b.before_is)
        ∙ e

    bad : update_at (length b.front) (b.head ++ (b.content ++ (b.gap ++ rest))) ≡ Bad to r
    bad =
        let read = head_read b.fields (length b.front) b.head (b.content ++ (b.gap ++ rest)) b.is_head in
        let j = b.judged in
        let a = b.asks in
        let p = patches_fail b.count 0 0 at b.patches b.content (b.gap ++ rest) to r b.fewer b.spell one in
        rw (read, j, a, p) refl

owner_is_faulty : (owner : Owner) (front rest : List ℕ) (to : ℕ) (r : Reason) → IsBefore owner front → BeginsNoEmptyLine rest → FailsAt owner (length front) rest to r → IsFault (front ++ rest) to r
owner_is_faulty AnUpdate front rest to r b h e = record { updates = b.0; front = front; rest = rest; stream = b.1; fault = none_reads update_at (length front) rest h ∙ e; spelled = refl }
owner_is_faulty (APatch used before) front rest to r b h e = patch_is_faulty used before front rest to r b (none_reads (patch_at used before) (length front) rest h ∙ e)

-- what is wrong where the grammar reaches is the fault
pub wrong_is_faulty : (bytes : List ℕ) (at : ℕ) (reason : Reason) → IsWrongAt bytes at reason → IsFault bytes at reason
wrong_is_faulty bytes at reason w =
    let fails = wrong_fails w.owner (length w.front) w.rest w.offset reason w.wrong in
    let fault : IsFault (w.front ++ w.rest) (length w.front + w.offset) reason = owner_is_faulty w.owner w.front w.rest (length w.front + w.offset) reason w.before w.begins fails in
    subst (λ b. IsFault b at reason) (sym w.spelled) (subst (λ n. IsFault (w.front ++ w.rest) n reason) (sym w.place) fault)

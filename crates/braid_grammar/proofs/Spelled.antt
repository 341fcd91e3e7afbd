-- What is spelled is read.
use Rattle.std.proofs.Common.{◌≡◌, ℕ, ◌+◌, ◌-◌, ◌≤◌, true, false, List, [], ◌∷◌, ◌++◌, length, take, drop, refl, sym, ap, ◌∙◌, append_assoc, eqb, ltb, arith, length-append, inl, inr, Some}
use Rattle.std.proofs.lemmas.Bool.{cases_Bool, eqb-true, le-ltb, ne_eqb, and_parts}
use Rattle.std.proofs.lemmas.List.{append-nil, take_all, take_at, drop_at}
use Rattle.std.specs.List.{AllByRecursion}
use Rattle.std.specs.Str.{chars, is_utf8}
use Rattle.braid_ids.specs.Lists.{Lacks}
use Rattle.braid_change.specs.declared.patch.Patch.{Patch}
use Rattle.braid_change.specs.declared.change.Change.{Change}
use Rattle.braid_change.specs.declared.change.Change.TheVariants.{Body, Patches}
use Rattle.braid_change.specs.Updates.{UpdateView}
use Rattle.braid_fields.specs.declared.plan.Asks.{Asks}
use Rattle.braid_fields.specs.declared.plan.Asks.TheVariants as asks
use Rattle.braid_fields.specs.declared.plan.PatchPlan.{PatchPlan}
use Rattle.braid_fields.specs.Lines.{is_empty_line}
use Rattle.braid_fields.specs.Fields.{Field, field_of}
use Rattle.braid_fields.specs.Statuses.{is_status}
use Rattle.braid_grammar.specs.Lines.{IsLine, lines_of, join}
use Rattle.braid_grammar.specs.Heads.{Verdict, Closed, behind, fields_of, some_fields_of, head_of}
use Rattle.braid_grammar.specs.Outcomes.{Outcome, Part, Whole, head_limit, settle, head_at, content_at, past_gap}
use Rattle.braid_grammar.specs.Readings.{patch_len, patch_of, patch_at, patches_at, change_at, update_at, next_at}
use Rattle.braid_grammar.specs.Streams.{IsGap, no_line, one_more, HoldFields, IsFields, IsPatchHead, HoldsStatus, IsHead, IsContent, HasRange, SpellsPatch, SpellPatches, SpellsChange, SpellsUpdate}
use Rattle.braid_grammar.proofs.Cut.{lines_lines}
use Rattle.braid_fields.proofs.ForStreams.{field_not_empty, field_not_status, status_not_empty}
use Rattle.braid_grammar.proofs.FieldLines.{field_line_is_line, field_told, status_told}
use Rattle.braid_grammar.proofs.Characters.{text_is_utf8, text_chars}
use Rattle.braid_grammar.proofs.Stable.{take_append}
use Rattle.braid_grammar.proofs.Readers.{update_reader}

-- an empty line is passed over
pub empty_reads : {A : Type 0} (f : ℕ → List ℕ → Outcome A) (at : ℕ) (l b : List ℕ) → is_empty_line l ≡ true → past_gap f at (l ++ b) ≡ past_gap f (at + length l) b
empty_reads f at [] b e = absurd (cc)
empty_reads f at (x ∷ []) [] e = rw e refl
empty_reads f at (x ∷ []) (c ∷ cs) e = rw e refl
empty_reads f at (x ∷ y ∷ []) b e =
    let k = and_parts (eqb x 13) (eqb y 10) e in
    let n : x ≡ 13 = eqb-true x 13 k.0 in
    let not10 : eqb x 10 ≡ false = rw n refl in
    rw (not10, k.0, k.1) refl
empty_reads f at (x ∷ y ∷ z ∷ w) b e = absurd (cc)

pub gap_reads : {A : Type 0} (f : ℕ → List ℕ → Outcome A) (at : ℕ) (g b : List ℕ) → IsGap g → past_gap f at (g ++ b) ≡ past_gap f (at + length g) b
gap_reads f at g b no_line = ap (λ n. past_gap f n b) (let e : at ≡ at + 0 = omega arith in e)
gap_reads f at g b (one_more l rest e k) =
    ap (past_gap f at) (append_assoc l rest b)
    ∙ empty_reads f at l (rest ++ b) e
    ∙ gap_reads f (at + length l) rest b k
    ∙ ap (λ n. past_gap f n b) (let n : at + length l + length rest ≡ at + length (l ++ rest) = omega (arith, length-append l rest) in n)

-- a line that is not empty is no gap
pub begins_reads : {A : Type 0} (f : ℕ → List ℕ → Outcome A) (at : ℕ) (l b : List ℕ) → IsLine l → is_empty_line l ≡ false → past_gap f at (l ++ b) ≡ f at (l ++ b)
begins_reads f at l b k e = ap (λ t. past_gap f at (t ++ b)) k.ends ∙ go f at k.inside b (rw k.ends at e) k.lacks ∙ ap (λ t. f at (t ++ b)) (sym k.ends)
  where
    go : {A : Type 0} (f : ℕ → List ℕ → Outcome A) (at : ℕ) (s b : List ℕ) → is_empty_line (s ++ 10 ∷ []) ≡ false → Lacks 10 s → past_gap f at ((s ++ 10 ∷ []) ++ b) ≡ f at ((s ++ 10 ∷ []) ++ b)
    go f at [] b e h = absurd (cc)
    go f at (x ∷ []) b e h = elim (cases_Bool (eqb x 13)) [
      | inl d ↦ absurd (let k : true ≡ false = (rw d at e) in cc)
      | inr d ↦ let n : eqb x 10 ≡ false = ne_eqb x 10 h.0 in rw (n, d) refl
    ]
    go f at (x ∷ y ∷ s) b e h =
        let n : eqb x 10 ≡ false = ne_eqb x 10 h.0 in
        let m : eqb y 10 ≡ false = ne_eqb y 10 h.1.0 in
        elim (cases_Bool (eqb x 13)) [ inl d ↦ rw (n, d, m) refl | inr d ↦ rw (n, d) refl ]

pub line_of_empty : (l : List ℕ) → is_empty_line l ≡ true → IsLine l
line_of_empty [] e = absurd (cc)
line_of_empty (x ∷ []) e = record { inside = []; lacks = tt; ends = ap (λ t. t ∷ []) (eqb-true x 10 e) }
line_of_empty (x ∷ y ∷ []) e =
    let k = and_parts (eqb x 13) (eqb y 10) e in
    let n : x ≡ 13 = eqb-true x 13 k.0 in
    record { inside = x ∷ []; lacks = (λ (same : x ≡ 10). let w : 13 ≡ 10 = sym n ∙ same in cc, tt); ends = ap (λ t. x ∷ t ∷ []) (eqb-true y 10 k.1) }
line_of_empty (x ∷ y ∷ z ∷ w) e = absurd (cc)

pub fields_read : (fs : List Field) (ls : List (List ℕ)) (last : List ℕ) (more : List (List ℕ)) → HoldFields fs ls → is_empty_line last ≡ true → fields_of (ls ++ last ∷ more) ≡ Closed fs (length (join ls ++ last))
fields_read [] [] last more h e = rw e refl
fields_read (f ∷ fs) (l ∷ ls) last more h e =
    let holds : field_of l ≡ Some f = field_told f l h.0 in
    let some : is_empty_line l ≡ false = field_not_empty l f holds in
    rw (some, holds) (ap (behind (length l) (f ∷ [])) (fields_read fs ls last more h.1 e)
    ∙ ap (Closed (f ∷ fs)) (let n : length l + length (join ls ++ last) ≡ length ((l ++ join ls) ++ last) = omega (arith, length-append (l ++ join ls) last, length-append l (join ls), length-append (join ls) last) in n))
fields_read [] (l ∷ ls) last more h e = absurd h
fields_read (f ∷ fs) [] last more h e = absurd h

pub are_lines_of : (fs : List Field) (ls : List (List ℕ)) → HoldFields fs ls → AllByRecursion IsLine ls
are_lines_of fs [] h = tt
are_lines_of (f ∷ fs) (l ∷ ls) h = (field_line_is_line f.name f.value l h.0, are_lines_of fs ls h.1)
are_lines_of [] (l ∷ ls) h = absurd h

-- a head of lines is read as one
pub lines_read : (judge : List (List ℕ) → Verdict) (fs : List Field) (at : ℕ) (ls : List (List ℕ)) (h rest : List ℕ) → AllByRecursion IsLine ls → h ≡ join ls → length h ≤ head_limit
    → ((more : List (List ℕ)) → judge (ls ++ more) ≡ Closed fs (length h)) → head_at judge at (h ++ rest) ≡ Whole fs (at + length h) rest
lines_read judge fs at ls h rest all e short v =
    ap (λ x. settle at (h ++ rest) (judge (lines_of x))) (take_append head_limit h rest ∙ ap (λ t. t ++ take (head_limit - length h) rest) (take_all head_limit h short ∙ e))
    ∙ ap (λ x. settle at (h ++ rest) (judge x)) (lines_lines ls (take (head_limit - length h) rest) all)
    ∙ ap (settle at (h ++ rest)) (v _)
    ∙ ap (Whole fs (at + length h)) (drop_at h rest (length h) refl)

pub all_join : (P : List ℕ → Type 0) (a b : List (List ℕ)) → AllByRecursion P a → AllByRecursion P b → AllByRecursion P (a ++ b)
all_join P [] b h k = k
all_join P (x ∷ a) b h k = (h.0, all_join P a b h.1 k)

join_append : (a b : List (List ℕ)) → join (a ++ b) ≡ join a ++ join b
join_append [] b = refl
join_append (x ∷ a) b = ap (λ t. x ++ t) (join_append a b) ∙ sym (append_assoc x (join a) (join b))

pub join_one : (ls : List (List ℕ)) (last : List ℕ) → join ls ++ last ≡ join (ls ++ last ∷ [])
join_one ls last = ap (λ t. join ls ++ t) (sym (append-nil last)) ∙ sym (join_append ls (last ∷ []))

pub is_fields_lines : (fs : List Field) (h : List ℕ) → (k : IsFields fs h) → AllByRecursion IsLine (k.lines ++ k.last ∷ [])
is_fields_lines fs h k = all_join IsLine k.lines (k.last ∷ []) (are_lines_of fs k.lines k.fields) (line_of_empty k.last k.empty, tt)

some_read : (fs : List Field) (ls more : List (List ℕ)) (last : List ℕ) → 1 ≤ length ls → HoldFields fs ls → is_empty_line last ≡ true → some_fields_of (ls ++ last ∷ more) ≡ Closed fs (length (join ls ++ last))
some_read fs [] more last n h e = absurd (omega arith)
some_read [] (l ∷ ls) more last n h e = absurd h
some_read (f ∷ fs) (l ∷ ls) more last n h e =
    let k : fields_of (l ∷ (ls ++ last ∷ more)) ≡ Closed (f ∷ fs) (length (join (l ∷ ls) ++ last)) = fields_read (f ∷ fs) (l ∷ ls) last more h e in
    let some : is_empty_line l ≡ false = field_not_empty l f (field_told f l h.0) in
    rw some (rw some at k)

-- fields from a patch's head
pub patch_head_read : (fs : List Field) (at : ℕ) (h rest : List ℕ) → IsPatchHead fs h → head_at some_fields_of at (h ++ rest) ≡ Whole fs (at + length h) rest
patch_head_read fs at h rest p =
    let k = p.is_fields in
    lines_read some_fields_of fs at (k.lines ++ k.last ∷ []) h rest (is_fields_lines fs h k) (k.spelled ∙ join_one k.lines k.last) p.short
    (λ more. ap some_fields_of (append_assoc k.lines (k.last ∷ []) more) ∙ some_read fs k.lines more k.last k.some k.fields k.empty ∙ ap (λ t. Closed fs (length t)) (sym k.spelled))

plain_read : (fs : List Field) (ls more : List (List ℕ)) (last : List ℕ) → 1 ≤ length ls → HoldFields fs ls → is_empty_line last ≡ true → head_of (ls ++ last ∷ more) ≡ some_fields_of (ls ++ last ∷ more)
plain_read fs [] more last n h e = absurd (omega arith)
plain_read [] (l ∷ ls) more last n h e = absurd h
plain_read (f ∷ fs) (l ∷ ls) more last n h e = let p : is_status l ≡ false = field_not_status l f (field_told f l h.0) in rw p refl

status_fields_read : (fs : List Field) (st ls more : List (List ℕ)) (last : List ℕ) → length st ≤ 1 → AllByRecursion HoldsStatus st → 1 ≤ length ls → HoldFields fs ls → is_empty_line last ≡ true → head_of (st ++ (ls ++ last ∷ more)) ≡ Closed fs (length (join st ++ (join ls ++ last)))
status_fields_read fs [] ls more last s g n h e = plain_read fs ls more last n h e ∙ some_read fs ls more last n h e
status_fields_read fs (t ∷ []) ls more last s g n h e =
    let w = status_told t g.0.1 in
    rw (w.0, w.1) (ap (behind (length t) []) (some_read fs ls more last n h e)
    ∙ ap (Closed fs) (let k : length t + length (join ls ++ last) ≡ length ((t ++ []) ++ (join ls ++ last)) = omega (arith, length-append (t ++ []) (join ls ++ last), length-append t []) in k))
status_fields_read fs (t ∷ u ∷ st) ls more last s g n h e = absurd (omega arith)

pub status_lines : (st : List (List ℕ)) → AllByRecursion HoldsStatus st → AllByRecursion IsLine st
status_lines [] h = tt
status_lines (s ∷ st) h = (h.0.0, status_lines st h.1)

pub head_read : (fs : List Field) (at : ℕ) (h rest : List ℕ) → IsHead fs h → head_at head_of at (h ++ rest) ≡ Whole fs (at + length h) rest
head_read fs at h rest k =
    let all : AllByRecursion IsLine (k.status ++ (k.rest.lines ++ k.rest.last ∷ [])) = all_join IsLine k.status (k.rest.lines ++ k.rest.last ∷ []) (status_lines k.status k.good) (is_fields_lines fs k.fields k.rest) in
    let e : h ≡ join k.status ++ (join k.rest.lines ++ k.rest.last) = k.spelled ∙ ap (λ t. join k.status ++ t) k.rest.spelled in
    lines_read head_of fs at (k.status ++ (k.rest.lines ++ k.rest.last ∷ [])) h rest all
    (e ∙ ap (λ t. join k.status ++ t) (join_one k.rest.lines k.rest.last) ∙ sym (join_append k.status (k.rest.lines ++ k.rest.last ∷ []))) k.short
    (λ more. ap head_of (append_assoc k.status (k.rest.lines ++ k.rest.last ∷ []) more ∙ ap (λ t. k.status ++ t) (append_assoc k.rest.lines (k.rest.last ∷ []) more))
    ∙ status_fields_read fs k.status k.rest.lines more k.rest.last k.few k.good k.rest.some k.rest.fields k.rest.empty
    ∙ ap (λ t. Closed fs (length t)) (sym e))

pub content_read : (n at : ℕ) (text c rest : List ℕ) → IsContent n text c → content_at n at (c ++ rest) ≡ Whole text (at + length c) rest
content_read n at text c rest k =
    let f : ltb (length (c ++ rest)) n ≡ false = le-ltb (length (c ++ rest)) n (omega (arith, length-append c rest, k.len)) in
    let t : take n (c ++ rest) ≡ c = take_at c rest n k.len in
    let d : drop n (c ++ rest) ≡ rest = drop_at c rest n k.len in
    let u : is_utf8 c ≡ true = text_is_utf8 text c k.is_text in
    let same : chars c ≡ text = text_chars text c k.is_text in
    rw (f, t, d, u) (ap (λ x. Whole x (at + n) rest) same ∙ ap (λ m. Whole text (at + m) rest) (sym k.len))

-- a first line that is not empty
pub record Begins (bytes : List ℕ) : Type 0 where
  pub line : List ℕ
  pub rest : List ℕ
  pub is_line : IsLine line
  pub some : is_empty_line line ≡ false
  pub spelled : bytes ≡ line ++ rest

pub fields_begin : (fs : List Field) (h : List ℕ) → IsFields fs h → (rest : List ℕ) → Begins (h ++ rest)
fields_begin fs h k rest = go fs k.lines k.last k.some k.fields h rest k.spelled
  where
    go : (fs : List Field) (ls : List (List ℕ)) (last : List ℕ) → 1 ≤ length ls → HoldFields fs ls → (h rest : List ℕ) → h ≡ join ls ++ last → Begins (h ++ rest)
    go fs [] last n h b rest e = absurd (omega arith)
    go [] (l ∷ ls) last n h b rest e = absurd h
    go (f ∷ fs) (l ∷ ls) last n h b rest e = record { line = l; rest = join ls ++ (last ++ rest); is_line = field_line_is_line f.name f.value l h.0; some = field_not_empty l f (field_told f l h.0); spelled = ap (λ t. t ++ rest) e ∙ append_assoc (l ++ join ls) last rest ∙ append_assoc l (join ls) (last ++ rest) }

pub head_begins : (fs : List Field) (h : List ℕ) → IsHead fs h → (rest : List ℕ) → Begins (h ++ rest)
head_begins fs h k rest = go fs k.status k.good k.fields k.rest h k.spelled rest
  where
    is_status_some : (l : List ℕ) → HoldsStatus l → is_empty_line l ≡ false
    is_status_some l g = status_not_empty l (status_told l g.1).0

    go : (fs : List Field) (st : List (List ℕ)) → AllByRecursion HoldsStatus st → (fields : List ℕ) → IsFields fs fields → (h : List ℕ) → h ≡ join st ++ fields → (rest : List ℕ) → Begins (h ++ rest)
    go fs [] g fields k h e rest = let b = fields_begin fs fields k rest in record { line = b.line; rest = b.rest; is_line = b.is_line; some = b.some; spelled = ap (λ t. t ++ rest) e ∙ b.spelled }
    go fs (s ∷ st) g fields k h e rest = record { line = s; rest = join st ++ (fields ++ rest); is_line = g.0.0; some = is_status_some s g.0; spelled = ap (λ t. t ++ rest) e ∙ append_assoc (s ++ join st) fields rest ∙ append_assoc s (join st) (fields ++ rest) }

-- what begins with a line that is not empty is no gap
pub some_reads : {A : Type 0} (f : ℕ → List ℕ → Outcome A) (at : ℕ) (b : List ℕ) → Begins b → past_gap f at b ≡ f at b
some_reads f at b k = ap (past_gap f at) k.spelled ∙ begins_reads f at k.line k.rest k.is_line k.some ∙ ap (f at) (sym k.spelled)

pub add_len : (at : ℕ) (a b : List ℕ) → at + length a + length b ≡ at + length (a ++ b)
add_len at a b = omega (arith, length-append a b)

-- a patch that has a range is the patch of this range
pub range_same : (plan : PatchPlan) (p : Patch) → HasRange plan p → patch_of plan p.text ≡ p
range_same plan p h = rw (sym h.0, sym h.1) refl

pub patch_read : (used before at : ℕ) (p : Patch) (b rest : List ℕ) → SpellsPatch used before p b → past_gap (patch_at used before) at (b ++ rest) ≡ Whole p (at + length b) rest
patch_read used before at p b rest k =
    ap (λ t. past_gap (patch_at used before) at (t ++ rest)) k.spelled
    ∙ ap (past_gap (patch_at used before) at) (append_assoc k.head k.content rest)
    ∙ some_reads (patch_at used before) at (k.head ++ (k.content ++ rest)) (fields_begin k.fields k.head k.is_head.is_fields (k.content ++ rest))
    ∙ whole
    ∙ ap (λ n. Whole p n rest) (add_len at k.head k.content ∙ ap (λ t. at + length t) (sym k.spelled))
  where
    whole : patch_at used before at (k.head ++ (k.content ++ rest)) ≡ Whole p (at + length k.head + length k.content) rest
    whole =
        let h = patch_head_read k.fields at k.head (k.content ++ rest) k.is_head in
        let c = content_read k.plan.len (at + length k.head) p.text k.content rest k.is_content in
        rw (h, k.judged, c) (ap (λ q. Whole q (at + length k.head + length k.content) rest) (range_same k.plan p k.range))

pub patches_read : (used before at : ℕ) (ps : List Patch) (b rest : List ℕ) → SpellPatches used before ps b → patches_at (length ps) used before at (b ++ rest) ≡ Whole ps (at + length b) rest
patches_read used before at [] b rest k = rw k (ap (λ n. Whole [] n rest) (let e : at ≡ at + 0 = omega arith in e))
patches_read used before at (p ∷ ps) b rest k =
    let one : past_gap (patch_at used before) at (b ++ rest) ≡ Whole p (at + length k.gap + length k.first) (k.rest ++ rest) =
    ap (λ t. past_gap (patch_at used before) at (t ++ rest)) k.spelled
    ∙ ap (past_gap (patch_at used before) at) (append_assoc k.gap (k.first ++ k.rest) rest ∙ ap (λ t. k.gap ++ t) (append_assoc k.first k.rest rest))
    ∙ gap_reads (patch_at used before) at k.gap (k.first ++ (k.rest ++ rest)) k.is_gap
    ∙ patch_read used before (at + length k.gap) p k.first (k.rest ++ rest) k.is_first in
    let others = patches_read (used + patch_len p) p.end (at + length k.gap + length k.first) ps k.rest rest k.is_rest in
    rw (one, others) (ap (λ n. Whole (p ∷ ps) n rest) (let e : at + length k.gap + length k.first + length k.rest ≡ at + length b = omega (arith, ap length k.spelled, length-append k.gap (k.first ++ k.rest), length-append k.first k.rest) in e))

pub change_read : (a : Asks) (c : Change) (at : ℕ) (b rest : List ℕ) → SpellsChange a c b → change_at a at (b ++ rest) ≡ Whole c (at + length b) rest
change_read (asks.Body n) (Body text) at b rest k = let e = content_read n at text b rest k in rw e refl
change_read (asks.OnePatch plan) (Patches ps) at b rest k =
    let e = content_read plan.len at k.patch.text b rest k.is_content in
    rw e (ap (λ (p : Patch). Whole (Patches (p ∷ [])) (at + length b) rest) (range_same plan k.patch k.range) ∙ ap (λ (qs : List Patch). Whole (Patches qs) (at + length b) rest) (sym k.one))
change_read (asks.Patches n) (Patches ps) at b rest k = let e = patches_read 0 0 at ps b rest k.1 in rw (sym k.0, e) refl
change_read (asks.Body n) (Patches ps) at b rest k = absurd k
change_read (asks.OnePatch plan) (Body text) at b rest k = absurd k
change_read (asks.Patches n) (Body text) at b rest k = absurd k

-- an update after a gap is the next one
pub spelled_next : (u : UpdateView) (at : ℕ) (g s rest : List ℕ) → IsGap g → SpellsUpdate u s → next_at at (g ++ (s ++ rest)) ≡ Whole u (at + length g + length s) rest
spelled_next u at g s rest gap k =
    gap_reads update_at at g (s ++ rest) gap
    ∙ ap (λ t. past_gap update_at (at + length g) (t ++ rest)) k.spelled
    ∙ ap (past_gap update_at (at + length g)) (append_assoc k.head k.content rest)
    ∙ some_reads update_at (at + length g) (k.head ++ (k.content ++ rest)) (head_begins k.fields k.head k.is_head (k.content ++ rest))
    ∙ whole (at + length g)
    ∙ ap (λ n. Whole u n rest) (add_len (at + length g) k.head k.content ∙ ap (λ t. at + length g + length t) (sym k.spelled))
  where
    same : (u : UpdateView) (i : List ℕ) (ps : List (List ℕ)) → u.id ≡ i → u.parents ≡ ps → record { id = i; parents = ps; change = u.change } ≡ u
    same u i ps h g = rw (sym h, sym g) refl

    whole : (at : ℕ) → update_at at (k.head ++ (k.content ++ rest)) ≡ Whole u (at + length k.head + length k.content) rest
    whole at =
        let h = head_read k.fields at k.head (k.content ++ rest) k.is_head in
        let c = change_read k.plan.asks u.change (at + length k.head) k.content rest k.change in
        rw (h, k.judged, c) (ap (λ q. Whole q (at + length k.head + length k.content) rest) (same u k.plan.id k.plan.parents k.id k.parents))

-- after a gap nothing has come
pub gap_part : (at : ℕ) (g : List ℕ) → IsGap g → next_at at g ≡ Part
gap_part at g k = ap (next_at at) (sym (append-nil g)) ∙ gap_reads update_at at g [] k ∙ update_reader.none (at + length g)

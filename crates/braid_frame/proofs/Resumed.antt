-- What bytes say of the update in hand, step by step.
use Rattle.std.proofs.Common.{◌≡◌, ℕ, suc, ◌+◌, ◌-◌, ◌<◌, ◌≤◌, Bool, true, false, List, [], ◌∷◌, ◌++◌, length, take, drop, refl, sym, ap, ◌∙◌, append_assoc, eqb, ltb, cond, arith, length-append, inl, inr, Ok, Err}
use Rattle.std.proofs.lemmas.Bool.{cases_Bool, lt-ltb, le-ltb, ne_eqb}
use Rattle.std.proofs.lemmas.List.{append-nil, take_at, drop_at}
use Rattle.std.specs.Str.{chars, is_utf8}
use Rattle.braid_ids.specs.Lists.{Lacks}
use Rattle.braid_change.specs.declared.patch.Patch.{Patch}
use Rattle.braid_change.specs.declared.change.Change.{Change}
use Rattle.braid_change.specs.declared.change.Change.TheVariants.{Body as BodyOf, Patches}
use Rattle.braid_change.specs.Texts.{IsTextOf}
use Rattle.braid_change.specs.Updates.{UpdateView}
use Rattle.braid_fields.specs.declared.reason.Reason.{Reason}
use Rattle.braid_fields.specs.declared.reason.Reason.TheVariants.{NotText}
use Rattle.braid_fields.specs.declared.plan.Asks.TheVariants as asks
use Rattle.braid_fields.specs.declared.plan.Plan.{Plan}
use Rattle.braid_fields.specs.declared.plan.PatchPlan.{PatchPlan}
use Rattle.braid_fields.specs.Lines.{is_empty_line}
use Rattle.braid_fields.specs.Fields.{Field}
use Rattle.braid_fields.specs.Table.{judge_head, judge_patch}
use Rattle.braid_grammar.specs.Lines.{lines_from, lines_of}
use Rattle.braid_grammar.specs.Heads.{head_of, some_fields_of}
use Rattle.braid_grammar.specs.Outcomes.{Outcome, Part, Bad, Whole, then_read, head_limit, head_at, content_at, past_gap}
use Rattle.braid_grammar.specs.Readings.{patch_len, patch_of, patch_at, patches_at, change_at, update_at, next_at}
use Rattle.braid_grammar.proofs.Characters.{text_is_utf8, text_chars, chars_are_text}
use Rattle.braid_grammar.proofs.Readers.{head_open, update_reader, patch_reader}
use Rattle.braid_grammar.proofs.Spelled.{empty_reads, some_reads}
use Rattle.braid_frame.specs.declared.state.Awaits.{Awaits}
use Rattle.braid_frame.specs.declared.state.Awaits.TheVariants.{UpdateHead, PatchHead, FirstField, MoreFields}
use Rattle.braid_frame.specs.declared.state.Begun.{Begun}
use Rattle.braid_frame.specs.declared.state.Patching.{Patching}
use Rattle.braid_frame.specs.declared.state.Phase.{Phase}
use Rattle.braid_frame.specs.declared.state.Phase.TheVariants.{Lines, Body, PatchLines, PatchContent, Faulted, NoMemory}
use Rattle.braid_frame.specs.HeadLines.{BeginsWithLine, BeginsSo, AreLines}
use Rattle.braid_frame.specs.Phases.{resume, body_update, IsReading, IsInHand, judge_of, with_patches, patches_update, behind_patch, behind_head, behind_count}
use Rattle.braid_frame.specs.Steps.{IsInLines, IsInContent}
use Rattle.braid_frame.proofs.LinesKept.{as_begins}
use Rattle.braid_frame.proofs.LinesJudged.{still_open}

-- lines

-- an empty line before a head is passed over
pub lines_past : (d : Phase) (at : ℕ) (l more : List ℕ) → IsInLines d → is_empty_line l ≡ true → resume d at (l ++ more) ≡ resume d (at + length l) more
lines_past Lines at l more i e = empty_reads update_at at l more e
lines_past (PatchLines p) at l more i e =
    let past = empty_reads (patch_at p.used p.before) at l more e in
    rw past refl
lines_past (Body begun len) at l more i e = absurd i
lines_past (PatchContent p plan) at l more i e = absurd i
lines_past (Faulted f) at l more i e = absurd i
lines_past NoMemory at l more i e = absurd i

-- no gap stands before these bytes
pub record IsSkipped (at : ℕ) (bytes : List ℕ) : Type 0 where
  pub update : past_gap update_at at bytes ≡ update_at at bytes
  pub patch : (used before : ℕ) → past_gap (patch_at used before) at bytes ≡ patch_at used before at bytes

pub line_skipped : (at : ℕ) (bytes : List ℕ) → BeginsWithLine bytes → IsSkipped at bytes
line_skipped at bytes b = record { update = some_reads update_at at bytes (as_begins bytes b); patch = λ used before. some_reads (patch_at used before) at bytes (as_begins bytes b) }

-- a fault of a head
pub lines_bad : (d : Phase) (at : ℕ) (kept : List ℕ) (to : ℕ) (r : Reason) → IsInLines d → IsSkipped at kept → head_at (judge_of d) at kept ≡ Bad to r → resume d at kept ≡ Bad to r
lines_bad Lines at kept to r i k h = k.update ∙ rw h refl
lines_bad (PatchLines p) at kept to r i k h =
    let one : past_gap (patch_at p.used p.before) at kept ≡ Bad to r = k.patch p.used p.before ∙ rw h refl in
    rw one refl
lines_bad (Body begun len) at kept to r i k h = absurd i
lines_bad (PatchContent p plan) at kept to r i k h = absurd i
lines_bad (Faulted f) at kept to r i k h = absurd i
lines_bad NoMemory at kept to r i k h = absurd i

-- bytes without a LF are no gap, but for one byte
lacks_reads : {A : Type 0} (f : ℕ → List ℕ → Outcome A) (at : ℕ) (x : List ℕ) → Lacks 10 x → 2 ≤ length x → past_gap f at x ≡ f at x
lacks_reads f at [] h l = absurd (omega arith)
lacks_reads f at (b ∷ []) h l = absurd (omega arith)
lacks_reads f at (b ∷ c ∷ x) h l =
    let one : eqb b 10 ≡ false = ne_eqb b 10 h.0 in
    let two : eqb c 10 ≡ false = ne_eqb c 10 h.1.0 in
    elim (cases_Bool (eqb b 13)) [ inl d ↦ rw (one, d, two) refl | inr d ↦ rw (one, d) refl ]

no_line_lacks : (s x : List ℕ) → lines_from s x ≡ [] → Lacks 10 x
no_line_lacks s [] e = tt
no_line_lacks s (b ∷ bs) e = go (eqb b 10) refl (λ h. no_line_lacks (s ++ b ∷ []) bs h)
  where
    go : (t : Bool) → eqb b 10 ≡ t → (lines_from (s ++ b ∷ []) bs ≡ [] → Lacks 10 bs) → Lacks 10 (b ∷ bs)
    go true w h = absurd (let z = rw w at e in cc)
    go false w h = (λ same. let z : eqb b 10 ≡ true = rw same refl in let both : true ≡ false = sym z ∙ w in cc, h (rw w at e))

-- lines of which nothing is wrong are read from their first byte on
pub open_reads : {A : Type 0} (f : ℕ → List ℕ → Outcome A) (at : ℕ) (kept : List ℕ) (line : ℕ) (awaits : Awaits) → BeginsSo awaits kept (lines_of kept) line → 2 ≤ length kept → past_gap f at kept ≡ f at kept
open_reads f at kept line UpdateHead b l = lacks_reads f at kept (no_line_lacks [] kept b.1) l
open_reads f at kept line PatchHead b l = lacks_reads f at kept (no_line_lacks [] kept b.1) l
open_reads f at kept line FirstField b l = some_reads f at kept (as_begins kept b)
open_reads f at kept line MoreFields b l = some_reads f at kept (as_begins kept b)

pub open_skipped : (at : ℕ) (kept : List ℕ) (line : ℕ) (awaits : Awaits) → BeginsSo awaits kept (lines_of kept) line → 2 ≤ length kept → IsSkipped at kept
open_skipped at kept line awaits b l = record { update = open_reads update_at at kept line awaits b l; patch = λ used before. open_reads (patch_at used before) at kept line awaits b l }

-- they are not whole yet
lines_part : {A : Type 0} (f : ℕ → List ℕ → Outcome A) (at : ℕ) (kept : List ℕ) (line : ℕ) (awaits : Awaits) → BeginsSo awaits kept (lines_of kept) line → ((n : ℕ) → f n [] ≡ Part) → f at kept ≡ Part → past_gap f at kept ≡ Part
lines_part f at [] line awaits b none e = none at
lines_part f at (x ∷ []) line awaits b none e = elim (cases_Bool (eqb x 10)) [ inl d ↦ rw d (none (at + 1)) | inr d ↦ rw d e ]
lines_part f at (x ∷ y ∷ z) line awaits b none e = open_reads f at (x ∷ y ∷ z) line awaits b (omega arith) ∙ e

pub update_part : (at : ℕ) (kept : List ℕ) (line : ℕ) (awaits : Awaits) → AreLines head_of kept line awaits → length kept < head_limit → next_at at kept ≡ Part
update_part at kept line awaits k s =
    let h = head_open head_of at kept s (still_open head_of kept line awaits k) in
    lines_part update_at at kept line awaits k.begins update_reader.none (rw h refl)

pub patch_part : (used before at : ℕ) (kept : List ℕ) (line : ℕ) (awaits : Awaits) → AreLines some_fields_of kept line awaits → length kept < head_limit → past_gap (patch_at used before) at kept ≡ Part
patch_part used before at kept line awaits k s =
    let h = head_open some_fields_of at kept s (still_open some_fields_of kept line awaits k) in
    lines_part (patch_at used before) at kept line awaits k.begins (patch_reader used before).none (rw h refl)

-- heads

-- a head that asks for nothing
pub head_refused : (at : ℕ) (kept : List ℕ) (to : ℕ) (rest : List ℕ) (fs : List Field) (r : Reason) → BeginsWithLine kept → head_at head_of at kept ≡ Whole fs to rest → judge_head fs ≡ Err r → resume Lines at kept ≡ Bad at r
head_refused at kept to rest fs r b h j = some_reads update_at at kept (as_begins kept b) ∙ rw (h, j) refl

pub patch_refused : (p : Patching) (at : ℕ) (kept : List ℕ) (to : ℕ) (rest : List ℕ) (fs : List Field) (r : Reason) → BeginsWithLine kept → head_at some_fields_of at kept ≡ Whole fs to rest → judge_patch p.used p.before fs ≡ Err r → resume (PatchLines p) at kept ≡ Bad at r
patch_refused p at kept to rest fs r b h j =
    let one : past_gap (patch_at p.used p.before) at kept ≡ Bad at r = some_reads (patch_at p.used p.before) at kept (as_begins kept b) ∙ rw (h, j) refl in
    rw one refl

-- a head that asks for a content or patches
pub head_planned : (at : ℕ) (x : List ℕ) (to : ℕ) (rest : List ℕ) (fs : List Field) (plan : Plan) → BeginsWithLine x → head_at head_of at x ≡ Whole fs to rest → judge_head fs ≡ Ok plan → resume Lines at x ≡ behind_head plan to rest
head_planned at x to rest fs plan b h j = some_reads update_at at x (as_begins x b) ∙ rw (h, j) refl

pub patch_planned : (p : Patching) (at : ℕ) (x : List ℕ) (to : ℕ) (rest : List ℕ) (fs : List Field) (plan : PatchPlan) → BeginsWithLine x → head_at some_fields_of at x ≡ Whole fs to rest → judge_patch p.used p.before fs ≡ Ok plan → resume (PatchLines p) at x ≡ resume (PatchContent p plan) to rest
patch_planned p at x to rest fs plan b h j =
    let g : past_gap (patch_at p.used p.before) at x ≡ then_read (content_at plan.len to rest) (λ text last end. Whole (patch_of plan text) last end) = some_reads (patch_at p.used p.before) at x (as_begins x b) ∙ rw (h, j) refl in
    rw g (by_content (content_at plan.len to rest))
  where
    by_patches : (o : Outcome (List Patch)) (q : Patch) → then_read {B = UpdateView} (then_read {B = List Patch} o (λ ps last end. Whole (q ∷ ps) last end)) (λ ps last end. with_patches p ps last end) ≡ then_read {B = UpdateView} o (λ ps last end. with_patches p (q ∷ ps) last end)
    by_patches Part q = refl
    by_patches (Bad at r) q = refl
    by_patches (Whole ps at rest) q = refl

    by_content : (o : Outcome (List ℕ)) → then_read {B = UpdateView} (then_read {B = List Patch} (then_read {B = Patch} o (λ text last end. Whole (patch_of plan text) last end)) (λ q after rest. then_read {B = List Patch} (patches_at p.left (p.used + patch_len q) q.end after rest) (λ ps last end. Whole (q ∷ ps) last end))) (λ ps last end. with_patches p ps last end)
        ≡ then_read {B = UpdateView} o (λ text last end. behind_patch p (patch_of plan text) last end)
    by_content Part = refl
    by_content (Bad at r) = refl
    by_content (Whole text after rest) = by_patches (patches_at p.left (p.used + patch_len (patch_of plan text)) plan.end after rest) (patch_of plan text)

-- what an update's head asks for
abbrev pub begun_of : Plan → Begun
begun_of plan = record { id = plan.id; parents = plan.parents }

pub body_asked : (plan : Plan) (len at : ℕ) (x : List ℕ) → plan.asks ≡ asks.Body len → behind_head plan at x ≡ resume (Body (begun_of plan) len) at x
body_asked plan len at x e = ap (λ a. then_read {B = UpdateView} (change_at a at x) (λ change last end. Whole (record { id = plan.id; parents = plan.parents; change = change }) last end)) e ∙ go (content_at len at x)
  where
    go : (o : Outcome (List ℕ)) → then_read {B = UpdateView} (then_read {B = Change} o (λ text last end. Whole (BodyOf text) last end)) (λ change last end. Whole (record { id = plan.id; parents = plan.parents; change = change }) last end)
        ≡ then_read {B = UpdateView} o (λ text last end. Whole (body_update (begun_of plan) text) last end)
    go Part = refl
    go (Bad at r) = refl
    go (Whole text at rest) = refl

pub one_patch_asked : (plan : Plan) (p : Patching) (patch : PatchPlan) (at : ℕ) (x : List ℕ) → plan.asks ≡ asks.OnePatch patch → p.begun ≡ begun_of plan → p.done.items ≡ [] → p.left ≡ 0 → behind_head plan at x ≡ resume (PatchContent p patch) at x
one_patch_asked plan p patch at x e b d l = ap (λ a. then_read {B = UpdateView} (change_at a at x) (λ change last end. Whole (record { id = plan.id; parents = plan.parents; change = change }) last end)) e ∙ go (content_at patch.len at x)
  where
    one : (text : List ℕ) (at : ℕ) (rest : List ℕ) → Whole (patches_update (begun_of plan) (patch_of patch text ∷ [])) at rest ≡ behind_patch p (patch_of patch text) at rest
    one text at rest = rw (l, d, b) refl

    go : (o : Outcome (List ℕ)) → then_read {B = UpdateView} (then_read {B = Change} o (λ text last end. Whole (Patches (patch_of patch text ∷ [])) last end)) (λ change last end. Whole (record { id = plan.id; parents = plan.parents; change = change }) last end)
        ≡ then_read {B = UpdateView} o (λ text last end. behind_patch p (patch_of patch text) last end)
    go Part = refl
    go (Bad at r) = refl
    go (Whole text at rest) = one text at rest

pub patches_asked : (plan : Plan) (count at : ℕ) (x : List ℕ) → plan.asks ≡ asks.Patches count → behind_head plan at x ≡ behind_count (begun_of plan) count at x
patches_asked plan count at x e = ap (λ a. then_read {B = UpdateView} (change_at a at x) (λ change last end. Whole (record { id = plan.id; parents = plan.parents; change = change }) last end)) e ∙ go (patches_at count 0 0 at x)
  where
    go : (o : Outcome (List Patch)) → then_read {B = UpdateView} (then_read {B = Change} o (λ ps last end. Whole (Patches ps) last end)) (λ change last end. Whole (record { id = plan.id; parents = plan.parents; change = change }) last end)
        ≡ then_read {B = UpdateView} o (λ ps last end. Whole (patches_update (begun_of plan) ps) last end)
    go Part = refl
    go (Bad at r) = refl
    go (Whole ps at rest) = refl

-- no patches at all: the update is whole
pub none_counted : (begun : Begun) (count at : ℕ) (done : List Patch) → count ≡ 0 → done ≡ [] → behind_count begun count at [] ≡ Whole (patches_update begun done) at []
none_counted begun count at done c d = rw (c, d) refl

pub some_counted : (p : Patching) (count at : ℕ) (x : List ℕ) → 0 < count → p.done.items ≡ [] → p.left ≡ count - 1 → p.used ≡ 0 → p.before ≡ 0 → behind_count p.begun count at x ≡ resume (PatchLines p) at x
some_counted p count at x some d l u b =
    let e : count ≡ suc p.left = omega (arith, l, some) in
    rw (e, u, b, d) refl

-- contents

-- a content that is whole, whatever follows it
content_whole : (n at : ℕ) (kept more : List ℕ) → length kept ≡ n → content_at n at (kept ++ more) ≡ cond (is_utf8 kept) (Whole (chars kept) (at + n) more) (Bad at NotText)
content_whole n at kept more l =
    let f : ltb (length (kept ++ more)) n ≡ false = le-ltb (length (kept ++ more)) n (omega (arith, l, length-append kept more)) in
    let t : take n (kept ++ more) ≡ kept = take_at kept more n l in
    let d : drop n (kept ++ more) ≡ more = drop_at kept more n l in
    rw (f, t, d) refl

text_whole : (n at : ℕ) (text kept more : List ℕ) → length kept ≡ n → IsTextOf text kept → content_at n at (kept ++ more) ≡ Whole text (at + n) more
text_whole n at text kept more l t =
    let u : is_utf8 kept ≡ true = text_is_utf8 text kept t in
    let same : chars kept ≡ text = text_chars text kept t in
    content_whole n at kept more l ∙ rw u (ap (λ x. Whole x (at + n) more) same)

bad_whole : (n at : ℕ) (kept : List ℕ) → length kept ≡ n → is_utf8 kept ≡ false → content_at n at kept ≡ Bad at NotText
bad_whole n at kept l u = ap (content_at n at) (sym (append-nil kept)) ∙ content_whole n at kept [] l ∙ rw u refl

-- bytes that are the UTF-8 of no text
pub no_utf8 : (kept : List ℕ) → ((text : List ℕ) → IsTextOf text kept → ⊥) → is_utf8 kept ≡ false
no_utf8 kept none = elim (cases_Bool (is_utf8 kept)) [ inl e ↦ absurd (none (chars kept) (chars_are_text kept e)) | inr e ↦ e ]

-- a content that is no text
pub content_bad : (d : Phase) (at : ℕ) (kept : List ℕ) → IsInContent d (length kept) → is_utf8 kept ≡ false → resume d at kept ≡ Bad at NotText
content_bad (Body begun len) at kept i u = let b = bad_whole len at kept i u in rw b refl
content_bad (PatchContent p plan) at kept i u = let b = bad_whole plan.len at kept i.0 u in rw b refl
content_bad Lines at kept i u = absurd i
content_bad (PatchLines p) at kept i u = absurd i
content_bad (Faulted f) at kept i u = absurd i
content_bad NoMemory at kept i u = absurd i

-- a body that is this text
pub body_read : (begun : Begun) (len at : ℕ) (text kept : List ℕ) → length kept ≡ len → IsTextOf text kept → resume (Body begun len) at kept ≡ Whole (body_update begun text) (at + length kept) []
body_read begun len at text kept l t =
    let w = text_whole len at text kept [] l t in
    ap (resume (Body begun len) at) (sym (append-nil kept)) ∙ rw w (ap (λ n. Whole (body_update begun text) (at + n) []) (sym l))

-- a patch's content that is this text
pub patch_read : (p : Patching) (plan : PatchPlan) (at : ℕ) (text kept more : List ℕ) → length kept ≡ plan.len → IsTextOf text kept → resume (PatchContent p plan) at (kept ++ more) ≡ behind_patch p (patch_of plan text) (at + length kept) more
patch_read p plan at text kept more l t =
    let w = text_whole plan.len at text kept more l t in
    rw w (ap (λ n. behind_patch p (patch_of plan text) (at + n) more) (sym l))

-- the last patch
pub patch_last : (p : Patching) (patch : Patch) (done : List Patch) (at : ℕ) → p.left ≡ 0 → done ≡ p.done.items ++ patch ∷ [] → behind_patch p patch at [] ≡ Whole (patches_update p.begun done) at []
patch_last p patch done at l d = rw (l, d) refl

-- a patch after which others come
pub patch_next : (p q : Patching) (patch : Patch) (at : ℕ) (x : List ℕ) → 0 < p.left → q.begun ≡ p.begun → q.done.items ≡ p.done.items ++ patch ∷ [] → q.left ≡ p.left - 1 → q.used ≡ p.used + patch_len patch → q.before ≡ patch.end → behind_patch p patch at x ≡ resume (PatchLines q) at x
patch_next p q patch at x some b d l u e =
    let left : p.left ≡ suc q.left = omega (arith, l, some) in
    ap (λ n. reads n (p.used + patch_len patch) patch.end) left ∙ ap (λ n. reads (suc q.left) n patch.end) (sym u) ∙ ap (reads (suc q.left) q.used) (sym e) ∙ go (patches_at (suc q.left) q.used q.before at x)
  where
    reads : ℕ → ℕ → ℕ → Outcome UpdateView
    reads left used before = then_read {B = UpdateView} (patches_at left used before at x) (λ ps last end. with_patches p (patch ∷ ps) last end)

    one : (ps : List Patch) (at : ℕ) (rest : List ℕ) → with_patches p (patch ∷ ps) at rest ≡ with_patches q ps at rest
    one ps at rest = rw (b, d) (ap (λ qs. Whole (patches_update p.begun qs) at rest) (sym (append_assoc p.done.items (patch ∷ []) ps)))

    go : (o : Outcome (List Patch)) → then_read {B = UpdateView} o (λ ps last end. with_patches p (patch ∷ ps) last end) ≡ then_read {B = UpdateView} o (λ ps last end. with_patches q ps last end)
    go Part = refl
    go (Bad at r) = refl
    go (Whole ps at rest) = one ps at rest

-- what is in hand is not whole, and nothing is wrong with it
pub still_part : (d : Phase) (at : ℕ) (kept : List ℕ) (line : ℕ) (awaits : Awaits) → IsReading d → IsInHand d kept line awaits → resume d at kept ≡ Part
still_part Lines at kept line awaits o k = update_part at kept line awaits k.0 k.1
still_part (Body begun len) at kept line awaits o k = let c : ltb (length kept) len ≡ true = lt-ltb (length kept) len k in rw c refl
still_part (PatchLines p) at kept line awaits o k = let h = patch_part p.used p.before at kept line awaits k.0 k.1 in rw h refl
still_part (PatchContent p plan) at kept line awaits o k = let c : ltb (length kept) plan.len ≡ true = lt-ltb (length kept) plan.len k.0 in rw c refl
still_part (Faulted f) at kept line awaits o k = absurd o
still_part NoMemory at kept line awaits o k = absurd o

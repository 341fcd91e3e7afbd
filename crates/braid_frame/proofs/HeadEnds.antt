-- A line or a head has ended: what it is, and what follows from it.
use Rattle.std.proofs.Common.{◌≡◌, ℕ, ◌+◌, ◌<◌, ◌≤◌, ◌^◌, true, false, List, [], ◌∷◌, ◌++◌, length, take, drop, refl, sym, ap, subst, ◌∙◌, arith, Ok, Err, Result, ◌⊎◌}
use Rattle.std.proofs.lemmas.List.{append-nil}
use Rattle.braid_change.specs.Updates.{UpdateView}
use Rattle.braid_fields.specs.declared.reason.Reason.{Reason}
use Rattle.braid_fields.specs.declared.reason.Reason.TheVariants.{HeadTooLong}
use Rattle.braid_fields.specs.declared.plan.Plan.{Plan}
use Rattle.braid_fields.specs.declared.plan.PatchPlan.{PatchPlan}
use Rattle.braid_fields.specs.declared.plan.PlanFault.{PlanFault}
use Rattle.braid_fields.specs.declared.plan.PlanFault.TheVariants as plans
use Rattle.braid_fields.specs.Lines.{is_empty_line}
use Rattle.braid_fields.specs.Table.{judge_head, judge_patch, Plans}
use Rattle.braid_ids.specs.Lists.{Lacks}
use Rattle.braid_grammar.specs.Lines.{IsLine, lines_of}
use Rattle.braid_grammar.specs.Heads.{Verdict, Wrong, behind, head_of, some_fields_of}
use Rattle.braid_grammar.specs.Outcomes.{Whole, head_limit, head_at}
use Rattle.braid_grammar.proofs.Stable.{IsJudge, judge_heads, judge_fields}
use Rattle.braid_frame.specs.declared.fed.FeedFault.{FeedFault}
use Rattle.braid_frame.specs.declared.state.Awaits.{Awaits}
use Rattle.braid_frame.specs.declared.state.Awaits.TheVariants.{UpdateHead, PatchHead, FirstField, MoreFields}
use Rattle.braid_frame.specs.declared.state.Patching.{Patching}
use Rattle.braid_frame.specs.declared.state.Phase.{Phase}
use Rattle.braid_frame.specs.declared.state.Phase.TheVariants.{Lines, Body, PatchLines, PatchContent, Faulted, NoMemory}
use Rattle.braid_frame.specs.declared.state.State.{State}
use Rattle.braid_frame.specs.declared.lines.Kept.{Kept}
use Rattle.braid_frame.specs.declared.lines.Kept.TheVariants.{Line, Part}
use Rattle.braid_frame.specs.HeadLines.{awaited, fields_in, BeginsWithLine, BeginsSo, AreLines, LineEnded, IsFirst, Keeps, KeepsLine}
use Rattle.braid_frame.specs.Phases.{resume, behind_head, judge_of, LeadsTo, StandsAs, HasFault, IsInHand}
use Rattle.braid_frame.specs.Steps.{IsInLines, IsInPatchLines, Resumes, Finishes, IsRefused}
use Rattle.braid_fields.proofs.PlanLimits.{patch_within}
use Rattle.braid_frame.proofs.LinesKept.{limit_is, begins_more, behind_none, no_lines, still_lines, line_ended}
use Rattle.braid_frame.proofs.LinesJudged.{ended_begins, ended_wrong, ended_last, still_open, full_head, wrong_head, whole_head}
use Rattle.braid_frame.proofs.Resumed.{line_skipped, open_skipped, lines_bad, head_refused, patch_refused, head_planned, patch_planned}
use Rattle.braid_frame.proofs.Stood.{more_kept, faulty, gap_passed, goes_from, goes_stands}
use Rattle.braid_frame.proofs.Finished.{finishes_fault, finishes_no_memory, stands_at, lines_go_on}

pub in_hand_lines : (d : Phase) (kept : List ℕ) (line : ℕ) (awaits : Awaits) → IsInLines d → AreLines (judge_of d) kept line awaits → length kept < head_limit → IsInHand d kept line awaits
in_hand_lines Lines kept line awaits i k s = (k, s)
in_hand_lines (Body begun len) kept line awaits i k s = absurd i
in_hand_lines (PatchLines p) kept line awaits i k s = (k, s)
in_hand_lines (PatchContent p plan) kept line awaits i k s = absurd i
in_hand_lines (Faulted f) kept line awaits i k s = absurd i
in_hand_lines NoMemory kept line awaits i k s = absurd i

-- where the first line of a head is awaited nothing stands before it
first_line : (awaits : Awaits) (kept : List ℕ) (before : List (List ℕ)) (line : ℕ) → IsFirst awaits → BeginsSo awaits kept before line → (line ≡ 0) × (before ≡ [])
first_line UpdateHead kept before line f b = b
first_line PatchHead kept before line f b = b
first_line FirstField kept before line f b = absurd f
first_line MoreFields kept before line f b = absurd f

begins_nothing : (awaits : Awaits) → IsFirst awaits → BeginsSo awaits [] [] 0
begins_nothing UpdateHead f = (refl, refl)
begins_nothing PatchHead f = (refl, refl)
begins_nothing FirstField f = absurd f
begins_nothing MoreFields f = absurd f

-- behind an empty line of a gap the same head is awaited
pub gap_in_hand : (d e : Phase) (kept new : List ℕ) (line to : ℕ) (awaits next : Awaits) → e ≡ d → new ≡ [] → to ≡ 0 → next ≡ awaits → IsInLines d → LineEnded (judge_of d) kept line awaits → IsFirst awaits → IsInHand e new to next
gap_in_hand d e kept new line to awaits next x y z w i k f =
    let first = first_line awaits kept k.before line f k.begins in
    let same : (ls : List (List ℕ)) → judge_of d ls ≡ awaited awaits ls = λ ls. ap (λ t. judge_of d (t ++ ls)) (sym first.1) ∙ k.goes_on ls ∙ ap (λ n. behind n (fields_in k.before) (awaited awaits ls)) first.0 ∙ ap (λ t. behind 0 (fields_in t) (awaited awaits ls)) first.1 ∙ behind_none (awaited awaits ls) in
    rw (x, y, z, w) (in_hand_lines d [] 0 awaits i (no_lines (judge_of d) awaits (begins_nothing awaits f) same) (omega (arith, limit_is)))

pub gap_finishes : (us : List UpdateView) (d e : Phase) (at to : ℕ) (kept new b : List ℕ) (line : ℕ) (awaits : Awaits) → e ≡ d → to ≡ at + length kept → new ≡ [] → IsInLines d → LineEnded (judge_of d) kept line awaits → IsFirst awaits → is_empty_line (drop line kept) ≡ true → LeadsTo us d at kept b → StandsAs e us to new b
gap_finishes us d e at to kept new b line awaits x y z i k f m s =
    let empty : is_empty_line kept ≡ true = subst (λ n. is_empty_line (drop n kept) ≡ true) (first_line awaits kept k.before line f k.begins).0 m in
    stands_at us d e (at + length kept) to [] new b x y z (lines_go_on d i) (gap_passed us d at kept b i empty s)

-- the head has too many bytes
pub full_faulty : (us : List UpdateView) (d : Phase) (at : ℕ) (kept b : List ℕ) (line : ℕ) (awaits : Awaits) → IsInLines d → AreLines (judge_of d) kept line awaits → length kept ≡ head_limit → LeadsTo us d at kept b → HasFault us b (record { at = at; reason = HeadTooLong })
full_faulty us d at kept b line awaits i k l s =
    faulty us d at kept b at HeadTooLong s
    (lines_bad d at kept at HeadTooLong i (open_skipped at kept line awaits k.begins (omega (arith, l, limit_is))) (full_head (judge_of d) at kept (still_open (judge_of d) kept line awaits k) l))

-- a line is wrong
pub line_faulty : (us : List UpdateView) (d : Phase) (at : ℕ) (kept b : List ℕ) (line : ℕ) (awaits : Awaits) (r : Reason) → IsInLines d → LineEnded (judge_of d) kept line awaits → length kept ≤ head_limit → (IsFirst awaits → is_empty_line (drop line kept) ≡ false) → awaited awaits (drop line kept ∷ []) ≡ Wrong 0 r → LeadsTo us d at kept b → HasFault us b (record { at = at + line; reason = r })
line_faulty us d at kept b line awaits r i k short some e s =
    faulty us d at kept b (at + line) r s
    (lines_bad d at kept (at + line) r i (line_skipped at kept (ended_begins (judge_of d) kept line awaits k some)) (wrong_head (judge_of d) at kept line r (ended_wrong (judge_of d) kept line awaits k r e) short))

-- a head is whole, whatever follows it
module _ (judge : List (List ℕ) → Verdict) (j : IsJudge judge) (at : ℕ) (kept : List ℕ) (line : ℕ) (k : LineEnded judge kept line MoreFields) (short : length kept ≤ head_limit) (empty : is_empty_line (drop line kept) ≡ true) where
  head_whole : (m : List ℕ) → head_at judge at (kept ++ m) ≡ Whole (fields_in (lines_of kept)) (at + length kept) m
  head_whole m = whole_head judge j at kept (fields_in (lines_of kept)) short (ended_last judge kept line k empty) m

  head_alone : head_at judge at kept ≡ Whole (fields_in (lines_of kept)) (at + length kept) []
  head_alone = ap (head_at judge at) (sym (append-nil kept)) ∙ head_whole []

pub update_head_goes : (us : List UpdateView) (at to : ℕ) (kept t b : List ℕ) (line : ℕ) (plan : Plan) → LineEnded head_of kept line MoreFields → length kept ≤ head_limit → is_empty_line (drop line kept) ≡ true → t ≡ kept → to ≡ at + length kept → judge_head (fields_in (lines_of t)) ≡ Ok plan → LeadsTo us Lines at kept b → Resumes us (behind_head plan to) to b
update_head_goes us at to kept t b line plan k short empty e p j s =
    subst (λ n. Resumes us (behind_head plan n) n b) (sym p)
    (goes_from us Lines at kept b (behind_head plan (at + length kept)) s (subst BeginsWithLine (sym s.left) k.begins)
    (λ m. head_planned at (kept ++ m) (at + length kept) m (fields_in (lines_of kept)) plan (begins_more kept m k.begins) (head_whole head_of judge_heads at kept line k short empty m) (subst (λ x. judge_head (fields_in (lines_of x)) ≡ Ok plan) e j)))

pub update_head_faulty : (us : List UpdateView) (at : ℕ) (kept t b : List ℕ) (line : ℕ) (r : Reason) → LineEnded head_of kept line MoreFields → length kept ≤ head_limit → is_empty_line (drop line kept) ≡ true → t ≡ kept → judge_head (fields_in (lines_of t)) ≡ Err r → LeadsTo us Lines at kept b → HasFault us b (record { at = at; reason = r })
update_head_faulty us at kept t b line r k short empty e j s =
    faulty us Lines at kept b at r s
    (head_refused at kept (at + length kept) [] (fields_in (lines_of kept)) r k.begins (head_alone head_of judge_heads at kept line k short empty) (subst (λ x. judge_head (fields_in (lines_of x)) ≡ Err r) e j))

-- the head of a patch has ended
pub record PatchHeadEnded (us : List UpdateView) (d : Phase) (used before at : ℕ) (kept b : List ℕ) (line : ℕ) : Type 0 where
  pub in_lines : IsInPatchLines d used before
  pub ended : LineEnded (judge_of d) kept line MoreFields
  pub stands : LeadsTo us d at kept b

pub patch_head_stands : (us : List UpdateView) (d : Phase) (p : Patching) (used before at to : ℕ) (kept t b : List ℕ) (line : ℕ) (plan : PatchPlan) → d ≡ PatchLines p → PatchHeadEnded us d used before at kept b line → length kept ≤ head_limit → is_empty_line (drop line kept) ≡ true → t ≡ kept → to ≡ at + length kept → judge_patch used before (fields_in (lines_of t)) ≡ Ok plan → LeadsTo us (PatchContent p plan) to [] b
patch_head_stands us d p used before at to kept t b line plan x h short empty e q j =
    let k = subst (λ y. PatchHeadEnded us y used before at kept b line) x h in
    let judged : judge_patch p.used p.before (fields_in (lines_of kept)) ≡ Ok plan = subst (λ n. judge_patch n p.before (fields_in (lines_of kept)) ≡ Ok plan) k.in_lines.0 (subst (λ n. judge_patch used n (fields_in (lines_of kept)) ≡ Ok plan) k.in_lines.1 (subst (λ y. judge_patch used before (fields_in (lines_of y)) ≡ Ok plan) e j)) in
    subst (λ n. LeadsTo us (PatchContent p plan) n [] b) (sym q)
    (goes_stands us (PatchContent p plan) (at + length kept) b tt
    (goes_from us (PatchLines p) at kept b (resume (PatchContent p plan) (at + length kept)) k.stands k.stands.left
    (λ m. patch_planned p at (kept ++ m) (at + length kept) m (fields_in (lines_of kept)) plan (begins_more kept m k.ended.begins) (head_whole some_fields_of judge_fields at kept line k.ended short empty m) judged)))

pub patch_head_used : (d : Phase) (p : Patching) (used before : ℕ) (head : List ℕ) (plan : PatchPlan) → d ≡ PatchLines p → IsInPatchLines d used before → judge_patch used before (fields_in (lines_of head)) ≡ Ok plan → p.used + plan.len < 2 ^ 32
patch_head_used d p used before head plan x i j =
    let k : (used ≡ p.used) × (before ≡ p.before) = subst (λ y. IsInPatchLines y used before) x i in
    omega (arith, k.0, (patch_within used before (fields_in (lines_of head)) plan j).short)

pub patch_head_faulty : (us : List UpdateView) (d : Phase) (used before at : ℕ) (kept t b : List ℕ) (line : ℕ) (r : Reason) → PatchHeadEnded us d used before at kept b line → length kept ≤ head_limit → is_empty_line (drop line kept) ≡ true → t ≡ kept → judge_patch used before (fields_in (lines_of t)) ≡ Err r → HasFault us b (record { at = at; reason = r })
patch_head_faulty us (PatchLines p) used before at kept t b line r k short empty e j =
    let judged : judge_patch p.used p.before (fields_in (lines_of kept)) ≡ Err r = subst (λ n. judge_patch n p.before (fields_in (lines_of kept)) ≡ Err r) k.in_lines.0 (subst (λ n. judge_patch used n (fields_in (lines_of kept)) ≡ Err r) k.in_lines.1 (subst (λ y. judge_patch used before (fields_in (lines_of y)) ≡ Err r) e j)) in
    faulty us (PatchLines p) at kept b at r k.stands
    (patch_refused p at kept (at + length kept) [] (fields_in (lines_of kept)) r k.ended.begins (head_alone some_fields_of judge_fields at kept line k.ended short empty) judged)
patch_head_faulty us Lines used before at kept t b line r k short empty e j = absurd k.in_lines
patch_head_faulty us (Body begun len) used before at kept t b line r k short empty e j = absurd k.in_lines
patch_head_faulty us (PatchContent p plan) used before at kept t b line r k short empty e j = absurd k.in_lines
patch_head_faulty us (Faulted f) used before at kept t b line r k short empty e j = absurd k.in_lines
patch_head_faulty us NoMemory used before at kept t b line r k short empty e j = absurd k.in_lines

-- a head that asks for nothing
pub refused_finishes : {A : Type 0} (us : List UpdateView) (b : List ℕ) (taken at : ℕ) (fault : PlanFault) (judged : Result A Reason) (r : FeedFault) (new : State) → IsRefused at fault r new → Plans (Err fault) judged → ((reason : Reason) → judged ≡ Err reason → HasFault us b (record { at = at; reason = reason })) → Finishes us b taken (Err r) new
refused_finishes us b taken at (plans.Reason reason) judged r new h j f = finishes_fault us b taken r new (record { at = at; reason = reason }) h.0 h.1 (f reason j)
refused_finishes us b taken at plans.Memory judged r new h j f = finishes_no_memory us b taken r new h.0 h.1

-- what was kept of a piece
pub kept_line : (k : Kept) (count : ℕ) (old new piece : List ℕ) → k ≡ Line count → KeepsLine old new piece k → Keeps old new piece count × IsLine (take count piece)
kept_line k count old new piece e h = subst (KeepsLine old new piece) e h

pub kept_part : (k : Kept) (count : ℕ) (old new piece : List ℕ) → k ≡ Part count → KeepsLine old new piece k → Keeps old new piece count × Lacks 10 (take count piece) × ((count ≡ length piece) ⊎ (length new ≡ head_limit))
kept_part k count old new piece e h = subst (KeepsLine old new piece) e h

pub kept_ended : (judge : List (List ℕ) → Verdict) (old new piece : List ℕ) (line count : ℕ) (awaits : Awaits) → AreLines judge old line awaits → Keeps old new piece count × IsLine (take count piece) → LineEnded judge new line awaits
kept_ended judge old new piece line count awaits k h = subst (λ t. LineEnded judge t line awaits) (sym h.0.kept) (line_ended judge old (take count piece) line awaits k h.1)

pub kept_lines : (judge : List (List ℕ) → Verdict) (old new piece : List ℕ) (line count : ℕ) (awaits : Awaits) → AreLines judge old line awaits → new ≡ old ++ take count piece → Lacks 10 (take count piece) → AreLines judge new line awaits
kept_lines judge old new piece line count awaits k e h = subst (λ t. AreLines judge t line awaits) (sym e) (still_lines judge old (take count piece) line awaits k h)

pub kept_stands : (us : List UpdateView) (d : Phase) (at : ℕ) (old new piece b : List ℕ) (count : ℕ) → Keeps old new piece count → LeadsTo us d at old b → LeadsTo us d at new (b ++ take count piece)
kept_stands us d at old new piece b count k s = subst (λ t. LeadsTo us d at t (b ++ take count piece)) (sym k.kept) (more_kept us d at old b (take count piece) s)

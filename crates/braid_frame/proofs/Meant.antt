-- What a framer says of the bytes that it was fed.
use Rattle.std.proofs.Common.{◌≡◌, ℕ, ◌+◌, true, false, List, [], ◌∷◌, ◌++◌, length, refl, sym, ap, subst, ◌∙◌, arith, Bool, eqb, IsTrue, ◌↔◌}
use Rattle.std.proofs.lemmas.Bool.{ne_eqb}
use Rattle.std.proofs.lemmas.List.{append-nil}
use Rattle.braid_change.specs.Updates.{UpdateView}
use Rattle.braid_fields.specs.declared.reason.Reason.{Reason}
use Rattle.braid_grammar.specs.Lines.{lines_of}
use Rattle.braid_grammar.specs.Outcomes.{Part, Bad, Whole}
use Rattle.braid_grammar.specs.Readings.{next_at}
use Rattle.braid_grammar.specs.Streams.{IsGap, no_line, one_more, IsStream, IsFault, IsFaultless, Completes}
use Rattle.braid_grammar.proofs.Cut.{lines_line}
use Rattle.braid_grammar.proofs.Spelled.{spelled_next, line_of_empty}
use Rattle.braid_grammar.proofs.Law.{runs_same, front_runs, fault_runs, one_fault, no_stream, end_gap}
use Rattle.braid_frame.specs.declared.fed.FrameFault.{FrameFault}
use Rattle.braid_frame.specs.declared.state.Awaits.{Awaits}
use Rattle.braid_frame.specs.declared.state.Awaits.TheVariants.{UpdateHead, PatchHead, FirstField, MoreFields}
use Rattle.braid_frame.specs.declared.state.Phase.{Phase}
use Rattle.braid_frame.specs.declared.state.Phase.TheVariants.{Lines, Body, PatchLines, PatchContent, Faulted, NoMemory}
use Rattle.braid_frame.specs.declared.state.State.{State}
use Rattle.braid_frame.specs.HeadLines.{BeginsSo}
use Rattle.braid_frame.specs.Phases.{resume, LeadsTo, StandsAs, HasFault, IsInHand, IsReading}
use Rattle.braid_frame.specs.Framing.{StandsFor, IsOpen, HasFailed}
use Rattle.braid_frame.proofs.LinesKept.{begins_no_gap}
use Rattle.braid_frame.proofs.Resumed.{still_part}

pub as_stands : (d : Phase) (us : List UpdateView) (at : ℕ) (kept b : List ℕ) → IsReading d → StandsAs d us at kept b → LeadsTo us d at kept b
as_stands Lines us at kept b o s = s
as_stands (Body begun len) us at kept b o s = s
as_stands (PatchLines p) us at kept b o s = s
as_stands (PatchContent p plan) us at kept b o s = s
as_stands (Faulted f) us at kept b o s = absurd o
as_stands NoMemory us at kept b o s = absurd o

pub stands_as : (d : Phase) (us : List UpdateView) (at : ℕ) (kept b : List ℕ) → IsReading d → LeadsTo us d at kept b → StandsAs d us at kept b
stands_as Lines us at kept b o s = s
stands_as (Body begun len) us at kept b o s = s
stands_as (PatchLines p) us at kept b o s = s
stands_as (PatchContent p plan) us at kept b o s = s
stands_as (Faulted f) us at kept b o s = absurd o
stands_as NoMemory us at kept b o s = absurd o

-- what is left over is not whole
left_part : (d : Phase) (us : List UpdateView) (at : ℕ) (kept b : List ℕ) (line : ℕ) (awaits : Awaits) → IsReading d → IsInHand d kept line awaits → (s : LeadsTo us d at kept b) → next_at (length s.front) s.rest ≡ Part
left_part d us at kept b line awaits o k s = ap (next_at (length s.front)) (sym (append-nil s.rest)) ∙ s.goes_on [] ∙ ap (resume d at) (append-nil kept) ∙ still_part d at kept line awaits o k

-- the bytes complete exactly these updates
pub completes : (us : List UpdateView) (framer : State) (b : List ℕ) → StandsFor us framer b → Completes us b
completes us framer b h = go framer.phase h.framing h.stands
  where
    open_completes : (d : Phase) → IsReading d → IsInHand d framer.kept.items framer.line framer.awaits → LeadsTo us d framer.at framer.kept.items b → Completes us b
    open_completes d o k s =
        let p = left_part d us framer.at framer.kept.items b framer.line framer.awaits o k s in
        record {
          front = s.front;
          rest = s.rest;
          stream = s.stream;
          no_more = λ u gap first more g w e. let n : Part ≡ Whole u (length s.front + length gap + length first) more = sym p ∙ ap (next_at (length s.front)) e ∙ spelled_next u (length s.front) gap first more g w in cc;
          spelled = s.spelled;
        }

    go : (d : Phase) → IsInHand d framer.kept.items framer.line framer.awaits → StandsAs d us framer.at framer.kept.items b → Completes us b
    go Lines k s = open_completes Lines tt k s
    go (Body begun len) k s = open_completes (Body begun len) tt k s
    go (PatchLines p) k s = open_completes (PatchLines p) tt k s
    go (PatchContent p plan) k s = open_completes (PatchContent p plan) tt k s
    go (Faulted f) k s = record {
      front = s.0.front;
      rest = s.0.rest;
      stream = subst (λ vs. IsStream vs s.0.front) s.1 s.0.stream;
      no_more = λ u gap first more g w e. let n : Bad f.at f.reason ≡ Whole u (length s.0.front + length gap + length first) more = sym s.0.fault ∙ ap (next_at (length s.0.front)) e ∙ spelled_next u (length s.0.front) gap first more g w in cc;
      spelled = s.0.spelled;
    }
    go NoMemory k s = absurd s

-- the bytes have no fault
pub faultless : (us : List UpdateView) (framer : State) (b : List ℕ) → StandsFor us framer b → IsOpen framer → IsFaultless b
faultless us framer b h o at r z =
    let s = as_stands framer.phase us framer.at framer.kept.items b o h.stands in
    let p = left_part framer.phase us framer.at framer.kept.items b framer.line framer.awaits o h.framing s in
    let e = (runs_same 0 b us z.updates Part (Bad at r) tt tt (front_runs us b s.front s.rest Part s.stream p s.spelled) (fault_runs b at r z)).1 in
    cc

-- a fault of the bytes was answered
pub fault_answered : (us : List UpdateView) (framer : State) (b : List ℕ) (at : ℕ) (r : Reason) → StandsFor us framer b → IsFault b at r → framer.phase ≡ Faulted (record { at = at; reason = r })
fault_answered us framer b at r h z = go framer.phase refl h.stands
  where
    none : IsReading framer.phase → ⊥
    none o = faultless us framer b h o at r z

    go : (d : Phase) → framer.phase ≡ d → StandsAs d us framer.at framer.kept.items b → framer.phase ≡ Faulted (record { at = at; reason = r })
    go Lines e s = absurd (none (rw e tt))
    go (Body begun len) e s = absurd (none (rw e tt))
    go (PatchLines p) e s = absurd (none (rw e tt))
    go (PatchContent p plan) e s = absurd (none (rw e tt))
    go (Faulted f) e s =
        let same = one_fault b f.at at f.reason r s.0 z in
        e ∙ ap (λ n. Faulted (record { at = n; reason = f.reason })) same.0 ∙ ap (λ n. Faulted (record { at = at; reason = n })) same.1
    go NoMemory e s = absurd s

-- a fault that was answered is one of the bytes, behind the updates
pub failed_fault : (us : List UpdateView) (framer : State) (b : List ℕ) (f : FrameFault) → StandsFor us framer b → HasFailed framer f → HasFault us b f
failed_fault us framer b f h e = subst (λ d. StandsAs d us framer.at framer.kept.items b) e h.stands

-- where nothing is kept between updates the bytes are a stream
pub rests : (us : List UpdateView) (framer : State) (b : List ℕ) → framer.phase ≡ Lines → framer.kept.items ≡ [] → StandsFor us framer b → IsStream us b
rests us framer b d k h = go framer.phase d h.stands
  where
    go : (d : Phase) → d ≡ Lines → StandsAs d us framer.at framer.kept.items b → IsStream us b
    go Lines e s = subst (IsStream us) (sym (s.spelled ∙ ap (λ t. s.front ++ t) (s.left ∙ k) ∙ append-nil s.front)) s.stream
    go (Body begun len) e s = absurd (cc)
    go (PatchLines p) e s = absurd (cc)
    go (PatchContent p plan) e s = absurd (cc)
    go (Faulted f) e s = absurd (cc)
    go NoMemory e s = absurd s

no_line_gap : (kept : List ℕ) → lines_of kept ≡ [] → IsGap kept → kept ≡ []
no_line_gap kept e no_line = refl
no_line_gap kept e (one_more l rest m g) = absurd (let z : l ∷ lines_of rest ≡ [] = sym (lines_line l rest (line_of_empty l m)) ∙ e in cc)

-- lines that have begun and are a gap
gap_none : (kept : List ℕ) (line : ℕ) (awaits : Awaits) → BeginsSo awaits kept (lines_of kept) line → IsGap kept → kept ≡ []
gap_none kept line UpdateHead b g = no_line_gap kept b.1 g
gap_none kept line PatchHead b g = no_line_gap kept b.1 g
gap_none kept line FirstField b g = absurd (begins_no_gap kept b g)
gap_none kept line MoreFields b g = absurd (begins_no_gap kept b g)

-- and only there
pub rests_only : (us : List UpdateView) (framer : State) (b : List ℕ) → StandsFor us framer b → IsStream us b → (framer.phase ≡ Lines) × (framer.kept.items ≡ [])
rests_only us framer b h t = go framer.phase refl h.framing h.stands
  where
    gap : (d : Phase) → IsReading d → IsInHand d framer.kept.items framer.line framer.awaits → (s : LeadsTo us d framer.at framer.kept.items b) → IsGap s.rest
    gap d o k s = end_gap us b us s.front s.rest t s.stream s.spelled (left_part d us framer.at framer.kept.items b framer.line framer.awaits o k s)

    go : (d : Phase) → framer.phase ≡ d → IsInHand d framer.kept.items framer.line framer.awaits → StandsAs d us framer.at framer.kept.items b → (framer.phase ≡ Lines) × (framer.kept.items ≡ [])
    go Lines e k s = (e, gap_none framer.kept.items framer.line framer.awaits k.0.begins (subst IsGap s.left (gap Lines tt k s)))
    go (Body begun len) e k s = absurd (begins_no_gap s.rest s.left (gap (Body begun len) tt k s))
    go (PatchLines p) e k s = absurd (begins_no_gap s.rest s.left (gap (PatchLines p) tt k s))
    go (PatchContent p plan) e k s = absurd (begins_no_gap s.rest s.left (gap (PatchContent p plan) tt k s))
    go (Faulted f) e k s = absurd (no_stream us b f.at f.reason t s.0)
    go NoMemory e k s = absurd s

-- so an answer that tells whether nothing is kept between updates tells whether the bytes are a stream
pub rests_exactly : (us : List UpdateView) (framer : State) (b : List ℕ) (r : Bool) → (r ≡ true → (framer.phase ≡ Lines) × (framer.kept.items ≡ [])) → ((framer.phase ≡ Lines) × (framer.kept.items ≡ []) → r ≡ true) → StandsFor us framer b → IsTrue r ↔ IsStream us b
rests_exactly us framer b r told tells h = (λ t. rests us framer b (told t).0 (told t).1 h, λ t. tells (rests_only us framer b h t))

-- no items
pub none_kept : (kept : List ℕ) (n : ℕ) (r : Bool) → n ≡ length kept → r ≡ eqb n 0 → (r ≡ true → kept ≡ []) × (kept ≡ [] → r ≡ true)
none_kept [] n r l e = (λ t. refl, λ k. e ∙ ap (λ m. eqb m 0) l)
none_kept (x ∷ kept) n r l e = (λ t. absurd (let z : false ≡ true = sym (e ∙ ne_eqb n 0 (λ h. omega (arith, h, l))) ∙ t in cc), λ k. absurd (cc))

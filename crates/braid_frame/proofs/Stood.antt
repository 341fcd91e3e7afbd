-- Where a framer stands, and where it stands behind what it took.
use Rattle.std.proofs.Common.{◌≡◌, ℕ, ◌+◌, ◌<◌, ◌^◌, true, List, [], ◌∷◌, ◌++◌, length, refl, sym, ap, subst, ◌∙◌, append_assoc, arith, length-append}
use Rattle.std.proofs.lemmas.List.{append-nil}
use Rattle.braid_change.specs.Texts.{IsTextOf}
use Rattle.braid_change.specs.Updates.{UpdateView}
use Rattle.braid_fields.specs.declared.plan.PatchPlan.{PatchPlan}
use Rattle.braid_fields.specs.declared.reason.Reason.{Reason}
use Rattle.braid_fields.specs.Lines.{is_empty_line}
use Rattle.braid_grammar.specs.Outcomes.{Outcome, Part, Bad, Whole}
use Rattle.braid_grammar.specs.Readings.{patch_of, next_at}
use Rattle.braid_grammar.specs.Streams.{IsGap, no_line, one_more, SpellsUpdate, IsStream, EndsWith}
use Rattle.braid_grammar.proofs.Stable.{Extends}
use Rattle.braid_grammar.proofs.Readers.{next_stable}
use Rattle.braid_grammar.proofs.Back.{Next, next_back}
use Rattle.braid_grammar.proofs.Law.{stream_front}
use Rattle.braid_frame.specs.declared.fed.FrameFault.{FrameFault}
use Rattle.braid_frame.specs.declared.state.Begun.{Begun}
use Rattle.braid_frame.specs.declared.state.Patching.{Patching}
use Rattle.braid_frame.specs.declared.state.Phase.{Phase}
use Rattle.braid_frame.specs.declared.state.Phase.TheVariants.{Lines, Body, PatchLines, PatchContent, Faulted, NoMemory}
use Rattle.braid_frame.specs.HeadLines.{BeginsWithLine}
use Rattle.braid_frame.specs.Phases.{resume, body_update, behind_patch, IsLeft, LeadsTo, HasFault}
use Rattle.braid_frame.specs.Steps.{IsInLines, IsInContent, Resumes, Completed}
use Rattle.braid_frame.proofs.LinesKept.{begins_more}
use Rattle.braid_frame.proofs.Resumed.{lines_past, body_read, patch_read}

left_more : (d : Phase) (kept rest x : List ℕ) → IsLeft d kept rest → IsLeft d (kept ++ x) (rest ++ x)
left_more Lines kept rest x h = ap (λ t. t ++ x) h
left_more (Body begun len) kept rest x h = begins_more rest x h
left_more (PatchLines p) kept rest x h = begins_more rest x h
left_more (PatchContent p plan) kept rest x h = begins_more rest x h
left_more (Faulted f) kept rest x h = h
left_more NoMemory kept rest x h = h

-- more bytes are kept
pub more_kept : (us : List UpdateView) (d : Phase) (at : ℕ) (kept b x : List ℕ) → LeadsTo us d at kept b → LeadsTo us d at (kept ++ x) (b ++ x)
more_kept us d at kept b x s = record {
  front = s.front;
  rest = s.rest ++ x;
  stream = s.stream;
  spelled = ap (λ t. t ++ x) s.spelled ∙ append_assoc s.front s.rest x;
  place = omega (arith, s.place, length-append kept x, length-append b x);
  goes_on = λ m. ap (next_at (length s.front)) (append_assoc s.rest x m) ∙ s.goes_on (x ++ m) ∙ ap (resume d at) (sym (append_assoc kept x m));
  left = left_more d kept s.rest x s.left;
}

-- what is kept has a fault
pub faulty : (us : List UpdateView) (d : Phase) (at : ℕ) (kept b : List ℕ) (to : ℕ) (r : Reason) → LeadsTo us d at kept b → resume d at kept ≡ Bad to r → HasFault us b (record { at = to; reason = r })
faulty us d at kept b to r s e = (
  record {
    updates = us;
    front = s.front;
    rest = s.rest;
    stream = s.stream;
    fault = ap (next_at (length s.front)) (sym (append-nil s.rest)) ∙ s.goes_on [] ∙ ap (resume d at) (append-nil kept) ∙ e;
    spelled = s.spelled;
  },
  refl,
)

-- a fault stays, whatever follows
pub fault_more : (us : List UpdateView) (b more : List ℕ) (f : FrameFault) → HasFault us b f → HasFault us (b ++ more) f
fault_more us b more f h = (
  record {
    updates = h.0.updates;
    front = h.0.front;
    rest = h.0.rest ++ more;
    stream = h.0.stream;
    fault = stays (next_at (length h.0.front) h.0.rest) (next_at (length h.0.front) (h.0.rest ++ more)) h.0.fault (next_stable (length h.0.front) h.0.rest more);
    spelled = ap (λ t. t ++ more) h.0.spelled ∙ append_assoc h.0.front h.0.rest more;
  },
  h.1,
)
  where
    stays : (o p : Outcome UpdateView) → o ≡ Bad f.at f.reason → Extends o p more → p ≡ Bad f.at f.reason
    stays Part p e k = absurd (cc)
    stays (Bad to s) p e k = k ∙ e
    stays (Whole u to rest) p e k = absurd (cc)

-- an empty line joins the gap
pub gap_passed : (us : List UpdateView) (d : Phase) (at : ℕ) (kept b : List ℕ) → IsInLines d → is_empty_line kept ≡ true → LeadsTo us d at kept b → LeadsTo us d (at + length kept) [] b
gap_passed us Lines at kept b i e s =
    let whole : b ≡ s.front ++ kept = s.spelled ∙ ap (λ t. s.front ++ t) s.left in
    record {
      front = s.front ++ kept;
      rest = [];
      stream = stream_front us s.front kept s.stream (subst IsGap (append-nil kept) (one_more kept [] e no_line));
      spelled = whole ∙ sym (append-nil (s.front ++ kept));
      place = omega (arith, s.place);
      goes_on = λ m. ap (λ n. next_at n m) (let n : length (s.front ++ kept) ≡ at + length kept = omega (arith, s.place, ap length whole) in n);
      left = refl;
    }
gap_passed us (PatchLines p) at kept b i e s = record {
  front = s.front;
  rest = s.rest;
  stream = s.stream;
  spelled = s.spelled;
  place = omega (arith, s.place);
  goes_on = λ m. s.goes_on m ∙ lines_past (PatchLines p) at kept m i e;
  left = s.left;
}
gap_passed us (Body begun len) at kept b i e s = absurd i
gap_passed us (PatchContent p plan) at kept b i e s = absurd i
gap_passed us (Faulted f) at kept b i e s = absurd i
gap_passed us NoMemory at kept b i e s = absurd i

-- what was kept is whole, and what follows is read otherwise
pub goes_from : (us : List UpdateView) (d : Phase) (at : ℕ) (kept b : List ℕ) (reads : List ℕ → Outcome UpdateView) → (s : LeadsTo us d at kept b) → BeginsWithLine s.rest → ((m : List ℕ) → resume d at (kept ++ m) ≡ reads m) → Resumes us reads (at + length kept) b
goes_from us d at kept b reads s k same = record {
  front = s.front;
  rest = s.rest;
  stream = s.stream;
  spelled = s.spelled;
  place = s.place;
  goes_on = λ m. s.goes_on m ∙ same m;
  begins = k;
}

pub goes_same : (us : List UpdateView) (f g : List ℕ → Outcome UpdateView) (at to : ℕ) (b : List ℕ) → at ≡ to → ((x : List ℕ) → f x ≡ g x) → Resumes us f at b → Resumes us g to b
goes_same us f g at to b e same s = record {
  front = s.front;
  rest = s.rest;
  stream = s.stream;
  spelled = s.spelled;
  place = sym e ∙ s.place;
  goes_on = λ m. s.goes_on m ∙ same m;
  begins = s.begins;
}

-- an update is in hand
abbrev pub IsMidway : Phase → Type 0
IsMidway Lines = ⊥
IsMidway (Body begun len) = Unit {0}
IsMidway (PatchLines p) = Unit {0}
IsMidway (PatchContent p plan) = Unit {0}
IsMidway (Faulted f) = ⊥
IsMidway NoMemory = ⊥

pub goes_stands : (us : List UpdateView) (d : Phase) (at : ℕ) (b : List ℕ) → IsMidway d → Resumes us (resume d at) at b → LeadsTo us d at [] b
goes_stands us d at b i g = record {
  front = g.front;
  rest = g.rest;
  stream = g.stream;
  spelled = g.spelled;
  place = omega (arith, g.place);
  goes_on = g.goes_on;
  left = left d i;
}
  where
    left : (d : Phase) → IsMidway d → IsLeft d [] g.rest
    left Lines i = absurd i
    left (Body begun len) i = g.begins
    left (PatchLines p) i = g.begins
    left (PatchContent p plan) i = g.begins
    left (Faulted f) i = absurd i
    left NoMemory i = absurd i

-- the update is whole
pub stands_completed : (us : List UpdateView) (d : Phase) (at : ℕ) (kept b : List ℕ) (u : UpdateView) → LeadsTo us d at kept b → resume d at kept ≡ Whole u (at + length kept) [] → Completed us u (at + length kept) b
stands_completed us d at kept b u s e = record {
  front = s.front;
  rest = s.rest;
  stream = s.stream;
  whole = ap (next_at (length s.front)) (sym (append-nil s.rest)) ∙ s.goes_on [] ∙ ap (resume d at) (append-nil kept) ∙ e;
  spelled = s.spelled;
  place = s.place;
}

pub goes_completed : (us : List UpdateView) (reads : List ℕ → Outcome UpdateView) (at : ℕ) (b : List ℕ) (u : UpdateView) → Resumes us reads at b → reads [] ≡ Whole u at [] → Completed us u at b
goes_completed us reads at b u g e = record {
  front = g.front;
  rest = g.rest;
  stream = g.stream;
  whole = ap (next_at (length g.front)) (sym (append-nil g.rest)) ∙ g.goes_on [] ∙ e;
  spelled = g.spelled;
  place = g.place;
}

-- a stream and one update more
stream_push : (us : List UpdateView) (u : UpdateView) (at : ℕ) (front rest : List ℕ) (to : ℕ) → IsStream us front → Next u at rest to [] → IsStream (us ++ u ∷ []) (front ++ rest)
stream_push [] u at front rest to s n = record {
  gap = front ++ n.gap;
  first = n.first;
  rest = [];
  is_gap = stream_front [] front n.gap s n.is_gap;
  is_first = n.is_first;
  is_rest = no_line;
  spelled = ap (λ t. front ++ t) n.spelled ∙ sym (append_assoc front n.gap (n.first ++ []));
}
stream_push (v ∷ us) u at front rest to s n = record {
  gap = s.gap;
  first = s.first;
  rest = s.rest ++ rest;
  is_gap = s.is_gap;
  is_first = s.is_first;
  is_rest = stream_push us u at s.rest rest to s.is_rest n;
  spelled = ap (λ t. t ++ rest) s.spelled ∙ append_assoc s.gap (s.first ++ s.rest) rest ∙ ap (λ t. s.gap ++ t) (append_assoc s.first s.rest rest);
}

module _ (us : List UpdateView) (u : UpdateView) (at : ℕ) (b : List ℕ) (c : Completed us u at b) where
  pub next : Next u (length c.front) c.rest at []
  next = next_back (length c.front) c.rest u at [] c.whole

  -- a framer stands between updates again
  pub completed_stands : LeadsTo (us ++ u ∷ []) Lines at [] b
  completed_stands = record {
    front = b;
    rest = [];
    stream = subst (IsStream (us ++ u ∷ [])) (sym c.spelled) (stream_push us u (length c.front) c.front c.rest at c.stream next);
    spelled = sym (append-nil b);
    place = omega (arith, c.place);
    goes_on = λ m. ap (λ n. next_at n m) (sym c.place);
    left = refl;
  }

  -- the update's last byte is the last
  pub completed_ends : EndsWith us u b
  completed_ends = record {
    front = c.front ++ next.gap;
    last = next.first;
    stream = stream_front us c.front next.gap c.stream next.is_gap;
    is_last = next.is_first;
    spelled = c.spelled ∙ ap (λ t. c.front ++ t) (next.spelled ∙ ap (λ t. next.gap ++ t) (append-nil next.first)) ∙ sym (append_assoc c.front next.gap next.first);
  }

  pub completed_spelled : SpellsUpdate u next.first
  completed_spelled = next.is_first

-- the same, where update and bytes are written otherwise
pub completed_is : (us : List UpdateView) (u v : UpdateView) (at : ℕ) (kept b : List ℕ) → v ≡ u → kept ≡ [] → Completed us u at b → LeadsTo (us ++ v ∷ []) Lines at kept b × EndsWith us v b
completed_is us u v at kept b e k c = (
  subst (λ x. LeadsTo (us ++ x ∷ []) Lines at kept b) (sym e) (subst (λ x. LeadsTo (us ++ u ∷ []) Lines at x b) (sym k) (completed_stands us u at b c)),
  subst (λ x. EndsWith us x b) (sym e) (completed_ends us u at b c),
)

-- nothing is kept, and no update was completed
pub stands_clean : (us : List UpdateView) (d : Phase) (at : ℕ) (kept b : List ℕ) → kept ≡ [] → LeadsTo us d at [] b → LeadsTo (us ++ []) d at kept b
stands_clean us d at kept b k s = subst (λ vs. LeadsTo vs d at kept b) (sym (append-nil us)) (subst (λ x. LeadsTo us d at x b) (sym k) s)

-- a body that is whole
pub body_completed : (us : List UpdateView) (d : Phase) (begun : Begun) (len at to : ℕ) (text kept b : List ℕ) → d ≡ Body begun len → IsInContent d (length kept) → IsTextOf text kept → to ≡ at + length kept → LeadsTo us d at kept b → Completed us (body_update begun text) to b
body_completed us d begun len at to text kept b e i t p s =
    let l : length kept ≡ len = subst (λ x. IsInContent x (length kept)) e i in
    subst (λ n. Completed us (body_update begun text) n b) (sym p)
    (stands_completed us (Body begun len) at kept b (body_update begun text) (subst (λ x. LeadsTo us x at kept b) e s) (body_read begun len at text kept l t))

-- a patch's content that is whole
pub patch_goes : (us : List UpdateView) (d : Phase) (p : Patching) (plan : PatchPlan) (at to : ℕ) (text kept b : List ℕ) → d ≡ PatchContent p plan → IsInContent d (length kept) → IsTextOf text kept → to ≡ at + length kept → LeadsTo us d at kept b → Resumes us (behind_patch p (patch_of plan text) to) to b
patch_goes us d p plan at to text kept b e i t q s =
    let l : (length kept ≡ plan.len) × (p.used + plan.len < 2 ^ 32) = subst (λ x. IsInContent x (length kept)) e i in
    let z : LeadsTo us (PatchContent p plan) at kept b = subst (λ x. LeadsTo us x at kept b) e s in
    subst (λ n. Resumes us (behind_patch p (patch_of plan text) n) n b) (sym q)
    (goes_from us (PatchContent p plan) at kept b (behind_patch p (patch_of plan text) (at + length kept)) z z.left (λ m. patch_read p plan at text kept m l.0 t))

-- nothing was fed
pub none_stands : (kept : List ℕ) → kept ≡ [] → LeadsTo [] Lines 0 kept []
none_stands kept k = subst (λ x. LeadsTo [] Lines 0 x []) (sym k) (record { front = []; rest = []; stream = no_line; spelled = refl; place = omega arith; goes_on = λ m. refl; left = refl })

-- Each list of bytes is read in one way.
use Rattle.std.proofs.Common.{◌≡◌, ℕ, zero, suc, ◌+◌, ◌<◌, ◌≤◌, List, [], ◌∷◌, ◌++◌, length, refl, sym, ap, subst, ◌∙◌, append_assoc, arith, length-append, inl, inr, ◌⊎◌}
use Rattle.std.proofs.lemmas.List.{append-nil}
use Rattle.braid_change.specs.Updates.{UpdateView}
use Rattle.braid_fields.specs.declared.reason.Reason.{Reason}
use Rattle.braid_grammar.specs.Lines.{IsLine}
use Rattle.braid_grammar.specs.Outcomes.{Outcome, Part, Bad, Whole, past_gap}
use Rattle.braid_grammar.specs.Readings.{next_at, update_at}
use Rattle.braid_grammar.specs.Streams.{IsGap, no_line, one_more, SpellsUpdate, IsStream, IsFault, IsTorn}
use Rattle.braid_grammar.proofs.Stable.{Extends}
use Rattle.braid_grammar.proofs.Readers.{next_stable}
use Rattle.braid_grammar.proofs.Spelled.{gap_reads, spelled_next, gap_part, head_begins}
use Rattle.braid_grammar.proofs.Back.{gap_back, Next, next_back}

-- from a place on, the bytes are these updates, and then this comes
abbrev pub Runs : ℕ → List ℕ → List UpdateView → Outcome UpdateView → Type 0
Runs at b [] o = next_at at b ≡ o
Runs at b (u ∷ us) o = (to : ℕ) × (rest : List ℕ) × (next_at at b ≡ Whole u to rest) × Runs to rest us o

abbrev pub IsEnd : Outcome UpdateView → Type 0
IsEnd Part = Unit {0}
IsEnd (Bad at r) = Unit {0}
IsEnd (Whole u to rest) = ⊥

no_end : (o : Outcome UpdateView) (u : UpdateView) (to : ℕ) (rest : List ℕ) → IsEnd o → o ≡ Whole u to rest → ⊥
no_end Part u to rest h e = cc
no_end (Bad at r) u to rest h e = cc
no_end (Whole v s t) u to rest h e = h

pub runs_same : (at : ℕ) (b : List ℕ) (us vs : List UpdateView) (o p : Outcome UpdateView) → IsEnd o → IsEnd p → Runs at b us o → Runs at b vs p → (us ≡ vs) × (o ≡ p)
runs_same at b [] [] o p h k r s = (refl, sym r ∙ s)
runs_same at b [] (v ∷ vs) o p h k r s = absurd (no_end o v s.0 s.1 h (sym r ∙ s.2))
runs_same at b (u ∷ us) [] o p h k r s = absurd (no_end p u r.0 r.1 k (sym s ∙ r.2))
runs_same at b (u ∷ us) (v ∷ vs) o p h k r s =
    let e : Whole u r.0 r.1 ≡ Whole v s.0 s.1 = sym r.2 ∙ s.2 in
    let u_is : u ≡ v = cc in
    let to_is : s.0 ≡ r.0 = cc in
    let rest_is : s.1 ≡ r.1 = cc in
    let t = runs_same r.0 r.1 us vs o p h k r.3 (subst (λ x. Runs r.0 x vs p) rest_is (subst (λ x. Runs x s.1 vs p) to_is s.3)) in
    (cc (t.0, u_is), t.1)

runs_from : (at to : ℕ) (b c : List ℕ) (vs : List UpdateView) (o : Outcome UpdateView) → next_at at b ≡ next_at to c → Runs to c vs o → Runs at b vs o
runs_from at to b c [] o e r = e ∙ r
runs_from at to b c (v ∷ vs) o e r = (r.0, r.1, e ∙ r.2, r.3)

pub stream_runs : (us : List UpdateView) (at : ℕ) (front rest : List ℕ) (vs : List UpdateView) (o : Outcome UpdateView) → IsStream us front → Runs (at + length front) rest vs o → Runs at (front ++ rest) (us ++ vs) o
stream_runs [] at front rest vs o s r = runs_from at (at + length front) (front ++ rest) rest vs o (gap_reads update_at at front rest s) r
stream_runs (u ∷ us) at front rest vs o s r =
    let to = at + length s.gap + length s.first in (
      to,
      s.rest ++ rest,
      ap (λ t. next_at at (t ++ rest)) s.spelled ∙ ap (next_at at) (append_assoc s.gap (s.first ++ s.rest) rest ∙ ap (λ t. s.gap ++ t) (append_assoc s.first s.rest rest)) ∙ spelled_next u at s.gap s.first (s.rest ++ rest) s.is_gap s.is_first,
      stream_runs us to s.rest rest vs o s.is_rest (subst (λ n. Runs n rest vs o) (let e : at + length front ≡ to + length s.rest = omega (arith, ap length s.spelled, length-append s.gap (s.first ++ s.rest), length-append s.first s.rest) in e) r),
    )

pub front_runs : (us : List UpdateView) (b front rest : List ℕ) (o : Outcome UpdateView) → IsStream us front → next_at (length front) rest ≡ o → b ≡ front ++ rest → Runs 0 b us o
front_runs us b front rest o s e w =
    let n : length front ≡ 0 + length front = omega arith in
    subst (λ t. Runs 0 t us o) (sym w) (subst (λ t. Runs 0 (front ++ rest) t o) (append-nil us) (stream_runs us 0 front rest [] o s (subst (λ n. next_at n rest ≡ o) n e)))

whole_runs : (us : List UpdateView) (b : List ℕ) → IsStream us b → Runs 0 b us Part
whole_runs us b s = front_runs us b b [] Part s (gap_part (length b) [] no_line) (sym (append-nil b))

pub fault_runs : (b : List ℕ) (at : ℕ) (r : Reason) → (f : IsFault b at r) → Runs 0 b f.updates (Bad at r)
fault_runs b at r f = front_runs f.updates b f.front f.rest (Bad at r) f.stream f.fault f.spelled

-- bytes are a stream of one list of updates at most
pub one_stream : (us vs : List UpdateView) (b : List ℕ) → IsStream us b → IsStream vs b → us ≡ vs
one_stream us vs b s t = (runs_same 0 b us vs Part Part tt tt (whole_runs us b s) (whole_runs vs b t)).0

pub one_fault : (b : List ℕ) (at to : ℕ) (r s : Reason) → IsFault b at r → IsFault b to s → (at ≡ to) × (r ≡ s)
one_fault b at to r s f g =
    let e = (runs_same 0 b f.updates g.updates (Bad at r) (Bad to s) tt tt (fault_runs b at r f) (fault_runs b to s g)).1 in
    (cc, cc)

pub no_stream : (us : List UpdateView) (b : List ℕ) (at : ℕ) (r : Reason) → IsStream us b → IsFault b at r → ⊥
no_stream us b at r s f =
    let e = (runs_same 0 b us f.updates Part (Bad at r) tt tt (whole_runs us b s) (fault_runs b at r f)).1 in
    cc

-- a fault stays, whatever follows
pub fault_stays : (b m : List ℕ) (at : ℕ) (r : Reason) → IsFault b at r → IsFault (b ++ m) at r
fault_stays b m at r f =
    record {
      updates = f.updates;
      front = f.front;
      rest = f.rest ++ m;
      stream = f.stream;
      fault = stays (next_at (length f.front) f.rest) (next_at (length f.front) (f.rest ++ m)) f.fault (next_stable (length f.front) f.rest m);
      spelled = ap (λ t. t ++ m) f.spelled ∙ append_assoc f.front f.rest m;
    }
  where
    stays : (o p : Outcome UpdateView) → o ≡ Bad at r → Extends o p m → p ≡ Bad at r
    stays Part p e h = absurd (cc)
    stays (Bad to s) p e h = h ∙ e
    stays (Whole u to rest) p e h = absurd (cc)

-- and no bytes that go on from it are a stream
pub never_stream : (us : List UpdateView) (b m : List ℕ) (at : ℕ) (r : Reason) → IsFault b at r → IsStream us (b ++ m) → ⊥
never_stream us b m at r f s = no_stream us (b ++ m) at r s (fault_stays b m at r f)

-- the bytes up to where no whole update follows
pub record Scan (at : ℕ) (b : List ℕ) : Type 0 where
  pub updates : List UpdateView
  pub front : List ℕ
  pub rest : List ℕ
  pub stream : IsStream updates front
  pub ends : IsEnd (next_at (at + length front) rest)
  pub spelled : b ≡ front ++ rest

ended : (at : ℕ) (b : List ℕ) → IsEnd (next_at at b) → Scan at b
ended at b h = record { updates = []; front = []; rest = b; stream = no_line; ends = subst (λ n. IsEnd (next_at n b)) (let e : at ≡ at + 0 = omega arith in e) h; spelled = refl }

line_some : (l : List ℕ) → IsLine l → 1 ≤ length l
line_some l k = omega (arith, ap length k.ends, length-append k.inside (10 ∷ []))

pub some_bytes : (u : UpdateView) (s : List ℕ) → SpellsUpdate u s → 1 ≤ length s
some_bytes u s k =
    let b = head_begins k.fields k.head k.is_head [] in
    omega (arith, line_some b.line b.is_line, ap length b.spelled, length-append b.line b.rest, length-append k.head [], ap length k.spelled, length-append k.head k.content)

went_on : (at : ℕ) (b : List ℕ) (u : UpdateView) (to : ℕ) (rest : List ℕ) → Next u at b to rest → Scan to rest → Scan at b
went_on at b u to rest n s =
    record {
      updates = u ∷ s.updates;
      front = n.gap ++ (n.first ++ s.front);
      rest = s.rest;
      stream = record { gap = n.gap; first = n.first; rest = s.front; is_gap = n.is_gap; is_first = n.is_first; is_rest = s.stream; spelled = refl };
      ends = subst (λ t. IsEnd (next_at t s.rest)) (let e : to + length s.front ≡ at + length (n.gap ++ (n.first ++ s.front)) = omega (arith, n.place, length-append n.gap (n.first ++ s.front), length-append n.first s.front) in e) s.ends;
      spelled = n.spelled ∙ ap (λ t. n.gap ++ (n.first ++ t)) s.spelled ∙ ap (λ t. n.gap ++ t) (sym (append_assoc n.first s.front s.rest)) ∙ sym (append_assoc n.gap (n.first ++ s.front) s.rest);
    }

pub shorter : (at : ℕ) (b : List ℕ) (u : UpdateView) (to : ℕ) (rest : List ℕ) → Next u at b to rest → length rest < length b
shorter at b u to rest n = omega (arith, ap length n.spelled, length-append n.gap (n.first ++ rest), length-append n.first rest, some_bytes u n.first n.is_first)

pub scan : (n at : ℕ) (b : List ℕ) → length b ≤ n → Scan at b
scan zero at b l = go at b l (next_at at b) refl
  where
    go : (at : ℕ) (b : List ℕ) → length b ≤ 0 → (o : Outcome UpdateView) → next_at at b ≡ o → Scan at b
    go at b l Part e = ended at b (subst IsEnd (sym e) tt)
    go at b l (Bad to r) e = ended at b (subst IsEnd (sym e) tt)
    go at b l (Whole u to rest) e = let k = next_back at b u to rest e in absurd (let n = shorter at b u to rest k in omega arith)
scan (suc n) at b l = more at b l (next_at at b) refl (λ to rest h. scan n to rest h)
  where
    more : (at : ℕ) (b : List ℕ) → length b ≤ suc n → (o : Outcome UpdateView) → next_at at b ≡ o → ((to : ℕ) (rest : List ℕ) → length rest ≤ n → Scan to rest) → Scan at b
    more at b l Part e rec = ended at b (subst IsEnd (sym e) tt)
    more at b l (Bad to r) e rec = ended at b (subst IsEnd (sym e) tt)
    more at b l (Whole u to rest) e rec = let k = next_back at b u to rest e in let s = shorter at b u to rest k in went_on at b u to rest k (rec to rest (omega arith))

-- all that is left behind the gap
pub rest_of : ℕ → List ℕ → Outcome (List ℕ)
rest_of at b = Whole b at b

pub whole_same : (x y : List ℕ) (m n : ℕ) → rest_of m x ≡ rest_of n y → x ≡ y
unfolding rest_of
whole_same x y m n h = cc

-- behind a gap that is followed by a gap stands a gap
pub gap_rest : (g b : List ℕ) → IsGap g → IsGap (g ++ b) → IsGap b
gap_rest g b k h =
    let p = gap_back rest_of (0 + length g) b in
    let one : past_gap rest_of 0 (g ++ b) ≡ rest_of (0 + length g + length p.gap) p.first = gap_reads rest_of 0 g b k ∙ p.reads in
    let two : past_gap rest_of 0 (g ++ b) ≡ rest_of (0 + length (g ++ b)) [] = ap (past_gap rest_of 0) (sym (append-nil (g ++ b))) ∙ gap_reads rest_of 0 (g ++ b) [] h in
    let e : p.first ≡ [] = whole_same p.first [] _ _ (sym one ∙ two) in
    subst IsGap (sym (p.spelled ∙ ap (λ t. p.gap ++ t) e ∙ append-nil p.gap)) p.is_gap

pub gap_cases : (b : List ℕ) → IsGap b ⊎ (IsGap b → ⊥)
gap_cases b = go (gap_back rest_of 0 b).first refl
  where
    go : (s : List ℕ) → (gap_back rest_of 0 b).first ≡ s → IsGap b ⊎ (IsGap b → ⊥)
    go [] e = inl (let p = gap_back rest_of 0 b in subst IsGap (sym (p.spelled ∙ ap (λ t. p.gap ++ t) e ∙ append-nil p.gap)) p.is_gap)
    go (x ∷ xs) e = inr (λ k. let p = gap_back rest_of 0 b in
        let r : past_gap rest_of 0 b ≡ rest_of (0 + length b) [] = ap (past_gap rest_of 0) (sym (append-nil b)) ∙ gap_reads rest_of 0 b [] k in
        let h : p.first ≡ [] = whole_same p.first [] _ _ (sym p.reads ∙ r) in
        let bad : x ∷ xs ≡ [] = sym e ∙ h in
        cc)

-- what follows a front of the stream with the same updates is a gap
pub end_gap : (us : List UpdateView) (b : List ℕ) (vs : List UpdateView) (front rest : List ℕ) → IsStream us b → IsStream vs front → b ≡ front ++ rest → next_at (length front) rest ≡ Part → IsGap rest
end_gap us b vs front rest t s e n =
    let same = (runs_same 0 b us vs Part Part tt tt (whole_runs us b t) (front_runs vs b front rest Part s n e)).0 in
    behind vs front rest s (subst (λ x. IsStream x (front ++ rest)) same (subst (IsStream us) e t))
  where
    behind : (vs : List UpdateView) (front rest : List ℕ) → IsStream vs front → IsStream vs (front ++ rest) → IsGap rest
    behind [] front rest s t = gap_rest front rest s t
    behind (v ∷ vs) front rest s t =
        let one : next_at 0 (front ++ rest) ≡ Whole v (0 + length s.gap + length s.first) (s.rest ++ rest) = ap (λ x. next_at 0 (x ++ rest)) s.spelled ∙ ap (next_at 0) (append_assoc s.gap (s.first ++ s.rest) rest ∙ ap (λ x. s.gap ++ x) (append_assoc s.first s.rest rest)) ∙ spelled_next v 0 s.gap s.first (s.rest ++ rest) s.is_gap s.is_first in
        let two : next_at 0 (front ++ rest) ≡ Whole v (0 + length t.gap + length t.first) t.rest = ap (next_at 0) t.spelled ∙ spelled_next v 0 t.gap t.first t.rest t.is_gap t.is_first in
        let e : Whole v (0 + length s.gap + length s.first) (s.rest ++ rest) ≡ Whole v (0 + length t.gap + length t.first) t.rest = sym one ∙ two in
        let r : t.rest ≡ s.rest ++ rest = cc in
        behind vs s.rest rest s.is_rest (subst (IsStream vs) r t.is_rest)

pub stream_front : (us : List UpdateView) (front rest : List ℕ) → IsStream us front → IsGap rest → IsStream us (front ++ rest)
stream_front [] front rest s k = gap_gap front rest s k
  where
    gap_gap : (g h : List ℕ) → IsGap g → IsGap h → IsGap (g ++ h)
    gap_gap g h no_line k = k
    gap_gap g h (one_more l rest e i) k = subst IsGap (sym (append_assoc l rest h)) (one_more l (rest ++ h) e (gap_gap rest h i k))
stream_front (u ∷ us) front rest s k = record {
  gap = s.gap;
  first = s.first;
  rest = s.rest ++ rest;
  is_gap = s.is_gap;
  is_first = s.is_first;
  is_rest = stream_front us s.rest rest s.is_rest k;
  spelled = ap (λ t. t ++ rest) s.spelled ∙ append_assoc s.gap (s.first ++ s.rest) rest ∙ ap (λ t. s.gap ++ t) (append_assoc s.first s.rest rest);
}

-- behind a stream stand bytes that are no gap, and their next update is not whole: all together are torn
pub still_torn : (vs : List UpdateView) (b front rest : List ℕ) → IsStream vs front → b ≡ front ++ rest → next_at (length front) rest ≡ Part → (IsGap rest → ⊥) → IsTorn b
still_torn vs b front rest s w e nogap = record {
  no_stream = λ us t. nogap (end_gap us b vs front rest t s w e);
  no_fault = λ at r f. let k = (runs_same 0 b vs f.updates Part (Bad at r) tt tt (front_runs vs b front rest Part s e w) (fault_runs b at r f)).1 in cc;
}

-- bytes are a stream, or have a fault, or are torn
pub decided : (b : List ℕ) → ((us : List UpdateView) × IsStream us b) ⊎ (((at : ℕ) × (r : Reason) × IsFault b at r) ⊎ IsTorn b)
decided b = go (scan (length b) 0 b (omega arith))
  where
    go : Scan 0 b → ((us : List UpdateView) × IsStream us b) ⊎ (((at : ℕ) × (r : Reason) × IsFault b at r) ⊎ IsTorn b)
    go s = by_next s (next_at (length s.front) s.rest) refl
      where
        by_next : (s : Scan 0 b) (o : Outcome UpdateView) → next_at (length s.front) s.rest ≡ o → ((us : List UpdateView) × IsStream us b) ⊎ (((at : ℕ) × (r : Reason) × IsFault b at r) ⊎ IsTorn b)
        by_next s (Bad at r) e = inr (inl (at, r, record { updates = s.updates; front = s.front; rest = s.rest; stream = s.stream; fault = e; spelled = s.spelled }))
        by_next s (Whole u to rest) e = absurd (let h : IsEnd (next_at (length s.front) s.rest) = subst (λ n. IsEnd (next_at n s.rest)) (let z : 0 + length s.front ≡ length s.front = omega arith in z) s.ends in subst IsEnd e h)
        by_next s Part e = elim (gap_cases s.rest) [
          | inl k ↦ inl (s.updates, subst (IsStream s.updates) (sym s.spelled) (stream_front s.updates s.front s.rest s.stream k))
          | inr not ↦ inr (inr (still_torn s.updates b s.front s.rest s.stream s.spelled e not))
        ]

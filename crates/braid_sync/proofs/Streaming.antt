-- Streams of updates behind data that grows, and what is heard of them.
use Rattle.std.proofs.Common.{◌≡◌, ◌≤◌, ℕ, suc, zero, List, [], ◌∷◌, ◌++◌, refl, ap, sym, subst, ◌∙◌, append_assoc, append-nil, length, take, length-append, arith}
use Rattle.std.proofs.lemmas.List.{take_all, take_at}
use Rattle.braid_change.specs.Updates.{UpdateView}
use Rattle.braid_grammar.specs.Streams.{no_line, SpellsUpdate, IsStream, BeginsWith, HaveUpdates}
use Rattle.braid_frame.specs.declared.fed.FrameFault.{FrameFault}
use Rattle.braid_frame.specs.Phases.{HasFault}
use Rattle.braid_frame.proofs.Stood.{fault_more}
use Rattle.braid_stream.specs.Readers.{most_bytes}
use Rattle.braid_sync.specs.Hearing.{BeginWith, seen}

-- an update behind a stream ends one
pub stream_ends : (us : List UpdateView) (u : UpdateView) (front last : List ℕ) → IsStream us front → SpellsUpdate u last → IsStream (us ++ u ∷ []) (front ++ last)
stream_ends [] u front last s l = record { gap = front; first = last; rest = []; is_gap = s; is_first = l; is_rest = no_line; spelled = ap (λ (t : List ℕ). front ++ t) (sym (append-nil last)) }
stream_ends (w ∷ us) u front last s l =
    record {
      gap = s.gap;
      first = s.first;
      rest = s.rest ++ last;
      is_gap = s.is_gap;
      is_first = s.is_first;
      is_rest = stream_ends us u s.rest last s.is_rest l;
      spelled = ap (λ (t : List ℕ). t ++ last) s.spelled ∙ append_assoc s.gap (s.first ++ s.rest) last ∙ ap (λ (t : List ℕ). s.gap ++ t) (append_assoc s.first s.rest last);
    }

pub begin_with : (us : List UpdateView) (u : UpdateView) (bytes : List ℕ) → BeginsWith us u bytes → BeginWith (us ++ u ∷ []) bytes
begin_with us u bytes b =
    record {
      front = b.front;
      rest = b.rest;
      stream = subst (IsStream (us ++ u ∷ [])) (sym b.ends.spelled) (stream_ends us u b.ends.front b.ends.last b.ends.stream b.ends.is_last);
      spelled = b.spelled;
    }

pub begin_none : (bytes : List ℕ) → BeginWith [] bytes
begin_none bytes = record { front = []; rest = bytes; stream = no_line; spelled = refl }

pub begin_more : (us : List UpdateView) (bytes more : List ℕ) → BeginWith us bytes → BeginWith us (bytes ++ more)
begin_more us bytes more b = record { front = b.front; rest = b.rest ++ more; stream = b.stream; spelled = ap (λ (t : List ℕ). t ++ more) b.spelled ∙ append_assoc b.front b.rest more }

-- the first bytes of more bytes begin with the first bytes of fewer
record GoesOnAs (short long : List ℕ) : Type 0 where
  pub rest : List ℕ
  pub whole : long ≡ short ++ rest

take_more_of : (n : ℕ) (xs ys : List ℕ) → GoesOnAs (take n xs) (take n (xs ++ ys))
take_more_of zero xs ys = record { rest = []; whole = refl }
take_more_of (suc n) [] ys = record { rest = take (suc n) ys; whole = refl }
take_more_of (suc n) (x ∷ xs) ys = let g = take_more_of n xs ys in record { rest = g.rest; whole = ap (λ (t : List ℕ). x ∷ t) g.whole }

pub begin_seen_more : (us : List UpdateView) (content more : List ℕ) → BeginWith us (seen content) → BeginWith us (seen (content ++ more))
begin_seen_more us content more b =
    let g = take_more_of most_bytes content more in
    subst (BeginWith us) (sym g.whole) (begin_more us (seen content) g.rest b)

-- bytes within the limit are seen whole, and what follows them is seen behind them
seen_whole : (n : ℕ) (bytes rest : List ℕ) → length bytes ≤ n → GoesOnAs bytes (take n (bytes ++ rest))
seen_whole n bytes rest w = subst (λ (t : List ℕ). GoesOnAs t (take n (bytes ++ rest))) (take_all n bytes w) (take_more_of n bytes rest)

pub begin_seen : (us : List UpdateView) (bytes rest content : List ℕ) → content ≡ bytes ++ rest → length bytes ≤ most_bytes → BeginWith us bytes → BeginWith us (seen content)
begin_seen us bytes rest content e w b =
    let g = seen_whole most_bytes bytes rest w in
    subst (λ (t : List ℕ). BeginWith us (seen t)) (sym e) (subst (BeginWith us) (sym g.whole) (begin_more us bytes g.rest b))

pub fault_seen : (us : List UpdateView) (bytes rest content : List ℕ) (f : FrameFault) → content ≡ bytes ++ rest → length bytes ≤ most_bytes → HasFault us bytes f → HasFault us (seen content) f
fault_seen us bytes rest content f e w h =
    let g = seen_whole most_bytes bytes rest w in
    subst (λ (t : List ℕ). HasFault us (seen t) f) (sym e) (subst (λ (t : List ℕ). HasFault us t f) (sym g.whole) (fault_more us bytes g.rest f h))

pub have_seen : (us : List UpdateView) (bytes rest content : List ℕ) → content ≡ bytes ++ rest → length bytes ≡ most_bytes → HaveUpdates us bytes → HaveUpdates us (seen content) × (most_bytes ≤ length content)
have_seen us bytes rest content e w h = (
  subst (λ (t : List ℕ). HaveUpdates us (seen t)) (sym e) (subst (HaveUpdates us) (sym (take_at bytes rest most_bytes w)) h),
  omega (arith, ap length e, length-append bytes rest, w),
)

-- What bytes hold behind the updates that they begin with.
use Rattle.std.proofs.Common.{◌≡◌, ℕ, suc, ◌+◌, List, [], ◌∷◌, ◌++◌, length, refl, sym, ap, subst, ◌∙◌, append_assoc, append-nil, length-append, arith}
use Rattle.braid_change.specs.Updates.{UpdateView}
use Rattle.braid_grammar.specs.Outcomes.{Outcome}
use Rattle.braid_grammar.specs.Readings.{next_at}
use Rattle.braid_grammar.specs.Streams.{no_line, HaveUpdates, BeginsWith}
use Rattle.braid_grammar.proofs.Spelled.{spelled_next}
use Rattle.braid_grammar.proofs.Completed.{runs_out}
use Rattle.braid_grammar.proofs.Law.{Runs, IsEnd, runs_same, stream_runs, scan}
use Rattle.braid_stream.specs.Readers.{HaveAnswer, update, fault}

-- the bytes are these updates, then this one, further ones, and then none that is whole
pub record Continues (us : List UpdateView) (u : UpdateView) (bytes : List ℕ) : Type 0 where
  pub further : List UpdateView
  pub last : Outcome UpdateView
  pub is_end : IsEnd last
  pub runs : Runs 0 bytes (us ++ u ∷ further) last

pub begins_runs : (us : List UpdateView) (u : UpdateView) (bytes : List ℕ) → BeginsWith us u bytes → Continues us u bytes
begins_runs us u bytes b =
    let e = b.ends in
    let at = 0 + length e.front in
    let to = at + length {A = ℕ} [] + length e.last in
    let s = scan (length b.rest) to b.rest (omega arith) in
    let after : Runs to (s.front ++ s.rest) (s.updates ++ []) (next_at (to + length s.front) s.rest) = stream_runs s.updates to s.front s.rest [] (next_at (to + length s.front) s.rest) s.stream refl in
    let rest_runs : Runs to b.rest s.updates (next_at (to + length s.front) s.rest) = subst (λ (t : List ℕ). Runs to t s.updates (next_at (to + length s.front) s.rest)) (sym s.spelled) (subst (λ (t : List UpdateView). Runs to (s.front ++ s.rest) t (next_at (to + length s.front) s.rest)) (append-nil s.updates) after) in
    let whole : bytes ≡ e.front ++ (e.last ++ b.rest) = b.spelled ∙ ap (λ (t : List ℕ). t ++ b.rest) e.spelled ∙ append_assoc e.front e.last b.rest in
    record {
      further = s.updates;
      last = next_at (to + length s.front) s.rest;
      is_end = s.ends;
      runs = subst (λ (t : List ℕ). Runs 0 t (us ++ u ∷ s.updates) (next_at (to + length s.front) s.rest)) (sym whole)
          (stream_runs us 0 e.front (e.last ++ b.rest) (u ∷ s.updates) (next_at (to + length s.front) s.rest) e.stream (to, b.rest, spelled_next u at [] e.last b.rest no_line e.is_last, rest_runs));
    }

-- bytes that complete these updates and have no fault hold no answer behind them
pub no_answer : (us : List UpdateView) (bytes : List ℕ) → HaveUpdates us bytes → HaveAnswer us bytes → ⊥
no_answer us bytes h (update u b) =
    let k = begins_runs us u bytes b in
    let r = runs_out us bytes h.completes in
    let same = (runs_same 0 bytes us (us ++ u ∷ k.further) r.outcome k.last r.is_end k.is_end r.runs k.runs).0 in
    let size : length (us ++ u ∷ k.further) ≡ length us + suc (length k.further) = length-append us (u ∷ k.further) in
    omega (arith, ap length same, size)
no_answer us bytes h (fault f k) = h.faultless f.at f.reason k.0

-- The updates that bytes hold whole.
use Rattle.std.proofs.Common.{◌≡◌, ℕ, List, [], ◌++◌, length, refl, sym, ap, arith, length-append}
use Rattle.std.proofs.lemmas.List.{append-nil}
use Rattle.braid_change.specs.Updates.{UpdateView}
use Rattle.braid_grammar.specs.Outcomes.{Outcome, Part, Bad, Whole}
use Rattle.braid_grammar.specs.Readings.{next_at}
use Rattle.braid_grammar.specs.Streams.{SpellsUpdate, IsStream, Completes}
use Rattle.braid_grammar.proofs.Back.{next_back}
use Rattle.braid_grammar.proofs.Law.{IsEnd, Runs, runs_same, front_runs, some_bytes}

-- behind them, the next update is not whole
pub record RunsOut (us : List UpdateView) (b : List ℕ) : Type 0 where
  pub outcome : Outcome UpdateView
  pub is_end : IsEnd outcome
  pub runs : Runs 0 b us outcome

pub runs_out : (us : List UpdateView) (b : List ℕ) → Completes us b → RunsOut us b
runs_out us b k = go (next_at (length k.front) k.rest) refl
  where
    go : (o : Outcome UpdateView) → next_at (length k.front) k.rest ≡ o → RunsOut us b
    go Part e = record { outcome = Part; is_end = tt; runs = front_runs us b k.front k.rest Part k.stream e k.spelled }
    go (Bad at r) e = record { outcome = Bad at r; is_end = tt; runs = front_runs us b k.front k.rest (Bad at r) k.stream e k.spelled }
    go (Whole u to rest) e = let n = next_back (length k.front) k.rest u to rest e in absurd (k.no_more u n.gap n.first rest n.is_gap n.is_first n.spelled)

-- bytes hold one list of updates whole
pub one_list : (us vs : List UpdateView) (b : List ℕ) → Completes us b → Completes vs b → us ≡ vs
one_list us vs b k l =
    let r = runs_out us b k in
    let s = runs_out vs b l in
    (runs_same 0 b us vs r.outcome s.outcome r.is_end s.is_end r.runs s.runs).0

-- a stream holds its updates whole
pub stream_completes : (us : List UpdateView) (b : List ℕ) → IsStream us b → Completes us b
stream_completes us b s = record {
  front = b;
  rest = [];
  stream = s;
  no_more = λ u gap first more g k e. none u gap first more k e;
  spelled = sym (append-nil b);
}
  where
    none : (u : UpdateView) (gap first more : List ℕ) → SpellsUpdate u first → [] ≡ gap ++ (first ++ more) → ⊥
    none u gap first more k e = omega (arith, some_bytes u first k, ap length e, length-append gap (first ++ more), length-append first more)

-- Updates at the front of bytes, and what stands behind them.
use Rattle.std.proofs.Common.{◌≡◌, ℕ, append_assoc, List, [], ◌∷◌, ◌++◌, inl, inr, ◌⊎◌, refl, ap, sym, subst, ◌∙◌, length}
use Rattle.braid_change.specs.Updates.{UpdateView}
use Rattle.braid_fields.specs.declared.reason.Reason.{Reason}
use Rattle.braid_grammar.specs.Outcomes.{Outcome, Part, Bad, Whole}
use Rattle.braid_grammar.specs.Readings.{next_at}
use Rattle.braid_grammar.specs.Streams.{IsStream, Completes}
use Rattle.braid_grammar.proofs.Stable.{Extends}
use Rattle.braid_grammar.proofs.Readers.{next_stable}
use Rattle.braid_grammar.proofs.Law.{IsEnd, Runs, runs_same, front_runs, fault_runs}
use Rattle.braid_grammar.proofs.Completed.{runs_out, stream_completes}
use Rattle.braid_frame.specs.declared.fed.FrameFault.{FrameFault}
use Rattle.braid_frame.specs.Phases.{HasFault}
use Rattle.braid_sync.specs.Hearing.{BeginWith}

not_whole : (o : Outcome UpdateView) (u : UpdateView) (to : ℕ) (rest : List ℕ) → IsEnd o → o ≡ Whole u to rest → ⊥
not_whole Part u to rest h e = cc
not_whole (Bad at r) u to rest h e = cc
not_whole (Whole v s t) u to rest h e = h

-- where no whole update follows some updates, the bytes do not begin with more of them
runs_stop : (at : ℕ) (b : List ℕ) (us : List UpdateView) (w : UpdateView) (ws : List UpdateView) (o p : Outcome UpdateView) → IsEnd p → Runs at b us p → Runs at b (us ++ w ∷ ws) o → ⊥
runs_stop at b [] w ws o p h r s = not_whole p w s.0 s.1 h (sym r ∙ s.2)
runs_stop at b (u ∷ us) w ws o p h r s =
    let e : Whole u r.0 r.1 ≡ Whole u s.0 s.1 = sym r.2 ∙ s.2 in
    let to_is : s.0 ≡ r.0 = cc in
    let rest_is : s.1 ≡ r.1 = cc in
    runs_stop r.0 r.1 us w ws o p h r.3 (subst (λ x. Runs r.0 x (us ++ w ∷ ws) o) rest_is (subst (λ x. Runs x s.1 (us ++ w ∷ ws) o) to_is s.3))

-- of two lists of updates that bytes begin with, one begins with the other
runs_compare : (at : ℕ) (b : List ℕ) (us vs : List UpdateView) (o p : Outcome UpdateView) → Runs at b us o → Runs at b vs p
    → ((ws : List UpdateView) × (vs ≡ us ++ ws)) ⊎ ((w : UpdateView) × (ws : List UpdateView) × (us ≡ vs ++ w ∷ ws))
runs_compare at b [] vs o p r s = inl (vs, refl)
runs_compare at b (u ∷ us) [] o p r s = inr (u, us, refl)
runs_compare at b (u ∷ us) (v ∷ vs) o p r s =
    let e : Whole u r.0 r.1 ≡ Whole v s.0 s.1 = sym r.2 ∙ s.2 in
    let first : u ≡ v = cc in
    let back = sym first in
    let to_is : s.0 ≡ r.0 = cc in
    let rest_is : s.1 ≡ r.1 = cc in
    elim (runs_compare r.0 r.1 us vs o p r.3 (subst (λ x. Runs r.0 x vs p) rest_is (subst (λ x. Runs x s.1 vs p) to_is s.3))) [
      | inl k ↦ inl (k.0, λ i. back i ∷ k.1 i)
      | inr k ↦ inr (k.0, k.1, λ i. first i ∷ k.2 i)
    ]

begins_runs : (us : List UpdateView) (b : List ℕ) → BeginWith us b → (o : Outcome UpdateView) × Runs 0 b us o
begins_runs us b k = (next_at (length k.front) k.rest, front_runs us b k.front k.rest _ k.stream refl k.spelled)

pub begins_compare : (us vs : List UpdateView) (b : List ℕ) → BeginWith us b → BeginWith vs b
    → ((ws : List UpdateView) × (vs ≡ us ++ ws)) ⊎ ((w : UpdateView) × (ws : List UpdateView) × (us ≡ vs ++ w ∷ ws))
begins_compare us vs b k l = let r = begins_runs us b k in let s = begins_runs vs b l in runs_compare 0 b us vs r.0 s.0 r.1 s.1

-- bytes that begin with updates and one more
abbrev pub BeginPast : List UpdateView → UpdateView → List UpdateView → List ℕ → Type 0
BeginPast us w ws b = BeginWith (us ++ w ∷ ws) b

-- where exactly some updates are whole, no more of them are
pub complete_stops : (us : List UpdateView) (w : UpdateView) (ws : List UpdateView) (b : List ℕ) → Completes us b → BeginPast us w ws b → ⊥
complete_stops us w ws b k l =
    let r = runs_out us b k in
    let s = begins_runs (us ++ w ∷ ws) b l in
    runs_stop 0 b us w ws s.0 r.outcome r.is_end r.runs s.1

pub stream_stops : (us : List UpdateView) (w : UpdateView) (ws : List UpdateView) (b : List ℕ) → IsStream us b → BeginPast us w ws b → ⊥
stream_stops us w ws b k l = complete_stops us w ws b (stream_completes us b k) l

has_fault_runs : (us : List UpdateView) (b : List ℕ) (f : FrameFault) → HasFault us b f → Runs 0 b us (Bad f.at f.reason)
has_fault_runs us b f h = subst (λ vs. Runs 0 b vs (Bad f.at f.reason)) h.1 (fault_runs b f.at f.reason h.0)

pub fault_stops : (us : List UpdateView) (w : UpdateView) (ws : List UpdateView) (b : List ℕ) (f : FrameFault) → HasFault us b f → BeginPast us w ws b → ⊥
fault_stops us w ws b f h l =
    let s = begins_runs (us ++ w ∷ ws) b l in
    runs_stop 0 b us w ws s.0 (Bad f.at f.reason) tt (has_fault_runs us b f h) s.1

-- bytes have one fault
pub same_fault : (us vs : List UpdateView) (b : List ℕ) (f g : FrameFault) → HasFault us b f → HasFault vs b g → f ≡ g
same_fault us vs b f g h k =
    let e = (runs_same 0 b us vs (Bad f.at f.reason) (Bad g.at g.reason) tt tt (has_fault_runs us b f h) (has_fault_runs vs b g k)).1 in
    let place : f.at ≡ g.at = cc in
    let why : f.reason ≡ g.reason = cc in
    λ i. record { at = place i; reason = why i }

-- what bytes begin with, longer ones do
pub begins_more : (us : List UpdateView) (b m : List ℕ) → BeginWith us b → BeginWith us (b ++ m)
begins_more us b m k = record { front = k.front; rest = k.rest ++ m; stream = k.stream; spelled = ap (λ t. t ++ m) k.spelled ∙ append_assoc k.front k.rest m }

bad_stays : (o p : Outcome UpdateView) (m : List ℕ) (at : ℕ) (r : Reason) → o ≡ Bad at r → Extends o p m → p ≡ Bad at r
bad_stays Part p m at r e h = absurd (cc)
bad_stays (Bad to s) p m at r e h = h ∙ e
bad_stays (Whole u to rest) p m at r e h = absurd (cc)

-- the fault of bytes is that of longer ones
pub fault_more : (us : List UpdateView) (b m : List ℕ) (f : FrameFault) → HasFault us b f → HasFault us (b ++ m) f
fault_more us b m f h =
    let k = h.0 in (
      record {
        updates = k.updates;
        front = k.front;
        rest = k.rest ++ m;
        stream = k.stream;
        fault = bad_stays (next_at (length k.front) k.rest) (next_at (length k.front) (k.rest ++ m)) m f.at f.reason k.fault (next_stable (length k.front) k.rest m);
        spelled = ap (λ t. t ++ m) k.spelled ∙ append_assoc k.front k.rest m;
      },
      h.1,
    )

-- the first updates of a stream are a stream
record Cut (us vs : List UpdateView) (front : List ℕ) : Type 0 where
  before : List ℕ
  behind : List ℕ
  first : IsStream us before
  whole : front ≡ before ++ behind

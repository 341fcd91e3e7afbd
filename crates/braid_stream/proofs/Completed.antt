-- What the updates that bytes complete say of streams.
use Rattle.std.proofs.Common.{◌≡◌, ℕ, List, sym, subst}
use Rattle.braid_change.specs.Updates.{UpdateView}
use Rattle.braid_grammar.specs.Streams.{Completes, IsStream, HaveUpdates, IsTorn}
use Rattle.braid_grammar.proofs.Completed.{one_list, stream_completes}

-- the updates of a stream are those that it completes
pub stream_completed : (us vs : List UpdateView) (bytes : List ℕ) → Completes us bytes → IsStream vs bytes → us ≡ vs
stream_completed us vs bytes c s = one_list us vs bytes c (stream_completes vs bytes s)

-- bytes without a fault that are no stream are torn
pub torn_of : (us : List UpdateView) (bytes : List ℕ) → HaveUpdates us bytes → (IsStream us bytes → ⊥) → IsTorn bytes
torn_of us bytes h n =
    record {
      no_stream = λ vs s. n (subst (λ (t : List UpdateView). IsStream t bytes) (sym (stream_completed us vs bytes h.completes s)) s);
      no_fault = h.faultless;
    }

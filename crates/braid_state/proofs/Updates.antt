-- Updates that are read one after the other, each after a gap.
use Rattle.std.proofs.Common.{◌≡◌, ℕ, ◌+◌, List, [], ◌∷◌, ◌++◌, length, take, drop, refl, sym, ap, ◌∙◌, subst, append_assoc}
use Rattle.std.proofs.lemmas.List.{take-append-drop}
use Rattle.braid_change.specs.Updates.{UpdateView}
use Rattle.braid_grammar.specs.Outcomes.{Outcome, Part, Bad, Whole}
use Rattle.braid_grammar.specs.Readings.{next_at}
use Rattle.braid_grammar.specs.Streams.{Completes, EndsWith}
use Rattle.braid_grammar.proofs.Law.{IsEnd}
use Rattle.braid_grammar.proofs.Spelled.{spelled_next}
use Rattle.braid_grammar.proofs.Completed.{runs_out}
use Rattle.braid_state.specs.States.{UpdatesThen}
use Rattle.braid_state.specs.StateFaults.{BeginsNoUpdate}
use Rattle.braid_state.specs.Stops.{IsFirstUpdate}

ended : (o : Outcome UpdateView) (u : UpdateView) (to : ℕ) (rest : List ℕ) → IsEnd o → o ≡ Whole u to rest → ⊥
ended Part u to rest h e = cc
ended (Bad at r) u to rest h e = cc
ended (Whole v s t) u to rest h e = h

-- bytes that complete no update begin with none
pub none_begins : (bytes : List ℕ) → Completes [] bytes → BeginsNoUpdate bytes
none_begins bytes k u gap first more g w e =
    let r = runs_out [] bytes k in
    ended r.outcome u (0 + length gap + length first) more r.is_end (sym r.runs ∙ ap (next_at 0) e ∙ spelled_next u 0 gap first more g w)

-- an update that ends with a front of the bytes is the first, and the rest follows it
pub ends_first : (u : UpdateView) (n : ℕ) (bytes : List ℕ) → EndsWith [] u (take n bytes) → IsFirstUpdate u (drop n bytes) bytes
ends_first u n bytes k = record {
  gap = k.front;
  first = k.last;
  is_gap = k.stream;
  is_first = k.is_last;
  spelled = sym (take-append-drop n bytes) ∙ ap (λ t. t ++ drop n bytes) k.spelled ∙ append_assoc k.front k.last (drop n bytes);
}

-- one update more
pub one_update_more : (us : List UpdateView) (u : UpdateView) (rest after bytes : List ℕ) → UpdatesThen us rest bytes → IsFirstUpdate u after rest → UpdatesThen (us ++ u ∷ []) after bytes
one_update_more [] u rest after bytes h k = record { gap = k.gap; first = k.first; rest = after; is_gap = k.is_gap; is_first = k.is_first; is_rest = refl; spelled = h ∙ k.spelled }
one_update_more (v ∷ us) u rest after bytes h k = record { gap = h.gap; first = h.first; rest = h.rest; is_gap = h.is_gap; is_first = h.is_first; is_rest = one_update_more us u rest after h.rest h.is_rest k; spelled = h.spelled }

pub updates_join : (us vs : List UpdateView) (rest after bytes : List ℕ) → UpdatesThen us rest bytes → UpdatesThen vs after rest → UpdatesThen (us ++ vs) after bytes
updates_join [] vs rest after bytes h k = subst (UpdatesThen vs after) (sym h) k
updates_join (u ∷ us) vs rest after bytes h k = record { gap = h.gap; first = h.first; rest = h.rest; is_gap = h.is_gap; is_first = h.is_first; is_rest = updates_join us vs rest after h.rest h.is_rest k; spelled = h.spelled }

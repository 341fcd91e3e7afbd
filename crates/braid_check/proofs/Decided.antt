-- Bytes show a fault behind accepted updates, or an update that is refused, or nothing of the kind.
use Rattle.std.proofs.Common.{◌≡◌, ℕ, ◌+◌, List, [], ◌∷◌, ◌++◌, length, refl, sym, ap, subst, ◌∙◌, append_assoc, append-nil, arith, inl, inr, ◌⊎◌}
use Rattle.braid_change.specs.Updates.{UpdateView}
use Rattle.braid_grammar.specs.Outcomes.{Outcome, Part, Bad, Whole}
use Rattle.braid_grammar.specs.Readings.{next_at}
use Rattle.braid_grammar.proofs.Spelled.{spelled_next}
use Rattle.braid_grammar.proofs.Law.{IsEnd, runs_same, front_runs, fault_runs, Scan, scan}
use Rattle.braid_grammar.specs.Streams.{IsStream, BeginsWith}
use Rattle.braid_stream.proofs.Budgets.{stream_begins, begins_on}
use Rattle.braid_text.specs.declared.accept.Accept.{Accept}
use Rattle.braid_text.specs.declared.accept.Accept.TheVariants.{New, Known, Clash, UnknownParent, OutOfRange, Full, Memory}
use Rattle.braid_check.specs.Accepted.{IsAccepted, AreAccepted, IsRefused, history_of, replica_answer}
use Rattle.braid_check.specs.CheckTexts.{IsFound, fault, refusal, ShowNothing, fault_text, refusal_text}
use Rattle.braid_check.proofs.OneByOne.{none_accepted, accepted_more}

-- an answer accepts the update or not
accepts_or_not : (a : Accept) → IsAccepted a ⊎ ¬ (IsAccepted a)
accepts_or_not New = inl tt
accepts_or_not Known = inl tt
accepts_or_not (Clash id) = inr (λ a. a)
accepts_or_not (UnknownParent id) = inr (λ a. a)
accepts_or_not (OutOfRange patch len) = inr (λ a. a)
accepts_or_not (Full which need room) = inr (λ a. a)
accepts_or_not Memory = inr (λ a. a)

-- the first of updates that is refused
record Refusal (earlier ws : List UpdateView) : Type 0 where
  pub before : List UpdateView
  pub u : UpdateView
  pub after : List UpdateView
  pub whole : ws ≡ before ++ u ∷ after
  pub refused : IsRefused (earlier ++ before) u

accepted_or_not : (earlier ws : List UpdateView) → AreAccepted earlier → AreAccepted (earlier ++ ws) ⊎ Refusal earlier ws
accepted_or_not earlier [] a = inl (subst AreAccepted (sym (append-nil earlier)) a)
accepted_or_not earlier (w ∷ ws) a = go (accepts_or_not (replica_answer (history_of earlier) w)) (λ b. accepted_or_not (earlier ++ w ∷ []) ws b)
  where
    go : IsAccepted (replica_answer (history_of earlier) w) ⊎ ¬ (IsAccepted (replica_answer (history_of earlier) w)) → (AreAccepted (earlier ++ w ∷ []) → AreAccepted ((earlier ++ w ∷ []) ++ ws) ⊎ Refusal (earlier ++ w ∷ []) ws) → AreAccepted (earlier ++ w ∷ ws) ⊎ Refusal earlier (w ∷ ws)
    go (inr n) k = inr (record { before = []; u = w; after = ws; whole = refl; refused = subst (λ (t : List UpdateView). IsRefused t w) (sym (append-nil earlier)) (record { accepted = a; refused = n }) })
    go (inl y) k = elim (k ((accepted_more earlier w).1 (a, y))) [
      | inl b ↦ inl (subst AreAccepted (append_assoc earlier (w ∷ []) ws) b)
      | inr r ↦ inr (record { before = w ∷ r.before; u = r.u; after = r.after; whole = ap (λ (t : List UpdateView). w ∷ t) r.whole; refused = subst (λ (t : List UpdateView). IsRefused t r.u) (append_assoc earlier (w ∷ []) r.before) r.refused })
    ]

-- a fault behind accepted updates, an update that is refused, or nothing of the kind
pub decided : (bytes : List ℕ) → ((text : List ℕ) × IsFound bytes text) ⊎ ShowNothing bytes
decided bytes = by_scan (scan (length bytes) 0 bytes (omega arith))
  where
    by_next : (s : Scan 0 bytes) → AreAccepted s.updates → (o : Outcome UpdateView) → next_at (length s.front) s.rest ≡ o → ((text : List ℕ) × IsFound bytes text) ⊎ ShowNothing bytes
    by_next s c (Bad at r) e =
        inl (fault_text (record { at = at; reason = r }), fault s.updates (record { at = at; reason = r }) c (record { updates = s.updates; front = s.front; rest = s.rest; stream = s.stream; fault = e; spelled = s.spelled }, refl) refl)
    by_next s c (Whole u to rest) e = absurd (let h : IsEnd (next_at (length s.front) s.rest) = subst (λ (n : ℕ). IsEnd (next_at n s.rest)) (let z : 0 + length s.front ≡ length s.front = omega arith in z) s.ends in subst IsEnd e h)
    by_next s c Part e = inr (record {
      updates = s.updates;
      accepted = c;
      have = record {
        completes = record {
          front = s.front;
          rest = s.rest;
          stream = s.stream;
          no_more = λ u gap first more g k w. let z : Part ≡ Whole u (length s.front + length gap + length first) more = sym e ∙ ap (next_at (length s.front)) w ∙ spelled_next u (length s.front) gap first more g k in cc;
          spelled = s.spelled;
        };
        faultless = λ at r f. let z = (runs_same 0 bytes s.updates f.updates Part (Bad at r) tt tt (front_runs s.updates bytes s.front s.rest Part s.stream e s.spelled) (fault_runs bytes at r f)).1 in cc;
      };
    })

    by_updates : (s : Scan 0 bytes) → AreAccepted s.updates ⊎ Refusal [] s.updates → ((text : List ℕ) × IsFound bytes text) ⊎ ShowNothing bytes
    by_updates s (inl a) = by_next s a (next_at (length s.front) s.rest) refl
    by_updates s (inr r) =
        let b = stream_begins r.before r.u r.after s.front (subst (λ (t : List UpdateView). IsStream t s.front) r.whole s.stream) in
        inl (refusal_text (replica_answer (history_of r.before) r.u), refusal r.before r.u r.refused (subst (BeginsWith r.before r.u) (sym s.spelled) (begins_on r.before r.u s.front s.rest b)) refl)

    by_scan : Scan 0 bytes → ((text : List ℕ) × IsFound bytes text) ⊎ ShowNothing bytes
    by_scan s = by_updates s (accepted_or_not [] s.updates none_accepted)

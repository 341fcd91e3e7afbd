-- Bytes have one text for each way in which reading ends.
use Rattle.std.proofs.Common.{◌≡◌, ℕ, List, [], ◌∷◌, ◌++◌, length, refl, sym, ap, subst, ◌∙◌, append_assoc, inl, inr, ◌⊎◌}
use Rattle.braid_io.specs.declared.status.Status.{Status}
use Rattle.braid_change.specs.Updates.{UpdateView}
use Rattle.braid_grammar.specs.Outcomes.{Outcome, Part, Bad, Whole}
use Rattle.braid_grammar.specs.Readings.{next_at}
use Rattle.braid_grammar.specs.Streams.{IsStream, HaveUpdates, BeginsWith}
use Rattle.braid_grammar.proofs.Stable.{Extends}
use Rattle.braid_grammar.proofs.Readers.{next_stable}
use Rattle.braid_grammar.proofs.Completed.{runs_out, stream_completes}
use Rattle.braid_grammar.proofs.Law.{Runs, IsEnd, runs_same, fault_runs, one_stream, one_fault, no_stream}
use Rattle.braid_frame.specs.declared.fed.FrameFault.{FrameFault}
use Rattle.braid_frame.specs.Phases.{HasFault}
use Rattle.braid_stream.proofs.AtHand.{begins_runs}
use Rattle.braid_stream.proofs.Budgets.{begins_on}
use Rattle.braid_check.specs.Accepted.{AreAccepted, IsRefused, history_of, replica_answer}
use Rattle.braid_check.specs.CheckTexts.{Ending, found, ended, failed, spent, IsFound, fault, refusal, ShowNothing, IsEndText, stream, torn, IsCheckText, fault_text, history_text, refusal_text}

-- bytes whose updates are accepted show none that is refused
pub no_refusal : (ws us : List UpdateView) (u : UpdateView) (bytes : List ℕ) (o : Outcome UpdateView) → IsEnd o → Runs 0 bytes ws o → AreAccepted ws → IsRefused us u → BeginsWith us u bytes → ⊥
no_refusal ws us u bytes o h r a n b =
    let k = begins_runs us u bytes b in
    let same = (runs_same 0 bytes ws (us ++ u ∷ k.further) o k.last h k.is_end r k.runs).0 in
    n.refused (a us k.further u same)

-- a fault behind accepted updates, and none that is refused
pub no_both : (ws us : List UpdateView) (u : UpdateView) (bytes : List ℕ) (f : FrameFault) → AreAccepted ws → HasFault ws bytes f → IsRefused us u → BeginsWith us u bytes → ⊥
no_both ws us u bytes f a h n b = no_refusal ws us u bytes (Bad f.at f.reason) tt (subst (λ (t : List UpdateView). Runs 0 bytes t (Bad f.at f.reason)) h.1 (fault_runs bytes f.at f.reason h.0)) a n b

pub found_apart : (bytes text : List ℕ) → IsFound bytes text → ShowNothing bytes → ⊥
found_apart bytes text (fault us f a h e) s = s.have.faultless f.at f.reason h.0
found_apart bytes text (refusal us u n b e) s =
    let k = runs_out s.updates bytes s.have.completes in
    no_refusal s.updates us u bytes k.outcome k.is_end k.runs s.accepted n b

-- a stream completes its updates and has no fault
pub stream_updates : (us : List UpdateView) (bytes : List ℕ) → IsStream us bytes → HaveUpdates us bytes
stream_updates us bytes s = record { completes = stream_completes us bytes s; faultless = λ at r f. no_stream us bytes at r s f }

stream_shows : (us : List UpdateView) (bytes : List ℕ) → AreAccepted us → IsStream us bytes → ShowNothing bytes
stream_shows us bytes a s = record { updates = us; accepted = a; have = stream_updates us bytes s }

pub found_no_stream : (us : List UpdateView) (bytes text : List ℕ) → AreAccepted us → IsStream us bytes → IsFound bytes text → ⊥
found_no_stream us bytes text c s f = found_apart bytes text f (stream_shows us bytes c s)

same_fault : (bytes : List ℕ) (us vs : List UpdateView) (f g : FrameFault) → HasFault us bytes f → HasFault vs bytes g → fault_text f ≡ fault_text g
same_fault bytes us vs f g h k =
    let e = one_fault bytes f.at g.at f.reason g.reason h.0 k.0 in
    λ i. fault_text (record { at = e.0 i; reason = e.1 i })

-- where two updates stand in one list: at one place, or the second behind the first, or the first behind the second
record AreOne (us vs : List UpdateView) (u v : UpdateView) : Type 0 where
  pub before : us ≡ vs
  pub same : u ≡ v

record IsBehind (us : List UpdateView) (u : UpdateView) (vs : List UpdateView) : Type 0 where
  pub between : List UpdateView
  pub whole : vs ≡ us ++ u ∷ between

places : (us vs back rest : List UpdateView) (u v : UpdateView) → us ++ u ∷ back ≡ vs ++ v ∷ rest → AreOne us vs u v ⊎ (IsBehind us u vs ⊎ IsBehind vs v us)
places [] [] back rest u v e = inl (record { before = refl; same = cc })
places [] (y ∷ vs) back rest u v e = let same : y ≡ u = cc in inr (inl (record { between = vs; whole = ap (λ (t : UpdateView). t ∷ vs) same }))
places (x ∷ us) [] back rest u v e = let same : x ≡ v = cc in inr (inr (record { between = us; whole = ap (λ (t : UpdateView). t ∷ us) same }))
places (x ∷ us) (y ∷ vs) back rest u v e =
    let same : x ≡ y = cc in
    let others : us ++ u ∷ back ≡ vs ++ v ∷ rest = cc in
    elim (places us vs back rest u v others) [
      | inl o ↦ inl (record { before = (λ i. same i ∷ o.before i); same = o.same })
      | inr (inl b) ↦ inr (inl (record { between = b.between; whole = (λ i. sym same i ∷ b.whole i) }))
      | inr (inr b) ↦ inr (inr (record { between = b.between; whole = (λ i. same i ∷ b.whole i) }))
    ]

-- bytes begin with one update at most that is refused behind accepted ones
one_refusal : (us vs : List UpdateView) (u v : UpdateView) (bytes : List ℕ) → IsRefused us u → BeginsWith us u bytes → IsRefused vs v → BeginsWith vs v bytes → AreOne us vs u v
one_refusal us vs u v bytes n b m c =
    let k = begins_runs us u bytes b in
    let l = begins_runs vs v bytes c in
    elim (places us vs k.further l.further u v (runs_same 0 bytes (us ++ u ∷ k.further) (vs ++ v ∷ l.further) k.last l.last k.is_end l.is_end k.runs l.runs).0) [
      | inl o ↦ o
      | inr (inl behind) ↦ absurd (n.refused (m.accepted us behind.between u behind.whole))
      | inr (inr behind) ↦ absurd (m.refused (n.accepted vs behind.between v behind.whole))
    ]

one_found : (bytes x y : List ℕ) → IsFound bytes x → IsFound bytes y → x ≡ y
one_found bytes x y (fault us f a h e) (fault vs g c k w) = e ∙ same_fault bytes us vs f g h k ∙ sym w
one_found bytes x y (fault us f a h e) (refusal vs v n b w) = absurd (no_both us vs v bytes f a h n b)
one_found bytes x y (refusal us u n b e) (fault vs g c k w) = absurd (no_both vs us u bytes g c k n b)
one_found bytes x y (refusal us u n b e) (refusal vs v m c w) =
    let one = one_refusal us vs u v bytes n b m c in
    e ∙ (λ i. refusal_text (replica_answer (history_of (one.before i)) (one.same i))) ∙ sym w

one_end : (bytes x y : List ℕ) (s t : Status) → IsEndText bytes s x → IsEndText bytes t y → (s ≡ t) × (x ≡ y)
one_end bytes x y s t (stream us c k e w) (stream vs d l f z) = (e ∙ sym f, w ∙ ap (λ (t : List UpdateView). history_text (history_of t)) (one_stream us vs bytes k l) ∙ sym z)
one_end bytes x y s t (stream us c k e w) (torn n l f z) = absurd (l.no_stream us k)
one_end bytes x y s t (torn n k e w) (stream vs d l f z) = absurd (k.no_stream vs l)
one_end bytes x y s t (torn n k e w) (torn m l f z) = (e ∙ sym f, w ∙ sym z)

-- the text and the status follow from the bytes and from how reading ended
pub one_text : (ending : Ending) (bytes : List ℕ) (s t : Status) (x y : List ℕ) → IsCheckText ending bytes s x → IsCheckText ending bytes t y → (s ≡ t) × (x ≡ y)
one_text found bytes s t x y a b = (a.0 ∙ sym b.0, one_found bytes x y a.1 b.1)
one_text ended bytes s t x y a b = one_end bytes x y s t a b
one_text failed bytes s t x y a b = (a.1 ∙ sym b.1, a.2 ∙ sym b.2)
one_text spent bytes s t x y a b = (a.1 ∙ sym b.1, a.2 ∙ sym b.2)

-- bytes that show a fault or another update have no text for another end
pub found_only : (ending : Ending) (bytes : List ℕ) (s t : Status) (x y : List ℕ) → IsCheckText found bytes s x → IsCheckText ending bytes t y → ending ≡ found
found_only found bytes s t x y a b = refl
found_only ended bytes s t x y a (stream us c k e w) = absurd (found_no_stream us bytes x c k a.1)
found_only ended bytes s t x y a (torn n k e w) = absurd (found_apart bytes x a.1 n)
found_only failed bytes s t x y a b = absurd (found_apart bytes x a.1 b.0)
found_only spent bytes s t x y a b = absurd (found_apart bytes x a.1 b.0)

-- what bytes show stays, whatever follows
fault_on : (us : List UpdateView) (bytes more : List ℕ) (f : FrameFault) → HasFault us bytes f → HasFault us (bytes ++ more) f
fault_on us bytes more f h = (
  record {
    updates = h.0.updates;
    front = h.0.front;
    rest = h.0.rest ++ more;
    stream = h.0.stream;
    fault = on (next_at (length h.0.front) h.0.rest) (next_at (length h.0.front) (h.0.rest ++ more)) h.0.fault (next_stable (length h.0.front) h.0.rest more);
    spelled = ap (λ (t : List ℕ). t ++ more) h.0.spelled ∙ append_assoc h.0.front h.0.rest more;
  },
  h.1,
)
  where
    on : (o p : Outcome UpdateView) → o ≡ Bad f.at f.reason → Extends o p more → p ≡ Bad f.at f.reason
    on Part p e k = absurd (cc)
    on (Bad at r) p e k = k ∙ e
    on (Whole u to rest) p e k = absurd (cc)

pub found_on : (bytes more text : List ℕ) → IsFound bytes text → IsFound (bytes ++ more) text
found_on bytes more text (fault us f c h e) = fault us f c (fault_on us bytes more f h) e
found_on bytes more text (refusal us u n b e) = refusal us u n (begins_on us u bytes more b) e

pub found_stays : (bytes more : List ℕ) (s : Status) (x : List ℕ) → IsCheckText found bytes s x → IsCheckText found (bytes ++ more) s x
found_stays bytes more s x a = (a.0, found_on bytes more x a.1)

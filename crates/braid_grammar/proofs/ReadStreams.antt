-- Reading streams of whole slices.
use Rattle.std.proofs.Common.{◌≡◌, ℕ, ◌+◌, ◌<◌, List, [], ◌∷◌, ◌++◌, length, refl, sym, ap, subst, ◌∙◌, append_assoc, arith, length-append}
use Rattle.std.proofs.lemmas.List.{append-nil}
use Rattle.braid_change.specs.Updates.{UpdateView}
use Rattle.braid_fields.specs.declared.reason.Reason.{Reason}
use Rattle.braid_grammar.specs.declared.stream.StreamEnd.{StreamEnd}
use Rattle.braid_grammar.specs.declared.stream.StreamEnd.TheVariants as ends
use Rattle.braid_grammar.specs.Outcomes.{Outcome, Part, Bad, Whole}
use Rattle.braid_grammar.specs.Readings.{next_at}
use Rattle.braid_grammar.specs.Streams.{IsGap, no_line, one_more, SpellsUpdate, IsStream, IsFault, Completes}
use Rattle.braid_grammar.specs.Readers.{IsBehindGap, IsRead, IsEnd}
use Rattle.braid_grammar.proofs.Spelled.{spelled_next}
use Rattle.braid_grammar.proofs.Back.{next_back}
use Rattle.braid_grammar.proofs.Law.{gap_rest, shorter, stream_front, still_torn}
use Rattle.braid_grammar.proofs.Canonical.{gap_append}

-- these updates were read, and the rest follows
pub record AreRead (us : List UpdateView) (at : ℕ) (bytes rest : List ℕ) : Type 0 where
  pub front : List ℕ
  pub stream : IsStream us front
  pub spelled : bytes ≡ front ++ rest
  pub place : at ≡ length front

pub none_read : (bytes : List ℕ) → AreRead [] 0 bytes bytes
none_read bytes = record { front = []; stream = no_line; spelled = refl; place = refl }

-- a further update behind a stream
stream_more : (us : List UpdateView) (u : UpdateView) (front gap first : List ℕ) → IsStream us front → IsGap gap → SpellsUpdate u first → IsStream (us ++ u ∷ []) (front ++ (gap ++ first))
stream_more [] u front gap first s g k = record {
  gap = front ++ gap;
  first = first;
  rest = [];
  is_gap = gap_append front gap s g;
  is_first = k;
  is_rest = no_line;
  spelled = sym (append_assoc front gap first) ∙ ap (λ t. (front ++ gap) ++ t) (sym (append-nil first));
}
stream_more (v ∷ us) u front gap first s g k = record {
  gap = s.gap;
  first = s.first;
  rest = s.rest ++ (gap ++ first);
  is_gap = s.is_gap;
  is_first = s.is_first;
  is_rest = stream_more us u s.rest gap first s.is_rest g k;
  spelled = ap (λ t. t ++ (gap ++ first)) s.spelled ∙ append_assoc s.gap (s.first ++ s.rest) (gap ++ first) ∙ ap (λ t. s.gap ++ t) (append_assoc s.first s.rest (gap ++ first));
}

pub one_read : (us : List UpdateView) (at : ℕ) (bytes rest : List ℕ) (u : UpdateView) (last : ℕ) (left : List ℕ) → AreRead us at bytes rest → next_at at rest ≡ Whole u last left → AreRead (us ++ u ∷ []) last bytes left
one_read us at bytes rest u last left r e =
    let n = next_back at rest u last left e in
    record {
      front = r.front ++ (n.gap ++ n.first);
      stream = stream_more us u r.front n.gap n.first r.stream n.is_gap n.is_first;
      spelled = r.spelled ∙ ap (λ t. r.front ++ t) (n.spelled ∙ sym (append_assoc n.gap n.first left)) ∙ sym (append_assoc r.front (n.gap ++ n.first) left);
      place = omega (arith, n.place, r.place, length-append r.front (n.gap ++ n.first), length-append n.gap n.first);
    }

pub read_same : (us vs : List UpdateView) (at : ℕ) (bytes rest : List ℕ) → vs ≡ us → AreRead us at bytes rest → AreRead vs at bytes rest
read_same us vs at bytes rest e r = subst (λ x. AreRead x at bytes rest) (sym e) r

pub read_shorter : (at : ℕ) (rest : List ℕ) (u : UpdateView) (last : ℕ) (left : List ℕ) → next_at at rest ≡ Whole u last left → length left < length rest
read_shorter at rest u last left e = shorter at rest u last left (next_back at rest u last left e)

no_more : (at : ℕ) (rest : List ℕ) (o : Outcome UpdateView) → next_at at rest ≡ o → ((u : UpdateView) (to : ℕ) (left : List ℕ) → o ≡ Whole u to left → ⊥) → (u : UpdateView) (gap first more : List ℕ) → IsGap gap → SpellsUpdate u first → rest ≡ gap ++ (first ++ more) → ⊥
no_more at rest o e h u gap first more g k w = h u (at + length gap + length first) more (sym e ∙ ap (next_at at) w ∙ spelled_next u at gap first more g k)

-- the bytes end with a fault
pub ends_faulty : (us : List UpdateView) (at : ℕ) (bytes rest : List ℕ) (place : ℕ) (why : Reason) → AreRead us at bytes rest → next_at at rest ≡ Bad place why → Completes us bytes × IsFault bytes place why
ends_faulty us at bytes rest place why r e =
    let f : next_at (length r.front) rest ≡ Bad place why = ap (λ n. next_at n rest) (sym r.place) ∙ e in (
      record { front = r.front; rest = rest; stream = r.stream; no_more = no_more at rest (Bad place why) e (λ u to left w. cc); spelled = r.spelled },
      record { updates = us; front = r.front; rest = rest; stream = r.stream; fault = f; spelled = r.spelled },
    )

-- the bytes end with a gap, or within an update
pub ends_part : (us : List UpdateView) (at : ℕ) (bytes rest : List ℕ) (end : StreamEnd) → AreRead us at bytes rest → next_at at rest ≡ Part → IsEnd rest end → IsRead us end bytes
ends_part us at bytes rest ends.Gap r e g = subst (IsStream us) (sym r.spelled) (stream_front us r.front rest r.stream g)
ends_part us at bytes rest (ends.Fault place why) r e g = absurd g
ends_part us at bytes rest ends.Torn r e g =
    let f : next_at (length r.front) rest ≡ Part = ap (λ n. next_at n rest) (sym r.place) ∙ e in (
      record { front = r.front; rest = rest; stream = r.stream; no_more = no_more at rest Part e (λ u to left w. cc); spelled = r.spelled },
      still_torn us bytes r.front rest r.stream r.spelled f g,
    )

-- behind the gap nothing is left
pub is_all_gap : (rest start : List ℕ) → IsBehindGap rest start → length start ≡ 0 → IsGap rest
is_all_gap rest [] g e = subst IsGap (sym (g.spelled ∙ append-nil g.gap)) g.is_gap
is_all_gap rest (x ∷ start) g e = absurd (omega arith)

-- or something is
pub is_no_gap : (rest start : List ℕ) → IsBehindGap rest start → 0 < length start → IsGap rest → ⊥
is_no_gap rest start g l k = go start g l (gap_rest g.gap start g.is_gap (subst IsGap g.spelled k))
  where
    go : (start : List ℕ) → IsBehindGap rest start → 0 < length start → IsGap start → ⊥
    go start g l no_line = omega arith
    go start g l (one_more line more i k) = g.stops line more i refl

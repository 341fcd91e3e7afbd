-- Each update that a reader answers costs a byte of what it may still feed.
use Rattle.std.proofs.Common.{◌≡◌, ℕ, ◌+◌, ◌-◌, ◌<◌, ◌≤◌, List, [], ◌∷◌, ◌++◌, length, refl, sym, ap, subst, ◌∙◌, append_assoc, length-append, arith, inl, inr}
use Rattle.std.proofs.lemmas.Bool.{cases_lt}
use Rattle.braid_io.specs.Outside.{Intake}
use Rattle.braid_change.specs.Updates.{UpdateView}
use Rattle.braid_grammar.specs.Streams.{IsStream, BeginsWith}
use Rattle.braid_stream.specs.declared.next.Next.TheVariants.{Update}
use Rattle.braid_stream.specs.declared.reading.Reading.{Reading}
use Rattle.braid_stream.specs.Readers.{HasTaken, Answers, budget, update}
use Rattle.braid_stream.proofs.AtHand.{no_answer}
use Rattle.braid_stream.proofs.Taken.{fed_updates}

-- an update of a stream stands behind those before it
pub stream_begins : (us : List UpdateView) (u : UpdateView) (vs : List UpdateView) (bytes : List ℕ) → IsStream (us ++ u ∷ vs) bytes → BeginsWith us u bytes
stream_begins [] u vs bytes s =
    record {
      front = s.gap ++ s.first;
      rest = s.rest;
      ends = record { front = s.gap; last = s.first; stream = s.is_gap; is_last = s.is_first; spelled = refl };
      spelled = s.spelled ∙ sym (append_assoc s.gap s.first s.rest);
    }
stream_begins (w ∷ us) u vs bytes s = go (stream_begins us u vs s.rest s.is_rest)
  where
    go : BeginsWith us u s.rest → BeginsWith (w ∷ us) u bytes
    go b =
        record {
          front = s.gap ++ (s.first ++ b.front);
          rest = b.rest;
          ends = record {
            front = s.gap ++ (s.first ++ b.ends.front);
            last = b.ends.last;
            stream = record { gap = s.gap; first = s.first; rest = b.ends.front; is_gap = s.is_gap; is_first = s.is_first; is_rest = b.ends.stream; spelled = refl };
            is_last = b.ends.is_last;
            spelled = ap (λ (t : List ℕ). s.gap ++ (s.first ++ t)) b.ends.spelled ∙ ap (λ (t : List ℕ). s.gap ++ t) (sym (append_assoc s.first b.ends.front b.ends.last)) ∙ sym (append_assoc s.gap (s.first ++ b.ends.front) b.ends.last);
          };
          spelled = s.spelled ∙ ap (λ (t : List ℕ). s.gap ++ (s.first ++ t)) b.spelled ∙ ap (λ (t : List ℕ). s.gap ++ t) (sym (append_assoc s.first b.front b.rest)) ∙ sym (append_assoc s.gap (s.first ++ b.front) b.rest);
        }

-- and stands there whatever follows
pub begins_on : (us : List UpdateView) (u : UpdateView) (bytes more : List ℕ) → BeginsWith us u bytes → BeginsWith us u (bytes ++ more)
begins_on us u bytes more b = record { front = b.front; rest = b.rest ++ more; ends = b.ends; spelled = ap (λ (t : List ℕ). t ++ more) b.spelled ∙ append_assoc b.front b.rest more }

-- of two fronts of the same bytes the longer goes on from the shorter
record GoesOnFrom (short long : List ℕ) : Type 0 where
  pub rest : List ℕ
  pub whole : long ≡ short ++ rest

longer_front : (short long xs ys : List ℕ) → short ++ xs ≡ long ++ ys → length short ≤ length long → GoesOnFrom short long
longer_front [] long xs ys e l = record { rest = long; whole = refl }
longer_front (x ∷ short) [] xs ys e l = absurd (omega (arith, l))
longer_front (x ∷ short) (y ∷ long) xs ys e l =
    let same : x ≡ y = cc in
    let others : short ++ xs ≡ long ++ ys = cc in
    let g = longer_front short long xs ys others (omega (arith, l)) in
    record { rest = g.rest; whole = (λ i. sym same i ∷ g.whole i) }

-- bytes that are a stream up to an update begin with it
begins_fed : (us : List UpdateView) (u : UpdateView) (reader : Reading) (bytes rest : List ℕ) → (h : HasTaken (us ++ u ∷ []) reader bytes) → BeginsWith us u (h.fed ++ rest)
begins_fed us u reader bytes rest h =
    let c = (fed_updates (us ++ u ∷ []) reader bytes h).completes in
    begins_on us u h.fed rest (subst (BeginsWith us u) (sym c.spelled) (begins_on us u c.front c.rest (stream_begins us u [] c.front c.stream)))

pub budget_falls : (us : List UpdateView) (bytes : List ℕ) (u : UpdateView) (old new : Reading) (before after : Intake) → HasTaken us old bytes → Answers us bytes (Update u) new before after → budget new < budget old
budget_falls us bytes u old new before after h a =
    let k = a.leaves.1 in
    elim (cases_lt (length h.fed) (length k.fed)) [
      | inl below ↦ omega (arith, below, h.count, ap length h.whole, length-append h.fed old.held, h.within, k.count, ap length k.whole, length-append k.fed new.held, k.within)
      | inr within ↦
          let g = longer_front k.fed h.fed new.held (old.held ++ a.more) (sym k.whole ∙ ap (λ (t : List ℕ). t ++ a.more) h.whole ∙ append_assoc h.fed old.held a.more) within in
          absurd (no_answer us h.fed (fed_updates us old bytes h) (update u (subst (BeginsWith us u) (sym g.whole) (begins_fed us u new (bytes ++ a.more) g.rest k))))
    ]

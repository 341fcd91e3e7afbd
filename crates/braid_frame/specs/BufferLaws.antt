-- Bytes that are put into a buffer one behind the other are put together.
use Rattle.std.proofs.Common.{◌≡◌, ◌≢◌, ℕ, Option, Some, None, Bool, true, false, List, [], ◌∷◌, ◌++◌, ap, sym, refl, subst, ◌∙◌, append_assoc, append-nil, arith}
use Rattle.std.specs.Io.KnownBytes.{append_known}
use Rattle.braid_io.specs.Outside.{Outflow, WritesAll, WritesPart}
use Rattle.braid_io.proofs.Known.{append_known-append}
use Rattle.braid_frame.specs.Buffers.{BufferView, HasPut, PutsBy, Puts}

append_known-nil : (known : Option (List ℕ)) → append_known known [] ≡ known
append_known-nil None = refl
append_known-nil (Some xs) = ap Some (append-nil xs)

pub writes_none : (flow : Outflow) → WritesAll [] flow flow
writes_none flow = record { written = sym (append_known-nil flow.written); faults = refl }

pub writes_more : (a b : List ℕ) (x y z : Outflow) → WritesAll a x y → WritesAll b y z → WritesAll (a ++ b) x z
writes_more a b x y z p q =
    record {
      written = q.written ∙ ap (λ (k : Option (List ℕ)). append_known k b) p.written
          ∙ append_known-append x.written a b;
      faults = q.faults ∙ p.faults;
    }

-- where bytes were written, a part of more bytes that go on from them was
pub part_behind : (went bytes : List ℕ) (x y z : Outflow) → WritesAll went x y → WritesPart bytes y z
    → WritesPart (went ++ bytes) x z
part_behind went bytes x y z w p =
    record {
      front = went ++ p.front;
      rest = p.rest;
      whole = ap (λ (t : List ℕ). went ++ t) p.whole ∙ sym (append_assoc went p.front p.rest);
      unfinished = p.unfinished;
      written = p.written ∙ ap (λ (k : Option (List ℕ)). append_known k p.front) w.written
          ∙ append_known-append x.written went p.front;
      never_falls = omega (arith, w.faults, p.never_falls);
      rose = rw (← w.faults) p.rose;
    }

some_left : (rest more : List ℕ) → rest ≢ [] → rest ++ more ≢ []
some_left [] more n e = n refl
some_left (x ∷ rest) more n e = cc

-- a part of bytes is a part of more
pub part_of_more : (bytes more : List ℕ) (x y : Outflow) → WritesPart bytes x y → WritesPart (bytes ++ more) x y
part_of_more bytes more x y p =
    record {
      front = p.front;
      rest = p.rest ++ more;
      whole = ap (λ (t : List ℕ). t ++ more) p.whole ∙ append_assoc p.front p.rest more;
      unfinished = some_left p.rest more p.unfinished;
      written = p.written;
      never_falls = p.never_falls;
      rose = p.rose;
    }

pub puts_none : (held : List ℕ) (failed : Bool) (flow : Outflow)
    → let v : BufferView = record { held = held; failed = failed; outflow = flow } in Puts [] v v
puts_none held true flow = refl
puts_none held false flow = record { went = []; whole = append-nil held; written = writes_none flow }

put_more : (a b h k m : List ℕ) (x y z : Outflow) → HasPut a h k x y → HasPut b k m y z → HasPut (a ++ b) h m x z
put_more a b h k m x y z p q =
    record {
      went = p.went ++ q.went;
      whole = sym (append_assoc h a b) ∙ ap (λ (t : List ℕ). t ++ b) p.whole ∙ append_assoc p.went k b
          ∙ ap (λ (t : List ℕ). p.went ++ t) q.whole ∙ sym (append_assoc p.went q.went m);
      written = writes_more p.went q.went x y z p.written q.written;
    }

put_and_failed : (a b h k : List ℕ) (x y z : Outflow) → HasPut a h k x y → WritesPart (k ++ b) y z
    → WritesPart (h ++ (a ++ b)) x z
put_and_failed a b h k x y z p q =
    let whole : p.went ++ (k ++ b) ≡ h ++ (a ++ b) = sym (append_assoc p.went k b)
    ∙ ap (λ (t : List ℕ). t ++ b) (sym p.whole) ∙ append_assoc h a b in
    subst (λ (t : List ℕ). WritesPart t x z) whole (part_behind p.went (k ++ b) x y z p.written q)

by_cases : (f g e : Bool) (a b : List ℕ) (x y z : BufferView) → x.failed ≡ f → y.failed ≡ g → z.failed ≡ e
    → PutsBy f g a x y → PutsBy g e b y z → PutsBy f e (a ++ b) x z
by_cases true g e a b x y z xf yf zf p q = again g yf q
  where
    again : (t : Bool) → y.failed ≡ t → PutsBy t e b y z → z ≡ x
    again true yt r = r ∙ p
    again false yt r = absurd (let is : true ≡ false = sym xf ∙ ap (λ (v : BufferView). v.failed) (sym p) ∙ yt in cc)
by_cases false false false a b x y z xf yf zf p q = put_more a b x.held y.held z.held x.outflow y.outflow z.outflow p q
by_cases false false true a b x y z xf yf zf p q = put_and_failed a b x.held y.held x.outflow y.outflow z.outflow p q
by_cases false true false a b x y z xf yf zf p q =
    absurd (let is : true ≡ false = sym yf ∙ ap (λ (v : BufferView). v.failed) (sym q) ∙ zf in cc)
by_cases false true true a b x y z xf yf zf p q =
    let more : WritesPart ((x.held ++ a) ++ b) x.outflow y.outflow =
    part_of_more (x.held ++ a) b x.outflow y.outflow p in
    subst (λ (v : BufferView). WritesPart (x.held ++ (a ++ b)) x.outflow v.outflow) (sym q)
    (subst (λ (t : List ℕ). WritesPart t x.outflow y.outflow) (append_assoc x.held a b) more)

pub puts_more : (a b : List ℕ) (x y z : BufferView) → Puts a x y → Puts b y z → Puts (a ++ b) x z
puts_more a b x y z p q = by_cases x.failed y.failed z.failed a b x y z refl refl refl p q

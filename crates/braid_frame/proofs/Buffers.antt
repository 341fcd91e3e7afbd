-- What the calls of a buffer make of the bytes that are put.
use Rattle.std.proofs.Common.{◌≡◌, ◌-◌, Bool, true, false, List, ℕ, [], ◌++◌, ap, sym, subst, ◌∙◌, append_assoc, append-nil, length, take, drop, arith}
use Rattle.std.proofs.lemmas.Grind.{common_steps}
use Rattle.braid_io.specs.Outside.{Outflow, WritesPart}
use Rattle.braid_frame.specs.Buffers.{BufferView, PutsBy, Puts}
use Rattle.braid_frame.specs.BufferLaws.{writes_none, part_of_more, puts_more}

-- bytes behind those that were put are let go where a write has failed
pub puts_cut : (a b : List ℕ) (x y : BufferView) → y.failed ≡ true → Puts a x y → Puts (a ++ b) x y
puts_cut a b x y f p = go x.failed y.failed f p
  where
    go : (s t : Bool) → t ≡ true → PutsBy s t a x y → PutsBy s t (a ++ b) x y
    go true t e q = q
    go false true e q = subst (λ (t : List ℕ). WritesPart t x.outflow y.outflow) (append_assoc x.held a b) (part_of_more (x.held ++ a) b x.outflow y.outflow q)
    go false false e q = absurd (let is : false ≡ true = e in cc)

-- a piece joins what waits
pub joined : (held kept piece : List ℕ) (f : Bool) (x : Outflow) → f ≡ false → kept ≡ held ++ piece → Puts piece (record { held = held; failed = f; outflow = x }) (record { held = kept; failed = f; outflow = x })
joined held kept piece true x e n = absurd (let is : true ≡ false = e in cc)
joined held kept piece false x e n = record { went = []; whole = sym n; written = writes_none x }

-- where a write has failed, a part was written
pub ended_part : (bytes : List ℕ) (x y z : BufferView) → x.held ≡ [] → x.failed ≡ false → Puts bytes x y → Puts [] y z → z.failed ≡ true → WritesPart bytes x.outflow z.outflow
ended_part bytes x y z n s p q f = go x.failed z.failed s f (puts_more bytes [] x y z p q)
  where
    go : (a b : Bool) → a ≡ false → b ≡ true → PutsBy a b (bytes ++ []) x z → WritesPart bytes x.outflow z.outflow
    go true b e g h = absurd (let is : true ≡ false = e in cc)
    go false false e g h = absurd (let is : false ≡ true = g in cc)
    go false true e g h = subst (λ (t : List ℕ). WritesPart t x.outflow z.outflow) (ap (λ (t : List ℕ). t ++ (bytes ++ [])) n ∙ append-nil bytes) h

-- how far a piece was put: a front of it is put, and the rest is not
pub record PutsFront (piece rest : List ℕ) (x y : BufferView) : Type 0 where
  pub front : List ℕ
  pub whole : piece ≡ front ++ rest
  pub puts : Puts front x y

-- where a write has failed, the rest counts as put
pub cut_off : (piece rest : List ℕ) (x y z : BufferView) → PutsFront piece rest x y → Puts [] y z → z.failed ≡ true → Puts piece x z
cut_off piece rest x y z p q f =
    let more : Puts ((p.front ++ []) ++ rest) x z = puts_cut (p.front ++ []) rest x z f (puts_more p.front [] x y z p.puts q) in
    subst (λ (t : List ℕ). Puts t x z) (ap (λ (t : List ℕ). t ++ rest) (append-nil p.front) ∙ sym p.whole) more

-- the first bytes of the rest join the front
pub front_more : (piece rest : List ℕ) (n : ℕ) (x y z w : BufferView) → PutsFront piece rest x y → Puts [] y z → Puts (take n rest) z w → PutsFront piece (take (length rest - n) (drop n rest)) x w
front_more piece rest n x y z w p q r =
    record {
      front = p.front ++ take n rest;
      whole = grind (arith, common_steps, p.whole);
      puts = subst (λ (t : List ℕ). Puts (t ++ take n rest) x w) (append-nil p.front) (puts_more (p.front ++ []) (take n rest) x z w (puts_more p.front [] x y z p.puts q) r);
    }

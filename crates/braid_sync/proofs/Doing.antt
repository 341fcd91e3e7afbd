-- What a link did, one thing after the other.
use Rattle.std.proofs.Common.{◌≡◌, ◌≤◌, ℕ, List, [], ◌++◌, Option, Some, None, refl, ap, sym, subst, ◌∙◌, append_assoc}
use Rattle.std.specs.Io.KnownBytes.{append_known, prepend_known}
use Rattle.braid_io.specs.Outside.{Intake, Outflow, Moves, Rose, WritesAll, WritesPart}
use Rattle.braid_io.proofs.Known.{append_known-append}
use Rattle.braid_stream.proofs.Moved.{append_known-nil, prepend_known-nil}
use Rattle.braid_sync.specs.Talks.{Failing, nothing_failed, read_failed, write_failed}
use Rattle.braid_sync.specs.Steps.{Does, RoseOn}

pub does_none : (i : Intake) (o : Outflow) → Does [] [] nothing_failed i i o o
does_none i o = record { taken = sym (append_known-nil i.taken); left = sym (prepend_known-nil i.left); written = sym (append_known-nil o.written); counts = (refl, refl) }

pub prepend_known-append : (known : Option (List ℕ)) (xs ys : List ℕ) → prepend_known xs (prepend_known ys known) ≡ prepend_known (xs ++ ys) known
prepend_known-append None xs ys = refl
prepend_known-append (Some zs) xs ys = ap Some (sym (append_assoc xs ys zs))

rose_after : (f : Failing) (i j k o p q : ℕ) → (j ≡ i) × (p ≡ o) → RoseOn f j k p q → RoseOn f i k o q
rose_after f i j k o p q e r = subst (λ (x : ℕ). RoseOn f x k o q) e.0 (subst (λ (x : ℕ). RoseOn f j k x q) e.1 r)

pub does_then : (s t g h : List ℕ) (f : Failing) (i j k : Intake) (o p q : Outflow) → Does s g nothing_failed i j o p → Does t h f j k p q → Does (s ++ t) (g ++ h) f i k o q
does_then s t g h f i j k o p q d e =
    record {
      taken = e.taken ∙ ap (λ x. append_known x h) d.taken ∙ append_known-append i.taken g h;
      left = d.left ∙ ap (prepend_known g) e.left ∙ prepend_known-append k.left g h;
      written = e.written ∙ ap (λ x. append_known x t) d.written ∙ append_known-append o.written s t;
      counts = rose_after f i.faults j.faults k.faults o.faults p.faults q.faults d.counts e.counts;
    }

-- a link that was only read, one time after the other
pub reads_then : (g h : List ℕ) (f : Failing) (i j k : Intake) (o p q : Outflow) → Does [] g nothing_failed i j o p → Does [] h f j k p q → Does [] (g ++ h) f i k o q
reads_then g h f i j k o p q d e = does_then [] [] g h f i j k o p q d e

-- bytes that a link gave
pub gives : (g : List ℕ) (i j : Intake) (o p : Outflow) → Moves g i j → p ≡ o → Does [] g nothing_failed i j o p
gives g i j o p m e =
    record {
      taken = m.taken;
      left = m.left;
      written = ap (λ (x : Outflow). x.written) e ∙ sym (append_known-nil o.written);
      counts = (m.faults, ap (λ (x : Outflow). x.faults) e);
    }

-- the same, and then a read failed
pub gives_and_fails : (g : List ℕ) (i j : Intake) (o p : Outflow) → j.taken ≡ append_known i.taken g → i.left ≡ prepend_known g j.left → i.faults ≤ j.faults → Rose i.faults j.faults → p ≡ o → Does [] g read_failed i j o p
gives_and_fails g i j o p t l n r e =
    record {
      taken = t;
      left = l;
      written = ap (λ (x : Outflow). x.written) e ∙ sym (append_known-nil o.written);
      counts = (n, r, ap (λ (x : Outflow). x.faults) e);
    }

-- bytes that a link took
pub writes : (s : List ℕ) (i j : Intake) (o p : Outflow) → WritesAll s o p → j ≡ i → Does s [] nothing_failed i j o p
writes s i j o p w e =
    record {
      taken = ap (λ (x : Intake). x.taken) e ∙ sym (append_known-nil i.taken);
      left = sym (ap (λ (x : Intake). x.left) e) ∙ sym (prepend_known-nil j.left);
      written = w.written;
      counts = (ap (λ (x : Intake). x.faults) e, w.faults);
    }

-- of bytes a link took the first, and then a write failed
pub writes_part : (s : List ℕ) (i j : Intake) (o p : Outflow) → (w : WritesPart s o p) → j ≡ i → Does w.front [] write_failed i j o p
writes_part s i j o p w e =
    record {
      taken = ap (λ (x : Intake). x.taken) e ∙ sym (append_known-nil i.taken);
      left = sym (ap (λ (x : Intake). x.left) e) ∙ sym (prepend_known-nil j.left);
      written = w.written;
      counts = (ap (λ (x : Intake). x.faults) e, w.never_falls, w.rose);
    }

-- What outlets make of the bytes that are put into them, and that bytes behind one another are put together.
use Rattle.std.proofs.Common.{◌≡◌, ℕ, ◌+◌, ◌-◌, ◌^◌, min, Bool, false, List, [], ◌++◌, ap, sym, ◌∙◌, append_assoc, append-nil, length, length-append, arith}

-- bytes that grow: where no memory lacks, none did, and these bytes stand at the end
abbrev pub Grows : List ℕ → List ℕ → Bool → List ℕ → Bool → Type 0
Grows bytes old lacked new lacks = lacks ≡ false → (lacked ≡ false) × (new ≡ old ++ bytes)

-- a count of bytes that stands still at its type's end
abbrev pub Counts : List ℕ → ℕ → ℕ → Type 0
Counts bytes old new = min new (2 ^ 64 - 1) ≡ min (old + length bytes) (2 ^ 64 - 1)

pub grows_none : (old : List ℕ) (lacked : Bool) → Grows [] old lacked old lacked
grows_none old lacked = λ l. (l, sym (append-nil old))

pub grows_more : (a b x y z : List ℕ) (p q r : Bool) → Grows a x p y q → Grows b y q z r → Grows (a ++ b) x p z r
grows_more a b x y z p q r g h =
    λ l. let u = h l in let v = g u.0 in (v.0, u.1 ∙ ap (λ (t : List ℕ). t ++ b) v.1 ∙ append_assoc x a b)

pub counts_none : (old : ℕ) → Counts [] old old
counts_none old = omega arith

pub counts_more : (a b : List ℕ) (x y z : ℕ) → Counts a x y → Counts b y z → Counts (a ++ b) x z
counts_more a b x y z g h = omega (arith, length-append a b, g, h)

-- Turns in which nothing is added.
use Rattle.std.proofs.Common.{◌≡◌, ℕ, false, inl, inr, List, [], ◌∷◌, ◌++◌, None, refl, ap, sym, ◌∙◌, length, append-nil, arith}
use Rattle.braid_io.specs.Bells.{Ringing}
use Rattle.braid_hall.specs.Passes.{PassView, AddsOne, IsTurn, IsWorn, left_with}
use Rattle.braid_store.specs.declared.entry.Entry.{Entry}
use Rattle.braid_store.specs.Books.{IsLegalBook}
use Rattle.braid_session.specs.Steps.{Idled}
use Rattle.braid_session.specs.WatchSteps.{Looked, Stayed}
use Rattle.braid_session.proofs.Turns.{turned_with, idled_same, idled_room, idled_worn}

-- a bell of which nothing is said
quiet : Ringing
quiet = record { answers = None; agains = 0; rings = 0 }

pub looked : (p m q z : PassView Entry) (spare : ℕ) (book : List Entry) (marks more : List ℕ) → IsLegalBook book → m ≡ record p { spare = spare }
    → IsTurn (λ (b : List Entry). b) (λ (e : Entry). e.by) m q book → z ≡ left_with q book → more ≡ marks ++ length book ∷ [] → Looked book p z marks more
looked p m q z spare book marks more legal e t l k =
    let turned = turned_with p m q z spare 0 book [] book marks more quiet quiet e t l (inl refl) (sym (append-nil book)) k (inr (omega arith, refl)) in
    record { legal = legal; passed = turned.passed; seen = turned.seen ∙ append-nil book; noted = k }

stayed_of : (p q : PassView Entry) (marks more : List ℕ) → Idled p q marks more quiet quiet → Stayed p q marks more
stayed_of p q marks more i = record { passed = i.passed; seen = i.seen; noted = i.noted }

-- nothing changed
pub stayed_same : (p m : PassView Entry) (marks : List ℕ) → p.held ≡ false → m ≡ p → Stayed p m marks marks
stayed_same p m marks idle e = stayed_of p m marks marks (idled_same p m marks quiet idle e)

-- room was made, and no more
pub stayed_room : (p m : PassView Entry) (spare : ℕ) (marks more : List ℕ) → p.held ≡ false → m ≡ record p { spare = spare } → more ≡ marks → Stayed p m marks more
stayed_room p m spare marks more idle e k = stayed_of p m marks more (idled_room p m spare marks more quiet idle e k)

-- room was made, and the hall gives no turn
pub stayed_worn : (p m q : PassView Entry) (spare : ℕ) (marks more : List ℕ) → p.held ≡ false → m ≡ record p { spare = spare } → IsWorn m q → more ≡ marks → Stayed p q marks more
stayed_worn p m q spare marks more idle e w k = stayed_of p q marks more (idled_worn p m q spare marks more quiet idle e w k)

-- so the pass may leave the book as it found it
pub leaves_as_found : (m q : PassView Entry) (book : List Entry) → IsTurn (λ (b : List Entry). b) (λ (e : Entry). e.by) m q book → AddsOne (λ (b : List Entry). b) (λ (e : Entry). e.by) q.number q.seen book
leaves_as_found m q book t = inl (sym (ap (λ (w : PassView Entry). w.seen) t.parts))

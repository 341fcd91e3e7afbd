-- What each step on a word tells the pass that makes it.
use Rattle.std.specs.Prelude.{◌≡◌, ◌≢◌, ℕ, ◌≤◌, List, [], ◌∷◌, Option, Some, None, All}
use Rattle.atomic_table.specs.Table.{Me, Step, rest}
use Rattle.braid_hall.specs.declared.view.View.{View}
use Rattle.braid_hall.specs.Histories.{IsPrefix, added, added_by}
use Rattle.braid_hall.specs.Views.{after_look, after_draw, after_find, after_leave}

-- a view, and the slot that is out with it
abbrev pub Holder : Type 0 → Type 0 → Type 0
Holder B E = Me (Option B) (View E)

-- the history of the book in a slot
abbrev pub slot_history : {B E : Type 0} → (B → List E) → Option B → List E
slot_history entries None = []
slot_history entries (Some b) = entries b

-- the history of the book in the slot that was taken last
abbrev pub carried_history : {B E : Type 0} → (B → List E) → List (ℕ × Option B) → List E
carried_history entries [] = []
carried_history entries (x ∷ xs) = slot_history entries x.1

-- what a pass learns of the history that it finds
pub record Finds {E : Type 0} (by : E → ℕ) (v : View E) (history : List E) : Type 0 where
  -- it begins with the history at the opening
  pub opened : IsPrefix v.opening history
  -- it begins with what the pass had seen
  pub begins : IsPrefix v.seen history
  -- its entries of the pass's number are those that the pass added
  pub own : added_by by v.opening v.number history ≡ v.mine
  -- it is just what was seen where the pass from the opening has no other one away
  pub exact : v.number ≡ 0 → v.away ≡ [] → history ≡ v.seen
  -- to the pass from the opening: each entry has its number or that of a pass that it split off
  pub others : v.number ≡ 0 → All (λ e. by e ≤ v.made) (added v.opening history)

-- some history begins both with what the pass has seen and with the shorter of what it and the pass that it joined last had seen
abbrev pub BeginsBoth : {E : Type 0} → View E → Type 0
BeginsBoth {E} v = (history : List E) × IsPrefix v.seen history × IsPrefix v.shorter history

module _ {B E : Type 0} where
  -- a load of the next ticket
  abbrev pub looked : Step (Option B) → Holder B E → ℕ → Holder B E → Type 0
  looked st m n m' = m' ≡ (after_look m.0 n, m.1)

  -- a fetch-and-add on the next ticket
  abbrev pub drew : Step (Option B) → Holder B E → ℕ → Holder B E → Type 0
  drew st m n m' = m' ≡ (after_draw m.0 n, m.1)

  -- a load of the ticket that is served: where it is the pass's own, its turn begins
  abbrev pub found : (B → List E) → (E → ℕ) → Step (Option B) → Holder B E → ℕ → Holder B E → Type 0
  found entries by st m n m' =
      (m.0.ticket ≡ Some n
      → (b : B) × Finds by m.0 (entries b) × (m' ≡ (after_find m.0 (entries b), (0, Some b) ∷ m.1)))
      × (m.0.ticket ≢ Some n → m' ≡ m)

  -- a fetch-and-add on the ticket that is served, which ends a turn
  abbrev pub left : (B → List E) → Step (Option B) → Holder B E → ℕ → Holder B E → Type 0
  left entries st m n m' = m' ≡ (after_leave m.0 (carried_history entries m.1), rest m.1)

  -- a load that changes no part
  abbrev pub compared : Step (Option B) → Holder B E → ℕ → Holder B E → Type 0
  compared st m n m' = (m' ≡ m) × BeginsBoth m.0

-- Passes that the pass from the opening split off, and that are out together.
use Rattle.std.specs.Prelude.{◌≡◌, ℕ, ◌+◌, ◌<◌, ◌≤◌, length, false, List, All, Contains}
use mathlib.Core.Option.{some}
use lib.ListN.{get_elem?}
use Rattle.atomic_table.specs.Seated.{TableId}
use Rattle.braid_hall.specs.Histories.{IsPrefix}
use Rattle.braid_hall.specs.Views.{total}
use Rattle.braid_hall.specs.Passes.{PassView, AccountsFor, new_pass}

-- the passes are just those that the pass from the opening has away, each with the number after its place, and no pass is in a turn
pub record AreAway {E : Type 0} (hall : TableId) (root : PassView E) (passes : List (PassView E)) : Type 0 where
  pub same_hall : root.hall ≡ hall
  pub first : root.number ≡ 0
  pub idle : root.held ≡ false
  pub each : (k : ℕ) (p : PassView E) → get_elem? passes k ≡ some p
      → (p.hall ≡ hall) × (p.held ≡ false) × (p.number ≡ k + 1) × Contains root.away (k + 1)
  pub out : (n : ℕ) → Contains root.away n → (0 < n) × (n ≤ length passes)

-- a pass is in no turn, and has the hall, the number and the passes away that it had
pub record KeepsPass {E : Type 0} (p q : PassView E) : Type 0 where
  pub hall : q.hall ≡ p.hall
  pub number : q.number ≡ p.number
  pub away : q.away ≡ p.away
  pub idle : q.held ≡ false

-- a pass after it joined others: what it has seen begins with what it and each of them had seen, the tickets of all are counted together, its look is at least that of each, and nothing else is changed
pub record JoinsAll {E : Type 0} (p : PassView E) (passes : List (PassView E)) (q : PassView E) : Type 0 where
  pub begins : IsPrefix p.seen q.seen
  pub each : All (λ other. IsPrefix other.seen q.seen) passes
  pub looks : All (λ other. other.look ≤ q.look) passes
  pub look : p.look ≤ q.look
  pub turns : q.turns ≡ p.turns + total (λ other. other.turns) passes
  pub ended : All (λ other. Contains q.ended (other.number, other.mine)) passes
  pub kept : q ≡ record p { seen = q.seen; away = q.away; turns = q.turns; look = q.look; ended = q.ended }

-- the passes that a pass split off at once: this many, each with what the pass had seen
pub record SplitsAll {E : Type 0} (hall : TableId) (p : PassView E) (count : ℕ) (q : PassView E)
    (passes : List (PassView E)) : Type 0 where
  pub away : AreAway hall q passes
  pub many : length passes ≡ count
  pub made : q.made ≡ count
  pub fresh : (k : ℕ) (new : PassView E) → get_elem? passes k ≡ some new → new ≡ record (new_pass p) { number = k + 1 }
  pub kept : q ≡ record p { made = q.made; away = q.away }

-- the history of a closed book: it begins with what each pass had seen, and each of its entries is known by its pass
pub record IsClosed {E : Type 0} (by : E → ℕ) (p : PassView E) (passes : List (PassView E))
    (history : List E) : Type 0 where
  pub last : PassView E
  pub joins_all : JoinsAll p passes last
  pub seen : history ≡ last.seen
  pub accounts : AccountsFor by last history

-- The rule of a hall: what its two words, its slot and the views of all its passes have in common at every moment.
-- Word 0 is the next ticket, and word 1 the ticket that is served. The one slot has the book while no pass is in a turn.
use Rattle.std.specs.Prelude.{◌≡◌, ℕ, ◌+◌, ◌<◌, ◌≤◌, Bool, true, false, List, [], ◌∷◌, map, length, Option, Some, Contains}
use mathlib.Core.Option.{some}
use mathlib.Core.Option as maybe
use lib.ListN.{get_elem?}
use Rattle.atomic_table.specs.Table.{State}
use Rattle.braid_hall.specs.declared.view.View.{View}
use Rattle.braid_hall.specs.Histories.{IsPrefix, added_by}
use Rattle.braid_hall.specs.Views.{total, SplitParts, split_parts_of, ticket_of, turns_of, ready_of, spent_view}

-- the tickets held are different, and are exactly the numbers from the one that is served up to the next one
pub record IsQueue (ticket serving : ℕ) (tickets : List (Option ℕ)) : Type 0 where
  pub order : serving ≤ ticket
  pub within : (j k : ℕ) → get_elem? tickets j ≡ some (Some k) → (serving ≤ k) × (k < ticket)
  pub apart : (i j k : ℕ) → get_elem? tickets i ≡ some (Some k) → get_elem? tickets j ≡ some (Some k) → i ≡ j
  pub every : (k : ℕ) → serving ≤ k → k < ticket → (j : ℕ) × (get_elem? tickets j ≡ some (Some k))

-- what the places of the passes have to do with their numbers, and with what the pass from the opening knows of them
pub record IsNumbered {E : Type 0} (added_of : ℕ → List E) (parts : List (SplitParts E)) : Type 0 where
  -- the parts of the pass from the opening
  pub root : SplitParts E
  -- it has the place 0
  pub is_root : get_elem? parts 0 ≡ some root
  -- it is never spent
  pub lives : root.0 ≡ true
  -- all others were split off from it
  pub counted : length parts ≡ root.1 + 1
  -- each other pass that is not spent is away
  pub out : (j : ℕ) (r : SplitParts E) → get_elem? parts j ≡ some r → 0 < j → r.0 ≡ true → Contains root.2 j
  -- each pass that is away is another one, and not spent
  pub back : (j : ℕ) → Contains root.2 j → (0 < j) × ((r : SplitParts E) × (get_elem? parts j ≡ some r) × (r.0 ≡ true))
  -- each spent pass has ended, with the entries of its number
  pub gone : (j : ℕ) (r : SplitParts E) → get_elem? parts j ≡ some r → r.0 ≡ false → Contains root.3 (j, added_of j)
  -- each pass that has ended is spent, and stands there with the entries of its number
  pub only : (j : ℕ) (l : List E) → Contains root.3 (j, l)
      → ((r : SplitParts E) × (get_elem? parts j ≡ some r) × (r.0 ≡ false)) × (l ≡ added_of j)
  -- the others have split off none
  pub plain : (j : ℕ) (r : SplitParts E) → get_elem? parts j ≡ some r → 0 < j → (r.1 ≡ 0) × (r.2 ≡ []) × (r.3 ≡ [])

module _ {E : Type 0} (by : E → ℕ) (start : ℕ) (base : List E) where
  -- what holds of each view that is not spent: it has seen a prefix of the history, and all of it where it is in a turn, its ticket is then served, and its own entries are those of its number
  pub record IsKnown (ticket serving : ℕ) (history : List E) (j : ℕ) (v : View E) : Type 0 where
    pub number : v.number ≡ j
    pub opened : v.opened ≡ start
    pub opening : v.opening ≡ base
    pub seen : IsPrefix v.seen history
    pub shorter : IsPrefix v.shorter history
    pub holder : v.held ≡ true → (v.ticket ≡ Some serving) × (v.seen ≡ history)
    pub mine : added_by by base j history ≡ v.mine
    pub look : v.look ≤ ticket
    pub worn : 9223372036854775808 ≤ start → (v.ready ≡ false) × (v.turns ≡ 0)

  -- a view that is not spent is known, and the spent ones are all alike
  abbrev pub IsKnownOrSpent : ℕ → ℕ → List E → ℕ → View E → Bool → Type 0
  IsKnownOrSpent ticket serving history j v true = IsKnown ticket serving history j v
  IsKnownOrSpent ticket serving history j v false = v ≡ spent_view

  module _ {B : Type 0} (entries : B → List E) where
    -- the rule for given words and a given history
    pub record IsKeptAt (ticket serving : ℕ) (history : List E) (homes : List (maybe.Option (Option B)))
        (views : List (View E)) : Type 0 where
      pub slot : length homes ≡ 1
      pub fits : ticket < 18446744073709551616
      pub few : length views ≤ 4294967296
      pub begins : IsPrefix base history
      pub queue : IsQueue ticket serving (map ticket_of views)
      pub each : (j : ℕ) (v : View E) → get_elem? views j ≡ some v → IsKnownOrSpent ticket serving history j v v.live
      pub at_home : ((j : ℕ) (v : View E) → get_elem? views j ≡ some v → v.held ≡ false)
          → (b : B) × (get_elem? homes 0 ≡ some (some (Some b))) × (entries b ≡ history)
      pub longest : (j : ℕ) × (v : View E) × (get_elem? views j ≡ some v) × (v.live ≡ true) × (v.seen ≡ history)
      pub others : (n : ℕ) → length views ≤ n → added_by by base n history ≡ []
      pub numbers : IsNumbered (λ n. added_by by base n history) (map split_parts_of views)
      pub drawn : ticket ≡ start + total turns_of views
      pub room : start < 9223372036854775808 → ticket + total ready_of views ≤ 9223372036854775808 + length views

module _ {B E : Type 0} (entries : B → List E) (by : E → ℕ) (start : ℕ) (base : List E) where
  -- the rule of a hall that was opened at a ticket over a book with the history `base`
  pub record IsKept (s : State (Option B) (View E)) : Type 0 where
    pub ticket : ℕ
    pub serving : ℕ
    pub history : List E
    pub words : s.words ≡ ticket ∷ serving ∷ []
    pub rule : IsKeptAt by start base entries ticket serving history s.homes s.views

-- What contracts see of a pass, and what each call makes of it.
use Rattle.std.specs.Prelude.{◌≡◌, ℕ, ◌+◌, ◌-◌, ◌<◌, ◌≤◌, Bool, true, false, max, List, [], ◌∷◌, ◌++◌, length, drop, Option, Some, None, ◌⊎◌, All, Contains}
use Rattle.atomic_table.specs.Seated.{TableId}
use Rattle.atomic_table.specs.Table.{Me}
use Rattle.braid_hall.specs.declared.view.View.{View}
use Rattle.braid_hall.specs.declared.turn.Turn.{Turn}
use Rattle.braid_hall.specs.declared.turn.Turn.TheVariants.{Held, Worn}
use Rattle.braid_hall.specs.Histories.{IsPrefix, longer_of, without, added, added_by}
use Rattle.braid_hall.specs.Views.{after_look, after_draw, after_find}
use Rattle.braid_hall.specs.Steps.{Finds}

-- what a pass is to contracts
pub record PassView (E : Type 0) : Type 0 where
  -- which hall it steps in
  pub hall : TableId
  -- its number: 0 for the pass from the opening
  pub number : ℕ
  -- the history that it has seen
  pub seen : List E
  -- the entries that it added
  pub mine : List E
  -- the length found at each of its turns
  pub marks : List ℕ
  -- whether it is in a turn
  pub held : Bool
  -- the numbers of the passes split from it and not yet joined
  pub away : List ℕ
  -- the room for further marks
  pub spare : ℕ
  -- its ticket, if it has one
  pub ticket : Option ℕ
  -- how many tickets were drawn by it and by passes joined into it
  pub turns : ℕ
  -- what it last saw as the next ticket, or a greater number that a pass joined into it saw
  pub look : ℕ
  -- whether it may draw a ticket
  pub ready : Bool
  -- how many passes it split off
  pub made : ℕ
  -- number and entries of each pass joined into it
  pub ended : List (ℕ × List E)
  -- the ticket at the opening
  pub opened : ℕ
  -- the history at the opening
  pub opening : List E

-- what contracts see of a view in a hall, with marks and a room for more
abbrev pub pass_of : {E : Type 0} → TableId → View E → List ℕ → ℕ → PassView E
pass_of hall v marks spare =
    record {
      hall = hall;
      number = v.number;
      seen = v.seen;
      mine = v.mine;
      marks = marks;
      held = v.held;
      away = v.away;
      spare = spare;
      ticket = v.ticket;
      turns = v.turns;
      look = v.look;
      ready = v.ready;
      made = v.made;
      ended = v.ended;
      opened = v.opened;
      opening = v.opening;
    }

-- how the view and the slots of a pass stand between two calls
pub record IsBetweenCalls {B E : Type 0} (me : Me (Option B) (View E)) : Type 0 where
  pub lives : me.0.live ≡ true
  pub idle : me.0.held ≡ false → (me.1 ≡ []) × (me.0.ticket ≡ None)
  pub busy : me.0.held ≡ true → me.1 ≡ (0, None) ∷ []

-- the fields of a pass agree with its view, and its room is there
pub record IsPass {B E : Type 0} (number made : ℕ) (me : Me (Option B) (View E))
    (marks spare capacity : ℕ) : Type 0 where
  pub named : number ≡ me.0.number
  pub counted : made ≡ me.0.made
  pub rests : IsBetweenCalls me
  pub roomy : marks + spare ≤ capacity

-- a view that may draw a ticket
abbrev pub CanDraw : {E : Type 0} → View E → Type 0
CanDraw v = (v.live ≡ true) × (v.ready ≡ true) × (v.ticket ≡ None) × (v.held ≡ false)

-- what holds of a turn's book, and nothing at Worn
abbrev pub IfHeld : {B : Type 0} → Turn B → (B → Type 0) → Type 0
IfHeld (Held b) P = P b
IfHeld Worn P = Unit {0}

-- what holds at Worn, and nothing of a book
abbrev pub IfWorn : {B : Type 0} → Turn B → Type 0 → Type 0
IfWorn (Held b) P = Unit {0}
IfWorn Worn P = P

-- a book's history is what was seen, or has one entry more, with the pass's number
abbrev pub AddsOne : {B E : Type 0} → (B → List E) → (E → ℕ) → ℕ → List E → B → Type 0
AddsOne {B} {E} entries by number seen b = (entries b ≡ seen)
    ⊎ ((e : E) × (entries b ≡ seen ++ e ∷ []) × (by e ≡ number))

module _ {E : Type 0} where
  -- the pass from an opening
  abbrev pub first_pass : TableId → ℕ → List E → PassView E
  first_pass hall start base =
      record {
        hall = hall;
        number = 0;
        seen = base;
        mine = [];
        marks = [];
        held = false;
        away = [];
        spare = 0;
        ticket = None;
        turns = 0;
        look = start;
        ready = false;
        made = 0;
        ended = [];
        opened = start;
        opening = base;
      }

  -- a pass after a turn was found: it looked at a number, drew a ticket, found a history, and noted its length
  abbrev pub entered : PassView E → ℕ → ℕ → List E → PassView E
  entered p look ticket history =
      record p {
        held = true;
        seen = history;
        marks = p.marks ++ length history ∷ [];
        spare = p.spare - 1;
        ticket = Some ticket;
        turns = p.turns + 1;
        look = look;
        ready = false;
      }

  -- a pass after it looked at a number at which it draws no ticket
  abbrev pub worn : PassView E → ℕ → PassView E
  worn p look = record p { look = look; ready = false }

  -- a pass after it left a book with this history: what stands behind what it had seen is its own
  abbrev pub left_with : PassView E → List E → PassView E
  left_with p history =
      record p { held = false; seen = history; mine = p.mine ++ drop (length p.seen) history; ticket = None }

  -- a pass after it split one off
  abbrev pub with_split : PassView E → PassView E
  with_split p = record p { made = p.made + 1; away = p.away ++ (p.made + 1) ∷ [] }

  -- a pass that was split off
  abbrev pub new_pass : PassView E → PassView E
  new_pass p =
      record {
        hall = p.hall;
        number = p.made + 1;
        seen = p.seen;
        mine = [];
        marks = [];
        held = false;
        away = [];
        spare = 0;
        ticket = None;
        turns = 0;
        look = 0;
        ready = false;
        made = 0;
        ended = [];
        opened = p.opened;
        opening = p.opening;
      }

  -- a pass after it joined another
  abbrev pub joined_with : PassView E → PassView E → PassView E
  joined_with p other =
      record p {
        seen = longer_of p.seen other.seen;
        away = without other.number p.away;
        turns = p.turns + other.turns;
        look = max p.look other.look;
        ended = p.ended ++ (other.number, other.mine) ∷ [];
      }

  -- the history begins with what both passes had seen
  pub record BeginsWithBoth (p other : PassView E) (history : List E) : Type 0 where
    pub mine : IsPrefix p.seen history
    pub theirs : IsPrefix other.seen history

  -- the pass looked at a number at which it draws no ticket, and nothing else is changed
  pub record IsWorn (p q : PassView E) : Type 0 where
    pub late : 9223372036854775808 ≤ q.look
    pub parts : q ≡ worn p q.look

  module _ {B : Type 0} (entries : B → List E) (by : E → ℕ) where
    -- the pass p found a turn, with the book b, and is then q
    pub record IsTurn (p q : PassView E) (b : B) : Type 0 where
      -- it looked at a number below 9,223,372,036,854,775,808
      pub early : q.look < 9223372036854775808
      -- the book begins with the history at the opening
      pub opened : IsPrefix p.opening (entries b)
      -- the book begins with what the pass had seen
      pub begins : IsPrefix p.seen (entries b)
      -- it is just that where no other pass can have added anything
      pub exact : p.number ≡ 0 → p.away ≡ [] → entries b ≡ p.seen
      -- the entries of the pass's number are those that it added
      pub own : added_by by p.opening p.number (entries b) ≡ p.mine
      -- to the pass from the opening: each entry has its number or that of a pass that it split off
      pub others : p.number ≡ 0 → All (λ e. by e ≤ p.made) (added p.opening (entries b))
      -- the ticket that it drew
      pub ticket : ℕ
      -- what the pass then is
      pub parts : q ≡ entered p q.look ticket (entries b)

  -- what the last pass knows of the whole history: whose entry each one is, in the order in which each pass added its own, and that its look is at most the opening ticket plus its turns
  pub record AccountsFor (by : E → ℕ) (p : PassView E) (history : List E) : Type 0 where
    pub begins : IsPrefix p.opening history
    pub own : added_by by p.opening 0 history ≡ p.mine
    pub each : (n : ℕ) → 0 < n → n ≤ p.made → Contains p.ended (n, added_by by p.opening n history)
    pub only : (n : ℕ) (l : List E) → Contains p.ended (n, l) → l ≡ added_by by p.opening n history
    pub others : All (λ e. by e ≤ p.made) (added p.opening history)
    pub looked : p.look ≤ p.opened + p.turns

-- between steps: a turn was found by a view, with the book b
abbrev pub Enters : {B E : Type 0} → (B → List E) → (E → ℕ) → View E → View E → B → Type 0
Enters entries by v w b = (n : ℕ) × (t : ℕ) × (n < 9223372036854775808) × Finds by v (entries b)
    × (w ≡ after_find (after_draw (after_look v n) t) (entries b))

-- between steps: a view looked at a number at which no ticket is drawn by it
abbrev pub LooksLate : {E : Type 0} → View E → View E → Type 0
LooksLate v w = (n : ℕ) × (9223372036854775808 ≤ n) × (w ≡ after_look v n)

-- What a pass carries through the steps of the lock, and what it is after each of them.
use Rattle.std.specs.Prelude.{ℕ, ◌+◌, Bool, true, false, max, ltb, List, [], ◌∷◌, ◌++◌, length, drop, Option, Some, None}
use Rattle.braid_hall.specs.declared.view.View.{View}
use Rattle.braid_hall.specs.Histories.{without, longer_of, shorter_of}

-- a flag as a number, so that flags can be counted
abbrev pub one_if : Bool → ℕ
one_if true = 1
one_if false = 0

-- the sum of what a function gives for each element
abbrev pub total : {X : Type 0} → (X → ℕ) → List X → ℕ
total f [] = 0
total f (x ∷ xs) = f x + total f xs

-- the parts that only a split and a join change: whether the view is not spent, how many passes it split off, which of these are away, and what those that were joined had added
abbrev pub SplitParts : Type 0 → Type 0
SplitParts E = Bool × ℕ × List ℕ × List (ℕ × List E)

module _ {E : Type 0} where
  -- the parts of a view that only a split and a join change
  abbrev pub split_parts_of : View E → SplitParts E
  split_parts_of v = (v.live, v.made, v.away, v.ended)

  -- the ticket of a view, if it has one
  abbrev pub ticket_of : View E → Option ℕ
  ticket_of v = v.ticket

  -- how many tickets a pass drew, and those that were joined into it
  abbrev pub turns_of : View E → ℕ
  turns_of v = v.turns

  -- one for a pass that may draw a ticket
  abbrev pub ready_of : View E → ℕ
  ready_of v = one_if v.ready

  -- the view of the pass from the opening
  abbrev pub first_view : ℕ → List E → View E
  first_view start base =
      record {
        live = true;
        number = 0;
        ticket = None;
        held = false;
        turns = 0;
        look = start;
        ready = false;
        seen = base;
        mine = [];
        made = 0;
        away = [];
        ended = [];
        opened = start;
        opening = base;
        shorter = base;
      }

  -- the view that is left of a pass that was joined into another
  abbrev pub spent_view : View E
  spent_view =
      record {
        live = false;
        number = 0;
        ticket = None;
        held = false;
        turns = 0;
        look = 0;
        ready = false;
        seen = [];
        mine = [];
        made = 0;
        away = [];
        ended = [];
        opened = 0;
        opening = [];
        shorter = [];
      }

  -- after a look that found the number n
  abbrev pub after_look : View E → ℕ → View E
  after_look v n = record v { look = n; ready = ltb n 9223372036854775808 }

  -- after the ticket n was drawn
  abbrev pub after_draw : View E → ℕ → View E
  after_draw v n = record v { ticket = Some n; turns = v.turns + 1; ready = false }

  -- after the ticket was served, over a book with this history
  abbrev pub after_find : View E → List E → View E
  after_find v history = record v { held = true; seen = history }

  -- after a book with this history was left
  abbrev pub after_leave : View E → List E → View E
  after_leave v history =
      record v { ticket = None; held = false; seen = history; mine = v.mine ++ drop (length v.seen) history }

  -- after one pass more was split off
  abbrev pub after_split : View E → View E
  after_split v = record v { made = v.made + 1; away = v.away ++ (v.made + 1) ∷ [] }

  -- the view of a pass that was split off
  abbrev pub new_view : View E → View E
  new_view v =
      record {
        live = true;
        number = v.made + 1;
        ticket = None;
        held = false;
        turns = 0;
        look = 0;
        ready = false;
        seen = v.seen;
        mine = [];
        made = 0;
        away = [];
        ended = [];
        opened = v.opened;
        opening = v.opening;
        shorter = v.seen;
      }

  -- after the pass with the view w was joined
  abbrev pub after_join : View E → View E → View E
  after_join v w =
      record v {
        turns = v.turns + w.turns;
        look = max v.look w.look;
        seen = longer_of v.seen w.seen;
        away = without w.number v.away;
        ended = v.ended ++ (w.number, w.mine) ∷ [];
        shorter = shorter_of v.seen w.seen;
      }

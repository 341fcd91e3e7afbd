-- What follows from the rule, and from what a turn tells.
use Rattle.std.proofs.Common.{◌≡◌, ℕ, ◌+◌, ◌<◌, ◌≤◌, Bool, true, false, ltb, List, length, sym, ap, ◌∙◌, arith, true≢false}
use mathlib.Core.Option.{some}
use lib.ListN.{get_elem?}
use Rattle.std.proofs.lemmas.List.{length-map}
use Rattle.std.specs.Prelude.{Option, Some, All}
use Rattle.atomic_table.specs.Table.{State}
use Rattle.atomic_table.proofs.Lists.{at_map}
use Rattle.braid_hall.specs.declared.view.View.{View}
use Rattle.braid_hall.specs.Histories.{IsPrefix, longer_of, added}
use Rattle.braid_hall.specs.Views.{total, ticket_of, ready_of, split_parts_of}
use Rattle.braid_hall.specs.Turns.{IsKnownOrSpent, IsKept}
use Rattle.braid_hall.proofs.Histories.{longer_begins, longer_begins_with_both, only_made}

module _ {E : Type 0} (by : E → ℕ) (start : ℕ) (base : List E) where
  held_ticket : (t n : ℕ) (history : List E) (j : ℕ) (v : View E) (b : Bool) → IsKnownOrSpent by start base t n history j v b → v.held ≡ true → v.ticket ≡ Some n
  held_ticket t n history j v true k e = (k.holder e).0
  held_ticket t n history j v false k e = absurd (true≢false (sym e ∙ ap (λ (z : View E). z.held) k))

module _ {B E : Type 0} (entries : B → List E) (by : E → ℕ) where
  pub one_turn : (start : ℕ) (base : List E) (s : State (Option B) (View E)) (i j : ℕ) (v w : View E) → IsKept entries by start base s → get_elem? s.views i ≡ some v → get_elem? s.views j ≡ some w → v.held ≡ true → w.held ≡ true → i ≡ j
  one_turn start base s i j v w k at there vs ws = let q = k.rule in q.queue.apart i j k.serving
      (at_map ticket_of s.views i v at ∙ ap (λ (z : Option ℕ). some z) (held_ticket by start base k.ticket k.serving k.history i v v.live (q.each i v at) vs))
      (at_map ticket_of s.views j w there ∙ ap (λ (z : Option ℕ). some z) (held_ticket by start base k.ticket k.serving k.history j w w.live (q.each j w there) ws))

  pub has_pass : (start : ℕ) (base : List E) (s : State (Option B) (View E)) (k : IsKept entries by start base s) → All (λ e. by e < length s.views) (added base k.history)
  has_pass start base s k = let q = k.rule in let root = q.numbers.root in
      let count : length s.views ≡ root.1 + 1 = sym (length-map s.views split_parts_of) ∙ q.numbers.counted in
      let made = only_made by root.1 (added base k.history) (λ n above. q.others n (omega arith)) in
      λ place d inside. let few = made place d inside in omega arith

  pub end_of_tickets : (start : ℕ) (base : List E) (s : State (Option B) (View E)) (k : IsKept entries by start base s) → start < 9223372036854775808 → k.ticket + total ready_of s.views ≤ 9223372036854775809 + k.rule.numbers.root.1
  end_of_tickets start base s k small = let q = k.rule in let root = q.numbers.root in let room = q.room small in
      let count : length s.views ≡ root.1 + 1 = sym (length-map s.views split_parts_of) ∙ q.numbers.counted in omega arith

pub longer_of_both : {E : Type 0} (xs ys zs : List E) → IsPrefix xs zs → IsPrefix ys zs → IsPrefix xs (longer_of xs ys) × IsPrefix ys (longer_of xs ys)
longer_of_both xs ys zs p q = let b = ltb (length xs) (length ys) in longer_begins_with_both xs ys zs (longer_begins xs ys zs b p q) (longer_begins ys xs zs b q p)

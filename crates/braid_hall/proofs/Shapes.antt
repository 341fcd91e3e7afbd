-- What a seat is after the steps of a turn, and what contracts see of it.
use Rattle.std.proofs.Common.{◌≡◌, ℕ, ◌+◌, ◌-◌, ◌%◌, length, ◌^◌, ◌<◌, true, false, List, [], ◌∷◌, ◌++◌, sym, refl, ap, ◌∙◌, subst, ⊎_elim, append-nil, true≢false, lt-ltb}
use mathlib.Core.Option.{none}
use Rattle.std.specs.Prelude.{Option, Some, None}
use Rattle.atomic_table.specs.Table.{Me, step, rest, Allows}
use Rattle.braid_hall.specs.declared.view.View.{View}
use Rattle.atomic_table.specs.Seated.{TableId}
use Rattle.braid_hall.specs.Histories.{IsPrefix, longer_of}
use Rattle.braid_hall.specs.Turns.{IsKept}
use Rattle.braid_hall.specs.Steps.{Finds, BeginsBoth, left, carried_history}
use Rattle.braid_hall.specs.Views.{after_look, after_draw, after_find, after_leave, after_join}
use Rattle.braid_hall.specs.Passes.{IsBetweenCalls, CanDraw, Enters, AddsOne, IsTurn, pass_of}
use Rattle.braid_hall.proofs.Keeps.{leaves}
use Rattle.braid_hall.proofs.Histories.{longer_begins_with_both}

abbrev or_else : {B : Type 0} → B → Option B → B
or_else d None = d
or_else d (Some x) = x

abbrev slot_first : {B : Type 0} → List (ℕ × Option B) → Option B
slot_first [] = None
slot_first (x ∷ xs) = x.1

abbrev M : Type 0 → Type 0 → Type 0
M B E = Me (Option B) (View E)

pub same_book : {B : Type 0} (a b : B) → Some a ≡ Some b → a ≡ b
same_book a b e = ap (or_else a) e

module _ {B E : Type 0} where
  pub can_draw : (me me1 : M B E) (n : ℕ) → IsBetweenCalls me → me.0.held ≡ false → n < 9223372036854775808 → me1 ≡ (after_look me.0 n, me.1) → CanDraw me1.0
  can_draw me me1 n r h lt e = subst (λ (m : M B E). CanDraw m.0) (sym e) (r.lives, lt-ltb n 9223372036854775808 lt, (r.idle h).1, h)

  pub drawn_seat : (me me1 me2 : M B E) (n p : ℕ) → IsBetweenCalls me → me.0.held ≡ false → me1 ≡ (after_look me.0 n, me.1) → me2 ≡ (after_draw me1.0 p, me1.1) → me2 ≡ (after_draw (after_look me.0 n) p, [])
  drawn_seat me me1 me2 n p r h e f = f ∙ (ap (λ (m : M B E). (after_draw m.0 p, m.1)) e ∙ ap (λ (c : List (ℕ × Option B)). (after_draw (after_look me.0 n) p, c)) (r.idle h).0)

  pub waits_seat : (me me2 : M B E) (n p : ℕ) → IsBetweenCalls me → me.0.held ≡ false → me2 ≡ (after_draw (after_look me.0 n) p, []) → (me2.0.live ≡ true) × (me2.0.ticket ≡ Some p) × (me2.0.held ≡ false)
  waits_seat me me2 n p r h e = subst (λ (m : M B E). (m.0.live ≡ true) × (m.0.ticket ≡ Some p) × (m.0.held ≡ false)) (sym e) (r.lives, refl, h)

  pub found_seat : (v : View E) (me2 me3 : M B E) (l : List E) (x : Option B) → me2 ≡ (v, []) → me3 ≡ (after_find me2.0 l, (0, x) ∷ me2.1) → me3 ≡ (after_find v l, (0, x) ∷ [])
  found_seat v me2 me3 l x e f = f ∙ ap (λ (m : M B E). (after_find m.0 l, (0, x) ∷ m.1)) e

  pub has_slot : (w : View E) (me : M B E) (x : Option B) → me ≡ (w, (0, x) ∷ []) → (old : Option B) × (me.1 ≡ (0, old) ∷ rest me.1)
  has_slot w me x e = (x, subst (λ (m : M B E). m.1 ≡ (0, x) ∷ rest m.1) (sym e) refl)

  pub had_slot : (w : View E) (me : M B E) (x y : Option B) → me ≡ (w, (0, x) ∷ []) → me.1 ≡ (0, y) ∷ rest me.1 → y ≡ x
  had_slot w me x y e f = ap slot_first (sym f ∙ ap (λ (m : M B E). m.1) e)

  pub put_seat : (w : View E) (me me' : M B E) (x y : Option B) → me ≡ (w, (0, x) ∷ []) → me' ≡ (me.0, (0, y) ∷ rest me.1) → me' ≡ (w, (0, y) ∷ [])
  put_seat w me me' x y e f = f ∙ ap (λ (m : M B E). (m.0, (0, y) ∷ rest m.1)) e

  pub busy_rests : (w : View E) (me : M B E) → me ≡ (w, (0, None) ∷ []) → w.live ≡ true → w.held ≡ true → IsBetweenCalls me
  busy_rests w me e l h = subst (λ (m : M B E). IsBetweenCalls m) (sym e) record { lives = l; idle = λ i. absurd (true≢false (sym h ∙ i)); busy = λ _. refl }

  pub idle_rests : (w : View E) (me : M B E) → me ≡ (w, []) → w.live ≡ true → w.held ≡ false → w.ticket ≡ None → IsBetweenCalls me
  idle_rests w me e l h t = subst (λ (m : M B E). IsBetweenCalls m) (sym e) record { lives = l; idle = λ _. (refl, t); busy = λ b. absurd (true≢false (sym b ∙ h)) }

  pub busy_seat : (me : M B E) → IsBetweenCalls me → me.0.held ≡ true → me ≡ (me.0, (0, None) ∷ [])
  busy_seat me r h = ap (λ (c : List (ℕ × Option B)). (me.0, c)) (r.busy h)

  module _ (entries : B → List E) (by : E → ℕ) where
    pub gives : (start : ℕ) (base : List E) (slots id : ℕ) (v : View E) (me : M B E) (b : B) → me ≡ (v, (0, Some b) ∷ []) → v.live ≡ true → v.held ≡ true → AddsOne entries by v.number v.seen b
        → Allows (IsKept entries by start base) slots id me 1 (λ x. (x + 1) % 2 ^ 64) (left entries (step slots 1 1 0 none) me)
    gives start base slots id v me b is live held adds = subst (λ (m : M B E). Allows (IsKept entries by start base) slots id m 1 (λ x. (x + 1) % 2 ^ 64) (left entries (step slots 1 1 0 none) m)) (sym is)
        (⊎_elim (λ (same : entries b ≡ v.seen). leaves entries by start base slots id (v, (0, Some b) ∷ []) b [] live held refl (same ∙ sym (append-nil v.seen)) tt)
        (λ (t : (e : E) × (entries b ≡ v.seen ++ e ∷ []) × (by e ≡ v.number)). leaves entries by start base slots id (v, (0, Some b) ∷ []) b (t.0 ∷ []) live held refl t.1 (t.2, tt)) adds)

    pub left_seat : (v : View E) (me me' : M B E) (b : B) → me ≡ (v, (0, Some b) ∷ []) → me' ≡ (after_leave me.0 (carried_history entries me.1), rest me.1) → me' ≡ (after_leave v (entries b), [])
    left_seat v me me' b e f = f ∙ ap (λ (m : M B E). (after_leave m.0 (carried_history entries m.1), rest m.1)) e

    module _ (me me2 me3 me4 : M B E) (n p : ℕ) (b c : B) (r : IsBetweenCalls me) (idle : me.0.held ≡ false) (lt : n < 9223372036854775808) (e : me2 ≡ (after_draw (after_look me.0 n) p, []))
        (begins : Finds by me2.0 (entries b)) (f : me3 ≡ (after_find me2.0 (entries b), (0, Some b) ∷ me2.1)) (x : me3.1 ≡ (0, Some c) ∷ rest me3.1) (y : me4 ≡ (me3.0, (0, None) ∷ rest me3.1)) where
      abbrev then_found : View E
      then_found = after_find (after_draw (after_look me.0 n) p) (entries b)

      found_is : me3 ≡ (then_found, (0, Some b) ∷ [])
      found_is = found_seat (after_draw (after_look me.0 n) p) me2 me3 (entries b) (Some b) e f

      same : b ≡ c
      same = same_book b c (sym (had_slot then_found me3 (Some b) (Some c) found_is x))

      earlier : Finds by (after_draw (after_look me.0 n) p) (entries b) → Finds by me.0 (entries b)
      earlier f = record { opened = f.opened; begins = f.begins; own = f.own; exact = f.exact; others = f.others }

      pub turn_rests : IsBetweenCalls me4
      turn_rests = busy_rests then_found me4 (put_seat then_found me3 me4 (Some b) None found_is y) r.lives refl

      pub turn_enters : Enters entries by me.0 me4.0 c
      turn_enters = (
        n,
        p,
        lt,
        subst (λ (z : B). Finds by me.0 (entries z)) same (earlier (subst (λ (m : M B E). Finds by m.0 (entries b)) e begins)),
        ap (λ (m : M B E). m.0) (put_seat then_found me3 me4 (Some b) None found_is y) ∙ ap (λ (z : B). after_find (after_draw (after_look me.0 n) p) (entries z)) same,
      )

    -- a turn, as contracts see it
    pub is_turn : (hall : TableId) (v w : View E) (marks : List ℕ) (spare : ℕ) (b : B) → Enters entries by v w b → IsTurn entries by (pass_of hall v marks spare) (pass_of hall w (marks ++ length (entries b) ∷ []) (spare - 1)) b
    is_turn hall v w marks spare b e = let f = e.3 in
        subst (λ (z : View E). IsTurn entries by (pass_of hall v marks spare) (pass_of hall z (marks ++ length (entries b) ∷ []) (spare - 1)) b) (sym e.4)
        record { early = e.2; opened = f.opened; begins = f.begins; exact = f.exact; own = f.own; others = f.others; ticket = e.1; parts = refl }

-- after a join and a load, the pass has seen a history that begins with what both had seen
pub begins_with_both : {B E : Type 0} (me : Me (Option B) (View E)) (w : View E) (me1 me2 : Me (Option B) (View E)) → me1 ≡ (after_join me.0 w, me.1) → me2 ≡ me1 → BeginsBoth me1.0
    → IsPrefix me.0.seen me2.0.seen × IsPrefix w.seen me2.0.seen
begins_with_both {B} {E} me w me1 me2 joined same both =
    let seen : BeginsBoth (after_join me.0 w) = subst (λ (m : Me (Option B) (View E)). BeginsBoth m.0) joined both in
    let begin = longer_begins_with_both me.0.seen w.seen seen.0 seen.1 seen.2 in
    let is : me2.0.seen ≡ longer_of me.0.seen w.seen = ap (λ (m : Me (Option B) (View E)). m.0.seen) (same ∙ joined) in
    (subst (IsPrefix me.0.seen) (sym is) begin.0, subst (IsPrefix w.seen) (sym is) begin.1)

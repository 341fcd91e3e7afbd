-- The opening and the close.
use Rattle.std.proofs.Common.{◌≡◌, ℕ, zero, suc, ◌+◌, ◌<◌, ◌≢◌, Bool, true, false, eqb, List, [], ◌∷◌, map, length, sym, refl, ap, ◌∙◌, subst, arith, append-nil, le_refl, true≢false}
use mathlib.Core.Logic.{dite}
use mathlib.Core.Option.{some, some-injective, some-ne-none}
use native.Mathlib.Decide.{ℕ_discrete}
use lib.ListN.{get_elem?}
use lib.Seq.{drop-length}
use Rattle.std.proofs.lemmas.List.{length-map}
use Rattle.std.specs.Prelude.{Option, Some, None, Contains, filter}
use Rattle.std.proofs.lemmas.Option.{none-some}
use Rattle.atomic_table.specs.Table.{State, opening, Final, Seen}
use Rattle.atomic_table.specs.Seated.{TableId}
use Rattle.atomic_table.proofs.Lists.{at_map}
use Rattle.braid_hall.specs.declared.view.View.{View}
use Rattle.braid_hall.specs.Histories.{IsPrefix, added, added_by}
use Rattle.braid_hall.specs.Views.{SplitParts, split_parts_of, turns_of, first_view}
use Rattle.braid_hall.specs.Turns.{IsKnownOrSpent, IsKept}
use Rattle.braid_hall.proofs.Places.{at_one, there_is, one_total}
use Rattle.braid_hall.proofs.Members.{among_none}
use Rattle.braid_hall.proofs.Histories.{only_made}
use Rattle.braid_hall.proofs.Keeps.{known}
use Rattle.braid_hall.specs.Passes.{pass_of, AccountsFor}

module _ {B E : Type 0} (entries : B → List E) (by : E → ℕ) (start : ℕ) (base : List E) where
  abbrev V : Type 0
  V = View E

  abbrev Rule : State (Option B) V → Type 0
  Rule = IsKept entries by start base

  abbrev Is : ℕ → ℕ → List E → ℕ → V → Bool → Type 0
  Is = IsKnownOrSpent by start base

  abbrev added_of : ℕ → List E → List E
  added_of = added_by by base

  -- where the pass of the opening has no other one out, it has seen all
  pub alone : (s : State (Option B) V) (r : Rule s) (id : ℕ) (v : V) → get_elem? s.views id ≡ some v → v.live ≡ true → v.number ≡ 0 → v.away ≡ [] → (j : ℕ) (d : V) → get_elem? s.views j ≡ some d → j ≢ id → (b : Bool) → d.live ≡ b → b ≡ false
  alone s r id v at live root none_out j d e ne false is = refl
  alone s r id v at live root none_out j d e ne true is = let q = r.rule in let k = known entries by start base s r id v at live in let zero_id : id ≡ 0 = sym k.number ∙ root in let vs : List V = s.views in
      let at0 : get_elem? vs 0 ≡ some v = ap (λ (z : ℕ). get_elem? vs z) (sym zero_id) ∙ at in
      let pos : 0 < j = dite (ℕ_discrete j 0) (λ z. absurd (ne (z ∙ sym zero_id))) (λ z. omega arith) in
      let a = q.numbers.out j (split_parts_of d) (at_map split_parts_of vs j d e) pos is in
      absurd (among_none j (subst (λ (l : List ℕ). Contains l j) (ap (λ (z : SplitParts E). z.2) (at_one (map split_parts_of vs) 0 q.numbers.root (split_parts_of v) q.numbers.is_root (at_map split_parts_of vs 0 v at0)) ∙ none_out) a))

  pub alone_saw : (s : State (Option B) V) (r : Rule s) (id : ℕ) (v : V) → get_elem? s.views id ≡ some v → v.live ≡ true → v.number ≡ 0 → v.away ≡ [] → v.seen ≡ r.history
  alone_saw s r id v at live root none_out = let l = r.rule.longest in dite (ℕ_discrete l.0 id)
      (λ is. ap (λ (z : V). z.seen) (at_one s.views id v l.1 at (ap (λ (z : ℕ). get_elem? s.views z) (sym is) ∙ l.2)) ∙ l.4)
      (λ ne. absurd (true≢false (alone s r id v at live root none_out l.0 l.1 l.2 ne true l.3)))

  dead_idle : (t n : ℕ) (history : List E) (j : ℕ) (d : V) (b : Bool) → b ≡ false → Is t n history j d b → d.held ≡ false
  dead_idle t n history j d false e k = ap (λ (z : V). z.held) k
  dead_idle t n history j d true e k = absurd (true≢false e)

  dead_turns : (t n : ℕ) (history : List E) (j : ℕ) (d : V) (b : Bool) → b ≡ false → Is t n history j d b → d.turns ≡ 0
  dead_turns t n history j d false e k = ap (λ (z : V). z.turns) k
  dead_turns t n history j d true e k = absurd (true≢false e)

  pub accounts : (hall : TableId) (marks : List ℕ) (spare : ℕ) (s : State (Option B) V) (r : Rule s) (id : ℕ) (v : V) → get_elem? s.views id ≡ some v → v.live ≡ true → v.number ≡ 0 → v.away ≡ [] → AccountsFor by (pass_of hall v marks spare) r.history
  accounts hall marks spare s r id v at live root none_out = let q = r.rule in let k = known entries by start base s r id v at live in let zero_id : id ≡ 0 = sym k.number ∙ root in let vs : List V = s.views in let parts : List (SplitParts E) = map split_parts_of vs in
      let at0 : get_elem? vs 0 ≡ some v = ap (λ (z : ℕ). get_elem? vs z) (sym zero_id) ∙ at in
      let root_is : q.numbers.root ≡ split_parts_of v = at_one parts 0 q.numbers.root (split_parts_of v) q.numbers.is_root (at_map split_parts_of vs 0 v at0) in
      let count : length vs ≡ v.made + 1 = sym (length-map vs split_parts_of) ∙ (q.numbers.counted ∙ ap (λ (z : SplitParts E). z.1 + 1) root_is) in
      let same : (n : ℕ) → added_of n r.history ≡ added_by by v.opening n r.history = λ n. ap (λ (z : List E). added_by by z n r.history) (sym k.opening) in record {
        begins = subst (λ (l : List E). IsPrefix l r.history) (sym k.opening) q.begins;
        own = sym (same 0) ∙ (ap (λ (z : ℕ). added_of z r.history) (sym zero_id) ∙ k.mine);
        each = λ n pos few. let e = there_is vs n (omega arith) in let d = alone s r id v at live root none_out n e.0 e.1 (λ z. omega arith) e.0.live refl in
            subst (λ (l : List E). Contains v.ended (n, l)) (same n) (subst (λ (z : SplitParts E). Contains z.3 (n, added_of n r.history)) root_is (q.numbers.gone n (split_parts_of e.0) (at_map split_parts_of vs n e.0 e.1) d));
        only = λ n l a. (q.numbers.only n l (subst (λ (z : SplitParts E). Contains z.3 (n, l)) (sym root_is) a)).1 ∙ same n;
        others = only_made by v.made (added v.opening r.history) (λ n above. sym (same n) ∙ q.others n (omega arith));
        looked = let t = one_total turns_of vs id v at (λ j d e ne. dead_turns r.ticket r.serving r.history j d d.live (alone s r id v at live root none_out j d e ne d.live refl) (q.each j d e)) in
            let drawn = q.drawn in let look = k.look in let op = k.opened in omega arith;
      }

  -- at the end the book lies in its slot, and the pass has seen all of it
  pub closes : (hall : TableId) (marks : List ℕ) (spare : ℕ) (id : ℕ) (v : V) (ws : List ℕ) (xs : List (Option B)) → v.live ≡ true → v.number ≡ 0 → v.away ≡ [] → v.held ≡ false → Final (Seen Rule id v) ws xs → (b : B) × (get_elem? xs 0 ≡ some (Some b)) × (entries b ≡ v.seen) × AccountsFor by (pass_of hall v marks spare) (entries b)
  closes hall marks spare id v ws xs live root none_out idle f = let s = f.0 in let r = f.1.0 in let at = f.1.1 in
      let home = r.rule.at_home (λ j d e. dite (ℕ_discrete j id) (λ is. ap (λ (z : V). z.held) (at_one s.views id d v (ap (λ (z : ℕ). get_elem? s.views z) (sym is) ∙ e) at) ∙ idle)
      (λ ne. dead_idle r.ticket r.serving r.history j d d.live (alone s r id v at live root none_out j d e ne d.live refl) (r.rule.each j d e))) in
      (home.0, f.4 0 (Some home.0) home.1, home.2 ∙ sym (alone_saw s r id v at live root none_out), subst (AccountsFor by (pass_of hall v marks spare)) (sym home.2) (accounts hall marks spare s r id v at live root none_out))

  one_none : (j k : ℕ) → get_elem? (None ∷ []) j ≡ some (Some k) → ⊥
  one_none zero k e = none-some k (some-injective None (Some k) e)
  one_none (suc j) k e = some-ne-none (Some k) (sym e)

  past_one : {A : Type 0} (a : A) (j : ℕ) (r : A) → get_elem? (a ∷ []) j ≡ some r → 0 < j → ⊥
  past_one a zero r e pos = omega arith
  past_one a (suc j) r e pos = some-ne-none r (sym e)

  gone_first : (j : ℕ) (r : SplitParts E) → get_elem? ((true, 0, [], []) ∷ []) j ≡ some r → r.0 ≡ false → ⊥
  gone_first zero r e dead = true≢false (ap (λ (z : SplitParts E). z.0) (some-injective (true, 0, [], []) r e) ∙ dead)
  gone_first (suc j) r e dead = some-ne-none r (sym e)

  first_is_known : ((n : ℕ) → added_of n base ≡ []) → (j : ℕ) (d : V) → get_elem? (first_view start base ∷ []) j ≡ some d → Is start start base j d d.live
  first_is_known none_added zero d e = subst (λ (z : V). Is start start base 0 z z.live) (some-injective (first_view start base) d e) record {
    number = refl;
    opened = refl;
    opening = refl;
    seen = ([], sym (append-nil base));
    shorter = ([], sym (append-nil base));
    holder = λ h. absurd (true≢false (sym h));
    mine = none_added 0;
    look = le_refl start;
    worn = λ _. (refl, refl);
  }
  first_is_known none_added (suc j) d e = absurd (some-ne-none d (sym e))

  pub opens : (b : B) → entries b ≡ base → start < 18446744073709551616 → Rule (opening (start ∷ start ∷ []) (Some b ∷ []) (first_view start base))
  opens b is small = let none_added : (n : ℕ) → added_of n base ≡ [] = λ n. ap (filter (λ e. eqb (by e) n)) (drop-length base) in record {
    ticket = start;
    serving = start;
    history = base;
    words = refl;
    rule = record {
      slot = refl;
      fits = small;
      few = omega arith;
      begins = ([], sym (append-nil base));
      queue = record { order = le_refl start; within = λ j k e. absurd (one_none j k e); apart = λ a b k x y. absurd (one_none a k x); every = λ k l h. absurd (omega arith) };
      each = λ j d e. first_is_known none_added j d e;
      at_home = λ _. (b, refl, is);
      longest = (0, first_view start base, refl, refl, refl);
      others = λ n _. none_added n;
      numbers = record {
        root = (true, 0, [], []);
        is_root = refl;
        lives = refl;
        counted = refl;
        out = λ j r e pos _. absurd (past_one (true, 0, [], []) j r e pos);
        back = λ j a. absurd (among_none j a);
        gone = λ j r e dead. absurd (gone_first j r e dead);
        only = λ j l a. absurd (among_none (j, l) a);
        plain = λ j r e pos. absurd (past_one (true, 0, [], []) j r e pos);
      };
      drawn = omega arith;
      room = λ l. omega arith;
    };
  }

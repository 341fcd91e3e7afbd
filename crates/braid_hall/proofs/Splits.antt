-- A split and a join keep the rule.
use Rattle.std.proofs.Common.{◌≡◌, ℕ, zero, suc, ◌+◌, ◌%◌, ◌^◌, ◌<◌, ◌≤◌, ◌≢◌, ◌⊎◌, Bool, true, false, cond, max, ltb, eqb, List, [], ◌∷◌, ◌++◌, map, length, drop, get_or, set, sym, refl, ap, ◌∙◌, subst, ⊎_elim, inl, inr, arith, length-set, length-append, append_assoc, append-nil, le_refl, zero-le, true≢false, lt-ltb, le-ltb, eq-eqb, ne_eqb}
use mathlib.Core.Logic.{dite}
use mathlib.Core.List.{map-append}
use mathlib.Core.Option.{some}
use native.Mathlib.Decide.{ℕ_discrete}
use lib.ListN.{get_elem?}
use lib.Seq.{map-set}
use Rattle.std.proofs.lemmas.List.{length-map}
use Rattle.std.specs.Prelude.{Option, None}
use Rattle.atomic_table.specs.Table.{State, Splits, Joins}
use Rattle.atomic_table.proofs.Lists.{set_here, set_else, set_again, at_map, at_longer}
use Rattle.braid_hall.specs.declared.view.View.{View}
use Rattle.braid_hall.specs.Histories.{IsPrefix, longer_of, without, added_by}
use Rattle.braid_hall.specs.Views.{SplitParts, split_parts_of, ticket_of, turns_of, ready_of, spent_view, after_split, new_view, after_join}
use Rattle.braid_hall.specs.Turns.{IsQueue, IsNumbered, IsKnownOrSpent, IsKept}
use Rattle.braid_hall.proofs.Places.{at_inside, at_one, each_set, at_snoc_place, total_set, total_snoc}
use Rattle.braid_hall.proofs.Queues.{queue_more}
use Rattle.braid_hall.proofs.Histories.{longer_begins, longest_left, longest_right}
use Rattle.braid_hall.proofs.Keeps.{known}
use Rattle.braid_hall.proofs.Numbers.{numbered_splits, numbered_joins}

module _ {B E : Type 0} (entries : B → List E) (by : E → ℕ) (start : ℕ) (base : List E) where
  abbrev V : Type 0
  V = View E

  abbrev Rule : State (Option B) V → Type 0
  Rule = IsKept entries by start base

  abbrev Is : ℕ → ℕ → List E → ℕ → V → Bool → Type 0
  Is = IsKnownOrSpent by start base

  abbrev added_of : ℕ → List E → List E
  added_of = added_by by base

  pub splits : (id : ℕ) (v : V) → v.live ≡ true → v.number ≡ 0 → v.made < 4294967295 → Splits Rule id v (after_split v) (new_view v)
  splits id v live root room s r at = let q = r.rule in let k = known entries by start base s r id v at live in let vs : List V = s.views in let w : V = after_split v in let u : V = new_view v in let mid : List V = set vs id w in
      let zero_id : id ≡ 0 = sym k.number ∙ root in let at0 : get_elem? vs 0 ≡ some v = ap (λ (z : ℕ). get_elem? vs z) (sym zero_id) ∙ at in
      let t : ℕ = r.ticket in let n : ℕ = r.serving in let history : List E = r.history in let len = length-set vs id w in let len' = length-append mid (u ∷ []) in
      let inside = at_inside vs id v at in
      let count : length vs ≡ v.made + 1 = sym (length-map vs split_parts_of) ∙ (q.numbers.counted ∙ ap (λ (z : SplitParts E). z.1 + 1) (at_one (map split_parts_of vs) 0 q.numbers.root (split_parts_of v) q.numbers.is_root (at_map split_parts_of vs 0 v at0))) in
      let queues : map ticket_of (mid ++ u ∷ []) ≡ map ticket_of vs ++ None ∷ [] = map-append ticket_of mid (u ∷ []) ∙ ap (λ (l : List (Option ℕ)). l ++ None ∷ []) (map-set ticket_of vs id w ∙ set_again (map ticket_of vs) id v.ticket (at_map ticket_of vs id v at)) in
      let parts : map split_parts_of (mid ++ u ∷ []) ≡ set (map split_parts_of vs) 0 (split_parts_of w) ++ (true, 0, [], []) ∷ [] = map-append split_parts_of mid (u ∷ []) ∙ ap (λ (l : List (SplitParts E)). l ++ (true, 0, [], []) ∷ []) (map-set split_parts_of vs id w ∙ ap (λ (z : ℕ). set (map split_parts_of vs) z (split_parts_of w)) zero_id) in
      let turns = total_snoc turns_of mid u in let turns' = total_set turns_of vs id v w at in let readies = total_snoc ready_of mid u in let readies' = total_set ready_of vs id v w at in record {
        ticket = t;
        serving = n;
        history = history;
        words = r.words;
        rule = record {
          slot = q.slot;
          fits = q.fits;
          few = omega arith;
          begins = q.begins;
          queue = subst (IsQueue t n) (sym queues) (queue_more t n (map ticket_of vs) q.queue);
          each = λ j d e. ⊎_elim
              (each_set (λ i x. Is t n history i x x.live) vs id w (subst (λ b. Is t n history id w b) (sym live) record { number = k.number; opened = k.opened; opening = k.opening; seen = k.seen; shorter = k.shorter; holder = k.holder; mine = k.mine; look = k.look; worn = k.worn }) (λ i x _. q.each i x) j d)
              (λ (h : (j ≡ length mid) × (u ≡ d)). subst (λ (z : ℕ × V). Is t n history z.0 z.1 z.1.live) (λ i. (sym h.0 i, h.1 i)) record {
                number = sym count ∙ sym len;
                opened = k.opened;
                opening = k.opening;
                seen = k.seen;
                shorter = k.seen;
                holder = λ b. absurd (true≢false (sym b));
                mine = q.others (length mid) (omega arith);
                look = Rattle.std.proofs.Common.zero-le;
                worn = λ _. (refl, refl);
              }) (at_snoc_place mid u d j e);
          at_home = λ none_held. q.at_home (λ j d e. dite (ℕ_discrete j id)
              (λ is. ap (λ (z : V). z.held) (at_one vs id d v (ap (λ (z : ℕ). get_elem? vs z) (sym is) ∙ e) at) ∙ none_held id w (at_longer mid (u ∷ []) id w (set_here vs id w inside)))
              (λ ne. none_held j d (at_longer mid (u ∷ []) j d (set_else vs id j w ne ∙ e))));
          longest = let l = q.longest in dite (ℕ_discrete l.0 id)
              (λ is. let same : v ≡ l.1 = at_one vs id v l.1 at (ap (λ (z : ℕ). get_elem? vs z) (sym is) ∙ l.2) in (id, w, at_longer mid (u ∷ []) id w (set_here vs id w inside), live, ap (λ (z : V). z.seen) same ∙ l.4))
              (λ ne. (l.0, l.1, at_longer mid (u ∷ []) l.0 l.1 (set_else vs id l.0 w ne ∙ l.2), l.3, l.4));
          others = λ m h. q.others m (omega arith);
          numbers = subst (IsNumbered (λ m. added_of m history)) (sym parts) (numbered_splits (λ m. added_of m history) (map split_parts_of vs) q.numbers (split_parts_of v) (at_map split_parts_of vs 0 v at0));
          drawn = let d = q.drawn in omega arith;
          room = λ small. let old = q.room small in omega arith;
        };
      }

  pub joins : (id : ℕ) (v : V) (other : ℕ) (x : V) → v.live ≡ true → v.number ≡ 0 → x.live ≡ true → x.ticket ≡ None → x.held ≡ false → Joins Rule id v other x (after_join v x) spent_view
  joins id v other x live root lives out idle s r at apart there = let q = r.rule in let k = known entries by start base s r id v at live in let vs : List V = s.views in let w : V = after_join v x in let mid : List V = set vs id w in let end : V = spent_view in
      let zero_id : id ≡ 0 = sym k.number ∙ root in let at0 : get_elem? vs 0 ≡ some v = ap (λ (z : ℕ). get_elem? vs z) (sym zero_id) ∙ at in
      let atx : get_elem? vs other ≡ some x = sym (set_else vs id other w apart) ∙ there in let kx = known entries by start base s r other x atx lives in
      let t : ℕ = r.ticket in let n : ℕ = r.serving in let history : List E = r.history in let len = length-set vs id w in let len' = length-set mid other end in
      let inside = at_inside vs id v at in let not0 : other ≢ 0 = λ e. apart (e ∙ sym zero_id) in
      let qs : List (Option ℕ) = map ticket_of vs in
      let queues : map ticket_of (set mid other end) ≡ qs = map-set ticket_of mid other end ∙ (ap (λ (l : List (Option ℕ)). set l other None) (map-set ticket_of vs id w ∙ set_again qs id v.ticket (at_map ticket_of vs id v at))
      ∙ set_again qs other None (at_map ticket_of vs other x atx ∙ ap (λ (z : Option ℕ). some z) out)) in
      let parts : map split_parts_of (set mid other end) ≡ set (set (map split_parts_of vs) 0 (true, v.made, without other v.away, v.ended ++ (other, added_of other history) ∷ [])) other (false, 0, [], []) = map-set split_parts_of mid other end
      ∙ ap (λ (l : List (SplitParts E)). set l other (false, 0, [], [])) (map-set split_parts_of vs id w ∙ (ap (λ (z : ℕ). set (map split_parts_of vs) z (split_parts_of w)) zero_id
      ∙ ap (λ (z : Bool × ℕ × List E). set (map split_parts_of vs) 0 (z.0, v.made, without z.1 v.away, v.ended ++ (z.1, z.2) ∷ [])) (λ i. (live i, kx.number i, sym kx.mine i)))) in
      let turns = total_set turns_of mid other x end there in let turns' = total_set turns_of vs id v w at in let readies = total_set ready_of mid other x end there in let readies' = total_set ready_of vs id v w at in
      let seen_both : IsPrefix w.seen history = longer_begins v.seen x.seen history (ltb (length v.seen) (length x.seen)) k.seen kx.seen in
      let there_id : get_elem? (set mid other end) id ≡ some w = set_else mid other id end (λ e. apart (sym e)) ∙ set_here vs id w inside in record {
        ticket = t;
        serving = n;
        history = history;
        words = r.words;
        rule = record {
          slot = q.slot;
          fits = q.fits;
          few = let f = q.few in omega arith;
          begins = q.begins;
          queue = subst (IsQueue t n) (sym queues) q.queue;
          each = each_set (λ i y. Is t n history i y y.live) mid other end refl (λ j d ne e. each_set (λ i y. Is t n history i y y.live) vs id w (subst (λ b. Is t n history id w b) (sym live) record {
            number = k.number;
            opened = k.opened;
            opening = k.opening;
            seen = seen_both;
            shorter = longer_begins x.seen v.seen history (ltb (length v.seen) (length x.seen)) kx.seen k.seen;
            holder = λ h. let a = k.holder h in (a.0, ap (λ (l : List E). longer_of l x.seen) a.1 ∙ longest_left history x.seen kx.seen);
            mine = k.mine;
            look = let a = k.look in let b = kx.look in omega arith;
            worn = λ h. let a = k.worn h in let b = kx.worn h in let p = a.1 in let p' = b.1 in (a.0, omega arith);
          }) (λ i y _. q.each i y) j d e);
          at_home = λ none_held. q.at_home (λ j d e. dite (ℕ_discrete j other) (λ is. ap (λ (z : V). z.held) (at_one vs other d x (ap (λ (z : ℕ). get_elem? vs z) (sym is) ∙ e) atx) ∙ idle)
              (λ no. dite (ℕ_discrete j id)
              (λ is. ap (λ (z : V). z.held) (at_one vs id d v (ap (λ (z : ℕ). get_elem? vs z) (sym is) ∙ e) at) ∙ none_held id w there_id)
              (λ ne. none_held j d (set_else mid other j end no ∙ (set_else vs id j w ne ∙ e)))));
          longest = let l = q.longest in dite (ℕ_discrete l.0 id)
              (λ is. let same : v ≡ l.1 = at_one vs id v l.1 at (ap (λ (z : ℕ). get_elem? vs z) (sym is) ∙ l.2) in let e : v.seen ≡ history = ap (λ (z : V). z.seen) same ∙ l.4 in
              (id, w, there_id, live, ap (λ (y : List E). longer_of y x.seen) e ∙ longest_left history x.seen kx.seen))
              (λ ne. dite (ℕ_discrete l.0 other)
              (λ is. let same : x ≡ l.1 = at_one vs other x l.1 atx (ap (λ (z : ℕ). get_elem? vs z) (sym is) ∙ l.2) in let e : x.seen ≡ history = ap (λ (z : V). z.seen) same ∙ l.4 in
              (id, w, there_id, live, ap (longer_of v.seen) e ∙ longest_right v.seen history (ltb (length v.seen) (length history)) refl k.seen))
              (λ no. (l.0, l.1, set_else mid other l.0 end no ∙ (set_else vs id l.0 w ne ∙ l.2), l.3, l.4)));
          others = λ m h. q.others m (omega arith);
          numbers = subst (IsNumbered (λ m. added_of m history)) (sym parts) (subst (λ (b : Bool). IsNumbered (λ m. added_of m history) (set (set (map split_parts_of vs) 0 (b, v.made, without other v.away, v.ended ++ (other, added_of other history) ∷ [])) other (false, 0, [], []))) live
              (numbered_joins (λ m. added_of m history) (map split_parts_of vs) q.numbers (split_parts_of v) other (split_parts_of x) (at_map split_parts_of vs 0 v at0) not0 (at_map split_parts_of vs other x atx) lives));
          drawn = let d = q.drawn in omega arith;
          room = λ small. let old = q.room small in omega arith;
        };
      }

-- Each step of a turn keeps the rule.
use Rattle.std.proofs.Common.{◌≡◌, ℕ, ◌+◌, ◌%◌, ◌^◌, ◌<◌, ◌≤◌, ◌≢◌, Bool, true, false, List, [], ◌∷◌, ◌++◌, map, length, drop, get_or, set, sym, refl, ap, ◌∙◌, subst, arith, length-set, append-nil, le_refl, true≢false, le-ltb}
use mathlib.Core.Logic.{dite}
use mathlib.Core.Option.{none, some, some-injective, some-ne-none}
use mathlib.Core.Option as maybe
use native.Mathlib.Decide.{ℕ_discrete, dec_lt}
use lib.ListN.{get_elem?}
use lib.Seq.{map-set, drop-append_seam}
use Rattle.std.proofs.lemmas.List.{length-map}
use Rattle.std.specs.Prelude.{Option, Some, None, Contains, All}
use Rattle.atomic_table.specs.Table.{State, Me, Act, keeps, takes, gives, Valid, homes_after, carried_after, step, Allows}
use Rattle.atomic_table.proofs.Lists.{set_here, set_else, set_again, at_map}
use Rattle.braid_hall.specs.declared.view.View.{View}
use Rattle.braid_hall.specs.Histories.{IsPrefix, added, added_by, AllBy}
use Rattle.braid_hall.specs.Views.{one_if, SplitParts, split_parts_of, ticket_of, turns_of, ready_of, after_look, after_draw, after_find, after_leave}
use Rattle.braid_hall.specs.Turns.{IsQueue, IsNumbered, IsKnown, IsKnownOrSpent, IsKeptAt, IsKept}
use Rattle.braid_hall.specs.Steps.{Finds, looked, drew, found, left, compared}
use Rattle.braid_hall.proofs.Places.{same_number, at_inside, at_one, each_set, total_set, total_few, one_at_most}
use Rattle.braid_hall.proofs.Members.{among_none}
use Rattle.braid_hall.proofs.Queues.{queue_draws, queue_leaves}
use Rattle.braid_hall.proofs.Histories.{longer, added_own, added_other, only_made}

module _ {B E : Type 0} (entries : B → List E) (by : E → ℕ) (start : ℕ) (base : List E) where
  abbrev V : Type 0
  V = View E

  abbrev Homes : Type 0
  Homes = List (maybe.Option (Option B))

  abbrev M : Type 0
  M = Me (Option B) V

  abbrev Rule : State (Option B) V → Type 0
  Rule = IsKept entries by start base

  abbrev Good : ℕ → ℕ → List E → Homes → List V → Type 0
  Good = IsKeptAt by start base entries

  abbrev Is : ℕ → ℕ → List E → ℕ → V → Bool → Type 0
  Is = IsKnownOrSpent by start base

  abbrev added_of : ℕ → List E → List E
  added_of = added_by by base

  abbrev Goes : List ℕ → Homes → List V → ℕ → ℕ → M → (ℕ → ℕ) → (ℕ → M → Type 0) → Type 0
  Goes ws hs vs i id me f then = (w : V) × (a : Act (Option B)) × Valid hs me.1 a
      × Rule (record { words = set ws i (f (get_or ws i 0)); homes = homes_after hs me.1 a; views = set vs id w }) × then (get_or ws i 0) (w, carried_after me.1 a)

  pub is_known : (t n : ℕ) (history : List E) (j : ℕ) (d : V) (b : Bool) → b ≡ true → Is t n history j d b → IsKnown by start base t n history j d
  is_known t n history j d true e k = k
  is_known t n history j d false e k = absurd (true≢false (sym e))

  pub known : (s : State (Option B) V) (r : Rule s) (id : ℕ) (v : V) → get_elem? s.views id ≡ some v → v.live ≡ true → IsKnown by start base r.ticket r.serving r.history id v
  known s r id v at live = is_known r.ticket r.serving r.history id v v.live live (r.rule.each id v at)

  pub still : (t n : ℕ) (history : List E) (t' n' : ℕ) (history' : List E) (j : ℕ) (d : V) (b : Bool) → (IsKnown by start base t n history j d → IsKnown by start base t' n' history' j d) → Is t n history j d b → Is t' n' history' j d b
  still t n history t' n' history' j d true f k = f k
  still t n history t' n' history' j d false f k = k

  module _ (t n : ℕ) (history : List E) (hs : Homes) (vs : List V) (r : Good t n history hs vs) (id : ℕ) (v : V) (at : get_elem? vs id ≡ some v) (live : v.live ≡ true) where
    me_knows : IsKnown by start base t n history id v
    me_knows = is_known t n history id v v.live live (r.each id v at)

    inside : id < length vs
    inside = at_inside vs id v at

    same_split_parts : (w : V) → split_parts_of w ≡ split_parts_of v → map split_parts_of (set vs id w) ≡ map split_parts_of vs
    same_split_parts w e = map-set split_parts_of vs id w ∙ (ap (set (map split_parts_of vs) id) e ∙ set_again (map split_parts_of vs) id (split_parts_of v) (at_map split_parts_of vs id v at))

    same_queue : (w : V) → w.ticket ≡ v.ticket → map ticket_of (set vs id w) ≡ map ticket_of vs
    same_queue w e = map-set ticket_of vs id w ∙ (ap (set (map ticket_of vs) id) e ∙ set_again (map ticket_of vs) id v.ticket (at_map ticket_of vs id v at))

    -- the ticket that is served is held by one seat
    one_holder : (j : ℕ) (d : V) → v.ticket ≡ Some n → get_elem? vs j ≡ some d → d.ticket ≡ Some n → j ≡ id
    one_holder j d e atj f = r.queue.apart j id n (at_map ticket_of vs j d atj ∙ ap (λ (z : Option ℕ). some z) f) (at_map ticket_of vs id v at ∙ ap (λ (z : Option ℕ). some z) e)

    holds_none : (j : ℕ) (d : V) (b : Bool) → b ≡ d.live → j ≢ id → v.ticket ≡ Some n → get_elem? vs j ≡ some d → Is t n history j d b → (h : Bool) → d.held ≡ h → h ≡ false
    holds_none j d b e ne mine atj k false is = refl
    holds_none j d true e ne mine atj k true is = absurd (ne (one_holder j d mine atj (k.holder is).0))
    holds_none j d false e ne mine atj k true is = absurd (true≢false (sym is ∙ ap (λ (z : V). z.held) k))

    holds_none_at : (j : ℕ) (d : V) → j ≢ id → v.ticket ≡ Some n → get_elem? vs j ≡ some d → d.held ≡ false
    holds_none_at j d ne mine atj = holds_none j d d.live refl ne mine atj (r.each j d atj) d.held refl

    looks_at : (me1 : List (ℕ × Option B)) (slots : ℕ) → Goes (t ∷ n ∷ []) hs vs 0 id (v, me1) (λ x. x) (looked (step slots 0 0 0 none) (v, me1))
    looks_at me1 slots = let w : V = after_look v t in let k = me_knows in (
      w,
      keeps,
      tt,
      record {
        ticket = t;
        serving = n;
        history = history;
        words = refl;
        rule = record {
          slot = r.slot;
          fits = r.fits;
          few = subst (λ (z : ℕ). z ≤ 4294967296) (sym (length-set vs id w)) r.few;
          begins = r.begins;
          queue = subst (IsQueue t n) (sym (same_queue w refl)) r.queue;
          each = each_set (λ j d. Is t n history j d d.live) vs id w
              (subst (λ b. Is t n history id w b) (sym live) record {
                number = k.number;
                opened = k.opened;
                opening = k.opening;
                seen = k.seen;
                shorter = k.shorter;
                holder = k.holder;
                mine = k.mine;
                look = le_refl t;
                worn = λ h. let d = r.drawn in (le-ltb t 9223372036854775808 (omega arith), (k.worn h).1);
              }) (λ j d _ e. r.each j d e);
          at_home = λ none_held. r.at_home (λ j d e. dite (ℕ_discrete j id)
              (λ is. ap (λ (z : V). z.held) (at_one vs id d v (ap (λ (z : ℕ). get_elem? vs z) (sym is) ∙ e) at) ∙ none_held id w (set_here vs id w inside))
              (λ ne. none_held j d (set_else vs id j w ne ∙ e)));
          longest = let l = r.longest in dite (ℕ_discrete l.0 id)
              (λ is. let same : v ≡ l.1 = at_one vs id v l.1 at (ap (λ (z : ℕ). get_elem? vs z) (sym is) ∙ l.2) in (id, w, set_here vs id w inside, live, ap (λ (z : V). z.seen) same ∙ l.4))
              (λ ne. (l.0, l.1, set_else vs id l.0 w ne ∙ l.2, l.3, l.4));
          others = λ m h. r.others m (subst (λ (z : ℕ). z ≤ m) (length-set vs id w) h);
          numbers = subst (IsNumbered (λ m. added_of m history)) (sym (same_split_parts w refl)) r.numbers;
          drawn = let s = total_set turns_of vs id v w at in let d = r.drawn in omega arith;
          room = λ small. let s = total_set ready_of vs id v w at in let old = r.room small in let len = length-set vs id w in let most = total_few ready_of (λ (x : V). one_at_most x.ready) (set vs id w) in dite (dec_lt t 9223372036854775808)
              (λ lt. omega arith) (λ ge. let none_now : ready_of w ≡ 0 = ap one_if (le-ltb t 9223372036854775808 (omega arith)) in omega arith);
        };
      },
      refl,
    )

    compares_at : (me1 : List (ℕ × Option B)) (slots : ℕ) → Goes (t ∷ n ∷ []) hs vs 0 id (v, me1) (λ x. x) (compared (step slots 0 0 0 none) (v, me1))
    compares_at me1 slots = let k = me_knows in (
      v,
      keeps,
      tt,
      record { ticket = t; serving = n; history = history; words = refl; rule = subst (Good t n history hs) (sym (set_again vs id v at)) r },
      (refl, (history, k.seen, k.shorter)),
    )

    home_stays : (w : V) → w.held ≡ v.held → ((j : ℕ) (d : V) → get_elem? (set vs id w) j ≡ some d → d.held ≡ false) → (b : B) × (get_elem? hs 0 ≡ some (some (Some b))) × (entries b ≡ history)
    home_stays w same none_held = r.at_home (λ j d e. dite (ℕ_discrete j id)
        (λ is. ap (λ (z : V). z.held) (at_one vs id d v (ap (λ (z : ℕ). get_elem? vs z) (sym is) ∙ e) at) ∙ (sym same ∙ none_held id w (set_here vs id w inside)))
        (λ ne. none_held j d (set_else vs id j w ne ∙ e)))

    longest_stays : (w : V) → w.live ≡ true → w.seen ≡ v.seen → (j : ℕ) × (d : V) × (get_elem? (set vs id w) j ≡ some d) × (d.live ≡ true) × (d.seen ≡ history)
    longest_stays w lives same = let l = r.longest in dite (ℕ_discrete l.0 id)
        (λ is. let e : v ≡ l.1 = at_one vs id v l.1 at (ap (λ (z : ℕ). get_elem? vs z) (sym is) ∙ l.2) in (id, w, set_here vs id w inside, lives, same ∙ (ap (λ (z : V). z.seen) e ∙ l.4)))
        (λ ne. (l.0, l.1, set_else vs id l.0 w ne ∙ l.2, l.3, l.4))

    draws_at : (me1 : List (ℕ × Option B)) (slots : ℕ) → v.ready ≡ true → v.ticket ≡ None → v.held ≡ false
        → Goes (t ∷ n ∷ []) hs vs 0 id (v, me1) (λ x. (x + 1) % 18446744073709551616) (drew (step slots 0 1 0 none) (v, me1))
    draws_at me1 slots ready out idle = let w : V = after_draw v t in let k = me_knows in
        let early : start < 9223372036854775808 = dite (dec_lt start 9223372036854775808) (λ h. h) (λ h. absurd (true≢false (sym ready ∙ (k.worn (omega arith)).0))) in
        let room = r.room early in let few = r.few in let s = total_set ready_of vs id v w at in let one : ready_of v ≡ 1 = ap one_if ready in
        let next : (t + 1) % 18446744073709551616 ≡ t + 1 = omega arith in (
          w,
          keeps,
          tt,
          record {
            ticket = t + 1;
            serving = n;
            history = history;
            words = ap (λ (z : ℕ). z ∷ n ∷ []) next;
            rule = record {
              slot = r.slot;
              fits = omega arith;
              few = subst (λ (z : ℕ). z ≤ 4294967296) (sym (length-set vs id w)) r.few;
              begins = r.begins;
              queue = subst (IsQueue (t + 1) n) (sym (map-set ticket_of vs id w)) (queue_draws t n (map ticket_of vs) id r.queue (at_map ticket_of vs id v at ∙ ap (λ (z : Option ℕ). some z) out));
              each = each_set (λ j d. Is (t + 1) n history j d d.live) vs id w
                  (subst (λ b. Is (t + 1) n history id w b) (sym live) record {
                    number = k.number;
                    opened = k.opened;
                    opening = k.opening;
                    seen = k.seen;
                    shorter = k.shorter;
                    holder = λ h. absurd (true≢false (sym h ∙ idle));
                    mine = k.mine;
                    look = let l = k.look in omega arith;
                    worn = λ h. absurd (omega arith);
                  }) (λ j d _ e. still t n history (t + 1) n history j d d.live (λ x. record {
                    number = x.number;
                    opened = x.opened;
                    opening = x.opening;
                    seen = x.seen;
                    shorter = x.shorter;
                    holder = x.holder;
                    mine = x.mine;
                    look = let l = x.look in omega arith;
                    worn = x.worn;
                  }) (r.each j d e));
              at_home = home_stays w refl;
              longest = longest_stays w live refl;
              others = λ m h. r.others m (subst (λ (z : ℕ). z ≤ m) (length-set vs id w) h);
              numbers = subst (IsNumbered (λ m. added_of m history)) (sym (same_split_parts w refl)) r.numbers;
              drawn = let u = total_set turns_of vs id v w at in let d = r.drawn in omega arith;
              room = λ small. let len = length-set vs id w in omega arith;
            };
          },
          refl,
        )

    -- the pass of the opening has seen all, where no other one is out
    alone_here : v.number ≡ 0 → v.away ≡ [] → v.seen ≡ history
    alone_here root none_out = let l = r.longest in let zero_id : id ≡ 0 = sym me_knows.number ∙ root in dite (ℕ_discrete l.0 id)
        (λ is. ap (λ (z : V). z.seen) (at_one vs id v l.1 at (ap (λ (z : ℕ). get_elem? vs z) (sym is) ∙ l.2)) ∙ l.4)
        (λ ne. let pos : 0 < l.0 = dite (ℕ_discrete l.0 0) (λ z. absurd (ne (z ∙ sym zero_id))) (λ z. omega arith) in
        let parts : List (SplitParts E) = map split_parts_of vs in let a = r.numbers.out l.0 (split_parts_of l.1) (at_map split_parts_of vs l.0 l.1 l.2) pos l.3 in
        let root_is : r.numbers.root ≡ split_parts_of v = at_one parts 0 r.numbers.root (split_parts_of v) r.numbers.is_root (ap (λ (z : ℕ). get_elem? parts z) (sym zero_id) ∙ at_map split_parts_of vs id v at) in
        let gone : Contains [] l.0 = subst (λ (x : List ℕ). Contains x l.0) (ap (λ (z : SplitParts E). z.2) root_is ∙ none_out) a in absurd (among_none l.0 gone))

    -- the pass from the opening knows how many passes there are, so that no entry has another number
    made_here : v.number ≡ 0 → All (λ e. by e ≤ v.made) (added base history)
    made_here root = let zero_id : id ≡ 0 = sym me_knows.number ∙ root in let parts : List (SplitParts E) = map split_parts_of vs in
        let root_is : r.numbers.root ≡ split_parts_of v = at_one parts 0 r.numbers.root (split_parts_of v) r.numbers.is_root (ap (λ (z : ℕ). get_elem? parts z) (sym zero_id) ∙ at_map split_parts_of vs id v at) in
        let count : length vs ≡ v.made + 1 = sym (length-map vs split_parts_of) ∙ (r.numbers.counted ∙ ap (λ (z : SplitParts E). z.1 + 1) root_is) in
        only_made by v.made (added base history) (λ n above. r.others n (omega arith))

    finds_here : (b : B) → entries b ≡ history → Finds by v (entries b)
    finds_here b is = let k = me_knows in record {
      opened = subst (λ (z : List E × List E). IsPrefix z.0 z.1) (λ i. (sym k.opening i, sym is i)) r.begins;
      begins = subst (IsPrefix v.seen) (sym is) k.seen;
      own = ap (λ (z : List E × ℕ × List E). added_by by z.0 z.1 z.2) (λ i. (k.opening i, k.number i, is i)) ∙ k.mine;
      exact = λ root none_out. is ∙ sym (alone_here root none_out);
      others = λ root. subst (λ (z : List E × List E). All (λ e. by e ≤ v.made) (added z.0 z.1)) (λ i. (sym k.opening i, sym is i)) (made_here root);
    }

    finds_at : (me1 : List (ℕ × Option B)) (slots p : ℕ) → v.ticket ≡ Some p → v.held ≡ false
        → Goes (t ∷ n ∷ []) hs vs 1 id (v, me1) (λ x. x) (found entries by (step slots 1 0 0 none) (v, me1))
    finds_at me1 slots p mine idle = let k = me_knows in dite (ℕ_discrete p n)
        (λ hit. let own : v.ticket ≡ Some n = mine ∙ ap (λ (z : ℕ). Some z) hit in
        let home = r.at_home (λ j d e. dite (ℕ_discrete j id)
        (λ is. ap (λ (z : V). z.held) (at_one vs id d v (ap (λ (z : ℕ). get_elem? vs z) (sym is) ∙ e) at) ∙ idle) (λ ne. holds_none_at j d ne own e)) in
        let b : B = home.0 in let w : V = after_find v (entries b) in (
          w,
          takes 0 (Some b),
          home.1,
          record {
            ticket = t;
            serving = n;
            history = history;
            words = refl;
            rule = record {
              slot = length-set hs 0 none ∙ r.slot;
              fits = r.fits;
              few = subst (λ (z : ℕ). z ≤ 4294967296) (sym (length-set vs id w)) r.few;
              begins = r.begins;
              queue = subst (IsQueue t n) (sym (same_queue w refl)) r.queue;
              each = each_set (λ j d. Is t n history j d d.live) vs id w
                  (subst (λ b. Is t n history id w b) (sym live) record {
                    number = k.number;
                    opened = k.opened;
                    opening = k.opening;
                    seen = ([], sym home.2 ∙ sym (append-nil (entries b)));
                    shorter = k.shorter;
                    holder = λ _. (own, home.2);
                    mine = k.mine;
                    look = k.look;
                    worn = k.worn;
                  }) (λ j d _ e. r.each j d e);
              at_home = λ none_held. absurd (true≢false (none_held id w (set_here vs id w inside)));
              longest = (id, w, set_here vs id w inside, live, home.2);
              others = λ m h. r.others m (subst (λ (z : ℕ). z ≤ m) (length-set vs id w) h);
              numbers = subst (IsNumbered (λ m. added_of m history)) (sym (same_split_parts w refl)) r.numbers;
              drawn = let u = total_set turns_of vs id v w at in let d = r.drawn in omega arith;
              room = λ small. let s = total_set ready_of vs id v w at in let len = length-set vs id w in let old = r.room small in omega arith;
            };
          },
          ((λ _. (b, finds_here b home.2, refl)), λ ne. absurd (ne own)),
        ))
        (λ miss. (
          v,
          keeps,
          tt,
          record { ticket = t; serving = n; history = history; words = refl; rule = subst (Good t n history hs) (sym (set_again vs id v at)) r },
          ((λ e. absurd (miss (same_number p n (sym mine ∙ e)))), λ _. refl),
        ))

    module _ (b : B) (more : List E) (held : v.held ≡ true) (is : entries b ≡ v.seen ++ more) (all : AllBy by v.number more) where
      grown : entries b ≡ history ++ more
      grown = is ∙ ap (λ (l : List E). l ++ more) (me_knows.holder held).1

      own_ticket : v.ticket ≡ Some n
      own_ticket = (me_knows.holder held).0

      all_mine : AllBy by id more
      all_mine = subst (λ (z : ℕ). AllBy by z more) me_knows.number all

      the_more : drop (length v.seen) (entries b) ≡ more
      the_more = ap (drop (length v.seen)) is ∙ drop-append_seam v.seen more

      other_stays : (m : ℕ) → m ≢ id → added_of m (entries b) ≡ added_of m history
      other_stays m ne = ap (added_of m) grown ∙ added_other by base history more r.begins id m all_mine ne

      own_grows : added_of id (entries b) ≡ added_of id history ++ more
      own_grows = ap (added_of id) grown ∙ added_own by base history more r.begins id all_mine

      dead_is_other : (j : ℕ) (x : SplitParts E) → get_elem? (map split_parts_of vs) j ≡ some x → x.0 ≡ false → j ≢ id
      dead_is_other j x e dead same = true≢false (sym live ∙ (ap (λ (z : SplitParts E). z.0) (at_one (map split_parts_of vs) id (split_parts_of v) x (at_map split_parts_of vs id v at) (ap (λ (z : ℕ). get_elem? (map split_parts_of vs) z) (sym same) ∙ e)) ∙ dead))

      numbers_stay : IsNumbered (λ m. added_of m (entries b)) (map split_parts_of vs)
      numbers_stay = let q = r.numbers in record {
        root = q.root;
        is_root = q.is_root;
        lives = q.lives;
        counted = q.counted;
        out = q.out;
        back = q.back;
        gone = λ j x e dead. subst (λ (l : List E). Contains q.root.3 (j, l)) (sym (other_stays j (dead_is_other j x e dead))) (q.gone j x e dead);
        only = λ j l a. let old = q.only j l a in (old.0, old.1 ∙ sym (other_stays j (dead_is_other j old.0.0 old.0.1 old.0.2)));
        plain = q.plain;
      }

      leaves_at : (slots : ℕ) → Goes (t ∷ n ∷ []) hs vs 1 id (v, (0, Some b) ∷ []) (λ x. (x + 1) % 18446744073709551616) (left entries (step slots 1 1 0 none) (v, (0, Some b) ∷ []))
      leaves_at slots = let w : V = after_leave v (entries b) in let k = me_knows in
          let within = r.queue.within id n (at_map ticket_of vs id v at ∙ ap (λ (z : Option ℕ). some z) own_ticket) in
          let below : n < t = within.1 in let fits = r.fits in let next : (n + 1) % 18446744073709551616 ≡ n + 1 = omega arith in let slot = r.slot in (
            w,
            gives,
            tt,
            record {
              ticket = t;
              serving = n + 1;
              history = entries b;
              words = ap (λ (z : ℕ). t ∷ z ∷ []) next;
              rule = record {
                slot = length-set hs 0 (some (Some b)) ∙ r.slot;
                fits = r.fits;
                few = subst (λ (z : ℕ). z ≤ 4294967296) (sym (length-set vs id w)) r.few;
                begins = subst (IsPrefix base) (sym grown) (longer base history more r.begins);
                queue = subst (IsQueue t (n + 1)) (sym (map-set ticket_of vs id w)) (queue_leaves t n (map ticket_of vs) id r.queue (at_map ticket_of vs id v at ∙ ap (λ (z : Option ℕ). some z) own_ticket));
                each = each_set (λ j d. Is t (n + 1) (entries b) j d d.live) vs id w
                    (subst (λ x. Is t (n + 1) (entries b) id w x) (sym live) record {
                      number = k.number;
                      opened = k.opened;
                      opening = k.opening;
                      seen = ([], sym (append-nil (entries b)));
                      shorter = subst (IsPrefix v.shorter) (sym grown) (longer v.shorter history more k.shorter);
                      holder = λ h. absurd (true≢false (sym h));
                      mine = own_grows ∙ (ap (λ (l : List E). l ++ more) k.mine ∙ ap (λ (l : List E). v.mine ++ l) (sym the_more));
                      look = k.look;
                      worn = k.worn;
                    }) (λ j d ne e. still t n history t (n + 1) (entries b) j d d.live (λ x. record {
                      number = x.number;
                      opened = x.opened;
                      opening = x.opening;
                      seen = subst (IsPrefix d.seen) (sym grown) (longer d.seen history more x.seen);
                      shorter = subst (IsPrefix d.shorter) (sym grown) (longer d.shorter history more x.shorter);
                      holder = λ h. absurd (true≢false (sym h ∙ holds_none_at j d ne own_ticket e));
                      mine = other_stays j ne ∙ x.mine;
                      look = x.look;
                      worn = x.worn;
                    }) (r.each j d e));
                at_home = λ _. (b, set_here hs 0 (some (Some b)) (omega arith), refl);
                longest = (id, w, set_here vs id w inside, live, refl);
                others = λ m h. let len = length-set vs id w in let here = inside in other_stays m (λ e. omega arith) ∙ r.others m (omega arith);
                numbers = subst (IsNumbered (λ m. added_of m (entries b))) (sym (same_split_parts w refl)) numbers_stay;
                drawn = let u = total_set turns_of vs id v w at in let d = r.drawn in omega arith;
                room = λ small. let s = total_set ready_of vs id v w at in let len = length-set vs id w in let old = r.room small in omega arith;
              };
            },
            refl,
          )

  pub compares : (slots id : ℕ) (me : M) → me.0.live ≡ true → Allows Rule slots id me 0 (λ x. x) (compared (step slots 0 0 0 none) me)
  compares slots id me live s r _ at _ = subst (λ ws. Goes ws s.homes s.views 0 id me (λ x. x) (compared (step slots 0 0 0 none) me)) (sym r.words)
      (compares_at r.ticket r.serving r.history s.homes s.views r.rule id me.0 at live me.1 slots)

  pub looks : (slots id : ℕ) (me : M) → me.0.live ≡ true → Allows Rule slots id me 0 (λ x. x) (looked (step slots 0 0 0 none) me)
  looks slots id me live s r _ at _ = subst (λ ws. Goes ws s.homes s.views 0 id me (λ x. x) (looked (step slots 0 0 0 none) me)) (sym r.words)
      (looks_at r.ticket r.serving r.history s.homes s.views r.rule id me.0 at live me.1 slots)

  pub draws : (slots id : ℕ) (me : M) → me.0.live ≡ true → me.0.ready ≡ true → me.0.ticket ≡ None → me.0.held ≡ false
      → Allows Rule slots id me 0 (λ x. (x + 1) % 2 ^ 64) (drew (step slots 0 1 0 none) me)
  draws slots id me live ready out idle s r _ at _ = subst (λ ws. Goes ws s.homes s.views 0 id me (λ x. (x + 1) % 2 ^ 64) (drew (step slots 0 1 0 none) me)) (sym r.words)
      (draws_at r.ticket r.serving r.history s.homes s.views r.rule id me.0 at live me.1 slots ready out idle)

  pub finds : (slots id : ℕ) (me : M) (p : ℕ) → me.0.live ≡ true → me.0.ticket ≡ Some p → me.0.held ≡ false → Allows Rule slots id me 1 (λ x. x) (found entries by (step slots 1 0 0 none) me)
  finds slots id me p live mine idle s r _ at _ = subst (λ ws. Goes ws s.homes s.views 1 id me (λ x. x) (found entries by (step slots 1 0 0 none) me)) (sym r.words)
      (finds_at r.ticket r.serving r.history s.homes s.views r.rule id me.0 at live me.1 slots p mine idle)

  pub leaves : (slots id : ℕ) (me : M) (b : B) (more : List E) → me.0.live ≡ true → me.0.held ≡ true → me.1 ≡ (0, Some b) ∷ [] → entries b ≡ me.0.seen ++ more → AllBy by me.0.number more
      → Allows Rule slots id me 1 (λ x. (x + 1) % 2 ^ 64) (left entries (step slots 1 1 0 none) me)
  leaves slots id me b more live held has is all = subst (λ (c : List (ℕ × Option B)). Allows Rule slots id (me.0, c) 1 (λ x. (x + 1) % 2 ^ 64) (left entries (step slots 1 1 0 none) (me.0, c))) (sym has)
      (λ s r _ at _. subst (λ ws. Goes ws s.homes s.views 1 id (me.0, (0, Some b) ∷ []) (λ x. (x + 1) % 2 ^ 64) (left entries (step slots 1 1 0 none) (me.0, (0, Some b) ∷ []))) (sym r.words)
      (leaves_at r.ticket r.serving r.history s.homes s.views r.rule id me.0 at live b more held is all slots))

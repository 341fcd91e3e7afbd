-- Passes that are out together, and what a join of each makes.
use Rattle.std.proofs.Common.{◌≡◌, ℕ, zero, suc, ◌+◌, ◌<◌, ◌≤◌, ◌≢◌, false, List, [], ◌∷◌, ◌++◌, length, get_or, sym, refl, ap, ◌∙◌, subst, ⊎_elim, arith, length-append}
use Rattle.std.specs.Prelude.{All, Contains}
use Rattle.std.specs.List.{AllZip}
use mathlib.Core.Option.{some, some-injective, some-ne-none}
use lib.ListN.{get_elem?}
use Rattle.atomic_table.specs.Seated.{TableId}
use Rattle.atomic_table.proofs.Lists.{at_longer, at_last}
use Rattle.braid_hall.specs.Histories.{IsPrefix, longer_of}
use Rattle.braid_hall.specs.Passes.{PassView, BeginsWithBoth, joined_with, with_split, new_pass}
use Rattle.braid_hall.specs.Many.{AreAway, JoinsAll, SplitsAll, KeepsPass}
use Rattle.braid_hall.proofs.Places.{at_inside, at_snoc_place}
use Rattle.braid_hall.proofs.Members.{among_more, among_last, among_split, without_keeps, without_has}
use Rattle.braid_hall.proofs.Histories.{prefix_itself, prefix_of_prefix, all_cons}

-- lists that are as long, and agree at each place
pub zip_each : {X : Type 0} (R : X → X → Type 0) (xs ys : List X) → length ys ≡ length xs
    → ((k : ℕ) (d : X) → k < length xs → R (get_or xs k d) (get_or ys k d)) → AllZip R xs ys
zip_each R [] [] long h = tt
zip_each R [] (y ∷ ys) long h = absurd (cc long)
zip_each R (x ∷ xs) [] long h = absurd (cc long)
zip_each R (x ∷ xs) (y ∷ ys) long h =
    (h 0 x (omega arith), zip_each R xs ys (omega (arith, long)) (λ k d inside. h (suc k) d (omega (arith, inside))))

empty_of : (l : List ℕ) → ((x : ℕ) → Contains l x → ⊥) → l ≡ []
empty_of [] h = refl
empty_of (x ∷ xs) h = absurd (h x (0, omega arith, refl))

module _ {E : Type 0} (hall : TableId) where
  -- where no pass is left, none is away
  pub none_away_of : (p : PassView E) (ps : List (PassView E)) → length ps ≡ 0 → AreAway hall p ps → p.away ≡ []
  none_away_of p ps none c = empty_of p.away (λ x a. let o = c.out x a in let above = o.0 in let below = o.1 in omega arith)

  -- the last of the passes away
  pub away_last : (p : PassView E) (ps : List (PassView E)) (w : PassView E) → AreAway hall p (ps ++ w ∷ []) → (w.hall ≡ hall) × (w.held ≡ false) × (w.number ≡ length ps + 1) × Contains p.away w.number
  away_last p ps w c = let me = c.each (length ps) w (at_last ps w (length ps) refl) in (me.0, me.1, me.2, subst (λ z. Contains p.away z) (sym me.2) me.3)

  -- the passes away without the last one, which was joined
  pub away_joins : (p : PassView E) (ps : List (PassView E)) (w : PassView E) → AreAway hall p (ps ++ w ∷ []) → AreAway hall (joined_with p w) ps
  away_joins p ps w c = let n : ℕ = length ps in let me = c.each n w (at_last ps w n refl) in let number = me.2 in record {
    same_hall = c.same_hall;
    first = c.first;
    idle = c.idle;
    each = λ k x e. let old = c.each k x (at_longer ps (w ∷ []) k x e) in let below = at_inside ps k x e in (old.0, old.1, old.2, without_keeps w.number (k + 1) p.away (λ z. omega arith) old.3);
    out = λ x a. let b = without_has w.number x p.away a in let o = c.out x b.1 in let pos = o.0 in let few = o.1 in let len = length-append ps (w ∷ []) in
        let ne : x ≢ n + 1 = λ z. b.0 (z ∙ sym number) in (pos, omega arith);
  }

  -- the passes away with one more, which was split off
  pub away_splits : (p : PassView E) (ps : List (PassView E)) → AreAway hall p ps → p.made ≡ length ps → AreAway hall (with_split p) (ps ++ new_pass p ∷ [])
  away_splits p ps c made = let n : ℕ = length ps in let w : PassView E = new_pass p in let len = length-append ps (w ∷ []) in
      let away : p.away ++ (p.made + 1) ∷ [] ≡ p.away ++ (n + 1) ∷ [] = ap (λ z. p.away ++ (z + 1) ∷ []) made in record {
        same_hall = c.same_hall;
        first = c.first;
        idle = c.idle;
        each = λ k x e. ⊎_elim
            (λ o. let old = c.each k x o in (old.0, old.1, old.2, among_more (k + 1) p.away ((p.made + 1) ∷ []) old.3))
            (λ (t : (k ≡ n) × (w ≡ x)). subst (λ (z : ℕ × PassView E). (z.1.hall ≡ hall) × (z.1.held ≡ false) × (z.1.number ≡ z.0 + 1) × Contains (p.away ++ (p.made + 1) ∷ []) (z.0 + 1)) (λ i. (sym t.0 i, t.1 i))
            (c.same_hall, refl, ap (λ z. z + 1) made, subst (λ l. Contains l (n + 1)) (sym away) (among_last (n + 1) p.away)))
            (at_snoc_place ps w x k e);
        out = λ x a. ⊎_elim (λ b. let o = c.out x b in let pos = o.0 in let few = o.1 in (pos, omega arith)) (λ (e : n + 1 ≡ x). (omega arith, omega arith)) (among_split x (n + 1) p.away (subst (λ l. Contains l x) away a));
      }

module _ {E : Type 0} where
  -- a pass that took in none
  pub joins_none : (p : PassView E) → JoinsAll p [] p
  joins_none p = record {
    begins = prefix_itself p.seen;
    each = λ k d inside. absurd (omega arith);
    looks = λ k d inside. absurd (omega arith);
    look = omega arith;
    turns = omega arith;
    ended = λ k d inside. absurd (omega arith);
    kept = refl;
  }

  -- a pass that took in one more
  pub joins_more : (p : PassView E) (ps : List (PassView E)) (q w : PassView E) → JoinsAll p ps q → BeginsWithBoth q w (longer_of q.seen w.seen) → JoinsAll p (w ∷ ps) (joined_with q w)
  joins_more p ps q w g both = let r : PassView E = joined_with q w in record {
    begins = prefix_of_prefix p.seen q.seen r.seen g.begins both.mine;
    each = all_cons (λ (other : PassView E). IsPrefix other.seen r.seen) w ps both.theirs (λ k d inside. prefix_of_prefix (get_or ps k d).seen q.seen r.seen (g.each k d inside) both.mine);
    looks = all_cons (λ (other : PassView E). other.look ≤ r.look) w ps (omega arith) (λ k d inside. let l = g.looks k d inside in omega arith);
    look = let l = g.look in omega arith;
    turns = let t = g.turns in omega arith;
    ended = all_cons (λ (other : PassView E). Contains r.ended (other.number, other.mine)) w ps (among_last (w.number, w.mine) q.ended)
        (λ k d inside. among_more ((get_or ps k d).number, (get_or ps k d).mine) q.ended ((w.number, w.mine) ∷ []) (g.ended k d inside));
    kept = ap (λ (z : PassView E). joined_with z w) g.kept;
  }

  -- where no pass is left, all were taken in
  pub joins_whole : (p : PassView E) (all left popped : List (PassView E)) (q : PassView E) → length left ≡ 0 → all ≡ left ++ popped → JoinsAll p popped q → JoinsAll p all q
  joins_whole p all [] popped q none whole g = subst (λ l. JoinsAll p l q) (sym whole) g
  joins_whole p all (x ∷ xs) popped q none whole g = absurd (omega arith)

module _ {E : Type 0} (hall : TableId) where
  -- a pass that split off one more
  pub splits_more : (p : PassView E) (n : ℕ) (q : PassView E) (ps : List (PassView E)) → SplitsAll hall p n q ps → SplitsAll hall p (n + 1) (with_split q) (ps ++ new_pass q ∷ [])
  splits_more p n q ps s = let len = length-append ps (new_pass q ∷ []) in let many = s.many in let made = s.made in let next : q.made ≡ length ps = s.made ∙ sym s.many in
      let new_is : new_pass q ≡ record (new_pass p) { number = length ps + 1 } = ap new_pass s.kept ∙ ap (λ (z : ℕ). record (new_pass p) { number = z + 1 }) next in record {
        away = away_splits hall q ps s.away next;
        many = omega arith;
        made = omega arith;
        fresh = λ k new e. ⊎_elim (s.fresh k new)
            (λ (t : (k ≡ length ps) × (new_pass q ≡ new)). sym t.1 ∙ (new_is ∙ ap (λ (z : ℕ). record (new_pass p) { number = z + 1 }) (sym t.0)))
            (at_snoc_place ps (new_pass q) new k e);
        kept = ap with_split s.kept;
      }

all_zip_long : {X : Type 0} (R : X → X → Type 0) (xs ys : List X) → AllZip R xs ys → length ys ≡ length xs
all_zip_long R [] [] p = refl
all_zip_long R [] (y ∷ ys) p = absurd p
all_zip_long R (x ∷ xs) [] p = absurd p
all_zip_long R (x ∷ xs) (y ∷ ys) p = let r = all_zip_long R xs ys p.1 in omega arith

all_zip_at : {X : Type 0} (R : X → X → Type 0) (xs ys : List X) → AllZip R xs ys → (k : ℕ) (y : X) → get_elem? ys k ≡ some y → (x : X) × (get_elem? xs k ≡ some x) × R x y
all_zip_at R [] [] p k y e = absurd (some-ne-none y (sym e))
all_zip_at R [] (z ∷ zs) p k y e = absurd p
all_zip_at R (x ∷ xs) [] p k y e = absurd p
all_zip_at R (x ∷ xs) (z ∷ zs) p zero y e = (x, refl, subst (R x) (some-injective z y e) p.0)
all_zip_at R (x ∷ xs) (z ∷ zs) p (suc k) y e = all_zip_at R xs zs p.1 k y e

at_or : {X : Type 0} (l : List X) (k : ℕ) (d : X) → k < length l → get_elem? l k ≡ some (get_or l k d)
at_or [] k d h = absurd (omega arith)
at_or (x ∷ xs) zero d h = refl
at_or (x ∷ xs) (suc k) d h = at_or xs k d (omega arith)

module _ {E : Type 0} (hall : TableId) where
  -- the passes stay away where each keeps its hall and its number
  pub away_runs : (p : PassView E) (ps qs : List (PassView E)) → AreAway hall p ps → AllZip KeepsPass ps qs → AreAway hall p qs
  away_runs p ps qs c d = let long = all_zip_long KeepsPass ps qs d in record {
    same_hall = c.same_hall;
    first = c.first;
    idle = c.idle;
    each = λ k q e. let t = all_zip_at KeepsPass ps qs d k q e in let old = c.each k t.0 t.1 in (t.2.hall ∙ old.0, t.2.idle, t.2.number ∙ old.2, old.3);
    out = λ x a. let o = c.out x a in let pos = o.0 in let few = o.1 in (pos, omega arith);
  }

  -- each pass away comes from the hall and is in no turn
  pub away_rests : (p : PassView E) (ps : List (PassView E)) → AreAway hall p ps → All (λ q. (q.hall ≡ hall) × (q.held ≡ false)) ps
  away_rests p ps c = λ k d inside. let o = c.each k (get_or ps k d) (at_or ps k d inside) in (o.0, o.1)

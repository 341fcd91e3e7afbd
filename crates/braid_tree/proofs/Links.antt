-- From the last deletion of a place to the one before it: no deletion of the place is missed.
use Rattle.std.proofs.Common.{◌≡◌, ℕ, zero, suc, ◌+◌, ◌<◌, ◌≤◌, List, [], ◌∷◌, ◌++◌, Bool, true, false, cond, ◌&&◌, ◌||◌, Option, Some, None, length, take, slice_get, get_or, ◌==◌, ◌↔◌, IsTrue, refl, sym, ap, subst, ◌∙◌, inl, inr, arith}
use Rattle.std.specs.Option.{option_map}
use Rattle.std.specs.List.{list_any}
use Rattle.std.proofs.lemmas.List.{length-map, take_all}
use Rattle.std.proofs.lemmas.List.Folds.{list_any_more}
use Rattle.std.proofs.lemmas.Option.{slice_get_within, slice_get-get_or, slice_get_cases, slice_get-map}
use Rattle.braid_ids.specs.MarkSets.{has_mark, IsMarked}
use Rattle.braid_tree.specs.Rows.{RowDeletion}
use Rattle.braid_tree.specs.Seen.{is_same_place, is_marked_deletion, is_deleted_by}
use Rattle.braid_tree.specs.Inside.{is_of_place, last_below, deletion_of, deletions_in, AreLinked}
use Rattle.braid_tree.specs.declared.at.At.{At}
use Rattle.braid_tree.specs.declared.deletion.PlainDeletion.{PlainDeletion}
use Rattle.std.proofs.lemmas.Bool.{eqb-true, eq-eqb, and_parts, cases_Bool}

-- how far a link leads: above its number
abbrev pub reach : Option ℕ → ℕ
reach None = 0
reach (Some n) = suc n

or_comm : (a b : Bool) → (a || b) ≡ (b || a)
or_comm true true = refl
or_comm true false = refl
or_comm false true = refl
or_comm false false = refl

or_false : (a : Bool) → (a || false) ≡ a
or_false true = refl
or_false false = refl

pub same_place_true : (a b : At) → is_same_place a b ≡ true → a ≡ b
same_place_true a b h =
    let both = and_parts (a.version == b.version) (a.ordinal == b.ordinal) h in
    let v : a.version ≡ b.version = eqb-true a.version b.version both.0 in
    let n : a.ordinal ≡ b.ordinal = eqb-true a.ordinal b.ordinal both.1 in (λ k. record { version = v k; ordinal = n k })

pub same_place_itself : (a : At) → is_same_place a a ≡ true
same_place_itself a = rw (eq-eqb a.version a.version refl, eq-eqb a.ordinal a.ordinal refl) refl

pub other_place_false : (a b : At) → ((a ≡ b) → ⊥) → is_same_place a b ≡ false
other_place_false a b ne = elim (cases_Bool (is_same_place a b)) [ inl t ↦ absurd (ne (same_place_true a b t)) | inr f ↦ f ]

-- one more element of a front
any_take_some : {X : Type 0} (p : X → Bool) (xs : List X) (n : ℕ) (d : X) → slice_get xs n ≡ Some d → list_any p (take (suc n) xs) ≡ (list_any p (take n xs) || p d)
any_take_some p xs n d h =
    let l : n < length xs = slice_get_within xs n d h in
    let e : Some (get_or xs n d) ≡ Some d = sym (slice_get-get_or xs n d l) ∙ h in
    let f : get_or xs n d ≡ d = cc in
    let s : suc n ≡ n + 1 = omega arith in
    ap (λ (k : ℕ). list_any p (take k xs)) s ∙ list_any_more p xs n d l ∙ ap (λ x. list_any p (take n xs) || p x) f

-- the last deletion of a place among the first m, and what is before it
pub record IsLast (marks : List Bool) (ds : List RowDeletion) (m : ℕ) (at : At) (n : ℕ) : Type 0 where
  pub below : n < m
  pub deletion : RowDeletion
  pub here : slice_get ds n ≡ Some deletion
  pub same : deletion.at ≡ at
  pub rest : list_any (is_marked_deletion marks at) (take m ds) ≡ (has_mark marks deletion.by || list_any (is_marked_deletion marks at) (take n ds))

module _ (marks : List Bool) (ds : List RowDeletion) (at : At) where
  none_here : (m : ℕ) → m ≤ length ds → slice_get ds m ≡ None → length ds ≤ m
  none_here m le e = elim ((slice_get_cases ds m).1) [ inl (x, l, h, g) ↦ absurd (let c : Some x ≡ None = sym h ∙ e in cc) | inr (l, h) ↦ l ]

  pub last_some : (m n : ℕ) → m ≤ length ds → last_below ds m at ≡ Some n → IsLast marks ds m at n
  last_some zero n le h = cc
  last_some (suc m) n le h = go (λ l g. last_some m n l g) (slice_get ds m) refl h
    where
      wider : (d : RowDeletion) → slice_get ds m ≡ Some d → is_same_place d.at at ≡ false → IsLast marks ds m at n → IsLast marks ds (suc m) at n
      wider d e f l = record {
        below = omega (arith, l.below);
        deletion = l.deletion;
        here = l.here;
        same = l.same;
        rest = any_take_some (is_marked_deletion marks at) ds m d e ∙ ap (λ b. list_any (is_marked_deletion marks at) (take m ds) || (b && has_mark marks d.by)) f ∙ or_false (list_any (is_marked_deletion marks at) (take m ds)) ∙ l.rest;
      }

      here : (d : RowDeletion) → slice_get ds m ≡ Some d → is_same_place d.at at ≡ true → m ≡ n → IsLast marks ds (suc m) at n
      here d e t s = subst (λ (k : ℕ). IsLast marks ds (suc m) at k) s (record {
        below = omega arith;
        deletion = d;
        here = e;
        same = same_place_true d.at at t;
        rest = any_take_some (is_marked_deletion marks at) ds m d e ∙ ap (λ b. list_any (is_marked_deletion marks at) (take m ds) || (b && has_mark marks d.by)) t ∙ or_comm (list_any (is_marked_deletion marks at) (take m ds)) (has_mark marks d.by);
      })

      test : (m ≤ length ds → last_below ds m at ≡ Some n → IsLast marks ds m at n) → (d : RowDeletion) → slice_get ds m ≡ Some d → (b : Bool) → is_same_place d.at at ≡ b → cond b (Some m) (last_below ds m at) ≡ Some n → IsLast marks ds (suc m) at n
      test ih d e true t g = here d e t cc
      test ih d e false t g = wider d e t (ih (omega (arith, le)) g)

      go : (m ≤ length ds → last_below ds m at ≡ Some n → IsLast marks ds m at n) → (v : Option RowDeletion) → slice_get ds m ≡ v → cond (is_of_place v at) (Some m) (last_below ds m at) ≡ Some n → IsLast marks ds (suc m) at n
      go ih None e g = absurd (let l : length ds ≤ m = none_here m (omega (arith, le)) e in omega (arith, l, le))
      go ih (Some d) e g = test ih d e (is_same_place d.at at) refl g

  pub last_none : (m : ℕ) → m ≤ length ds → last_below ds m at ≡ None → list_any (is_marked_deletion marks at) (take m ds) ≡ false
  last_none zero le h = refl
  last_none (suc m) le h = go (λ l g. last_none m l g) (slice_get ds m) refl h
    where
      test : (m ≤ length ds → last_below ds m at ≡ None → list_any (is_marked_deletion marks at) (take m ds) ≡ false) → (d : RowDeletion) → slice_get ds m ≡ Some d → (b : Bool) → is_same_place d.at at ≡ b → cond b (Some m) (last_below ds m at) ≡ None → list_any (is_marked_deletion marks at) (take (suc m) ds) ≡ false
      test ih d e true t g = cc
      test ih d e false t g =
          any_take_some (is_marked_deletion marks at) ds m d e ∙ ap (λ b. list_any (is_marked_deletion marks at) (take m ds) || (b && has_mark marks d.by)) t ∙ or_false (list_any (is_marked_deletion marks at) (take m ds))
          ∙ ih (omega (arith, le)) g

      go : (m ≤ length ds → last_below ds m at ≡ None → list_any (is_marked_deletion marks at) (take m ds) ≡ false) → (v : Option RowDeletion) → slice_get ds m ≡ v → cond (is_of_place v at) (Some m) (last_below ds m at) ≡ None → list_any (is_marked_deletion marks at) (take (suc m) ds) ≡ false
      go ih None e g = absurd (let l : length ds ≤ m = none_here m (omega (arith, le)) e in omega (arith, l, le))
      go ih (Some d) e g = test ih d e (is_same_place d.at at) refl g

pub get_append : {X : Type 0} (xs ys : List X) (n : ℕ) → n < length xs → slice_get (xs ++ ys) n ≡ slice_get xs n
get_append [] ys n l = absurd (omega arith)
get_append (x ∷ xs) ys zero l = refl
get_append (x ∷ xs) ys (suc n) l = get_append xs ys n (omega arith)

pub get_end : {X : Type 0} (xs : List X) (y : X) → slice_get (xs ++ y ∷ []) (length xs) ≡ Some y
get_end [] y = refl
get_end (x ∷ xs) y = get_end xs y

-- deletions at the end change no link that is there
pub last_append : (ds more : List RowDeletion) (m : ℕ) (at : At) → m ≤ length ds → last_below (ds ++ more) m at ≡ last_below ds m at
last_append ds more zero at le = refl
last_append ds more (suc m) at le =
    ap (λ v. cond (is_of_place v at) (Some m) (last_below (ds ++ more) m at)) (get_append ds more m (omega arith))
    ∙ ap (λ t. cond (is_of_place (slice_get ds m) at) (Some m) t) (last_append ds more m at (omega arith))

-- a deletion at the end is the last one of its place, and of no other
pub last_new : (ds : List RowDeletion) (d : RowDeletion) (at : At) (n : ℕ) → n ≡ length ds → d.at ≡ at → last_below (ds ++ d ∷ []) (suc n) at ≡ Some n
last_new ds d at n s e =
    subst (λ (k : ℕ). last_below (ds ++ d ∷ []) (suc k) at ≡ Some k) (sym s)
    (ap (λ v. cond (is_of_place v at) (Some (length ds)) (last_below (ds ++ d ∷ []) (length ds) at)) (get_end ds d)
    ∙ ap (λ b. cond b (Some (length ds)) (last_below (ds ++ d ∷ []) (length ds) at)) (subst (λ (t : At). is_same_place d.at t ≡ true) e (same_place_itself d.at)))

pub last_other : (ds : List RowDeletion) (d : RowDeletion) (at : At) (n : ℕ) → n ≡ length ds → ((d.at ≡ at) → ⊥) → last_below (ds ++ d ∷ []) (suc n) at ≡ last_below ds n at
last_other ds d at n s ne =
    subst (λ (k : ℕ). last_below (ds ++ d ∷ []) (suc k) at ≡ last_below ds k at) (sym s)
    (ap (λ v. cond (is_of_place v at) (Some (length ds)) (last_below (ds ++ d ∷ []) (length ds) at)) (get_end ds d)
    ∙ ap (λ b. cond b (Some (length ds)) (last_below (ds ++ d ∷ []) (length ds) at)) (other_place_false d.at at ne)
    ∙ last_append ds (d ∷ []) (length ds) at (omega arith))

-- a place that no deletion is of has no last one
pub last_absent : (ds : List RowDeletion) (m : ℕ) (at : At) → ((n : ℕ) (d : RowDeletion) → slice_get ds n ≡ Some d → (d.at ≡ at) → ⊥) → last_below ds m at ≡ None
last_absent ds zero at lacks = refl
last_absent ds (suc m) at lacks = go (last_absent ds m at lacks) (slice_get ds m) refl
  where
    go : last_below ds m at ≡ None → (v : Option RowDeletion) → slice_get ds m ≡ v → cond (is_of_place v at) (Some m) (last_below ds m at) ≡ None
    go ih None e = ih
    go ih (Some d) e = ap (λ b. cond b (Some m) (last_below ds m at)) (other_place_false d.at at (lacks m d e)) ∙ ih

-- A walk along the links of a place: what is left to look at decides what all of the deletions decide.
pub record Walks (marks : List Bool) (xs : List PlainDeletion) (at : At) (link : Option ℕ) : Type 0 where
  pub front : ℕ
  pub within : front ≤ length xs
  pub leads : link ≡ last_below (deletions_in xs) front at
  pub decides : is_deleted_by marks (deletions_in xs) at ≡ list_any (is_marked_deletion marks at) (take front (deletions_in xs))

size_of : (xs : List PlainDeletion) → length (deletions_in xs) ≡ length xs
size_of xs = length-map xs deletion_of

pub walk_begins : (marks : List Bool) (xs : List PlainDeletion) (at : At) (link : Option ℕ) → link ≡ last_below (deletions_in xs) (length xs) at → Walks marks xs at link
walk_begins marks xs at link h = record {
  front = length xs;
  within = omega arith;
  leads = h;
  decides = ap (list_any (is_marked_deletion marks at)) (sym (take_all (length xs) (deletions_in xs) (omega (arith, size_of xs))));
}

pub walk_ends : (marks : List Bool) (xs : List PlainDeletion) (at : At) (link : Option ℕ) → Walks marks xs at link → link ≡ None → is_deleted_by marks (deletions_in xs) at ≡ false
walk_ends marks xs at link w h = w.decides ∙ last_none marks (deletions_in xs) at w.front (omega (arith, w.within, size_of xs)) (sym w.leads ∙ h)

-- one step along a link, over the deletion x
pub record Steps (marks : List Bool) (xs : List PlainDeletion) (at : At) (n : ℕ) (x : PlainDeletion) : Type 0 where
  pub place : x.at ≡ at
  pub deleted : has_mark marks x.by ≡ true → is_deleted_by marks (deletions_in xs) at ≡ true
  pub goes_on : has_mark marks x.by ≡ false → Walks marks xs at x.earlier
  pub falls : reach x.earlier < suc n

pub link_within : (marks : List Bool) (xs : List PlainDeletion) (at : At) (link : Option ℕ) (n : ℕ) → Walks marks xs at link → link ≡ Some n → n < length xs
link_within marks xs at link n w h =
    let l = last_some marks (deletions_in xs) at w.front n (omega (arith, w.within, size_of xs)) (sym w.leads ∙ h) in omega (arith, l.below, w.within)

reach_below : (ds : List RowDeletion) (m : ℕ) (at : At) → reach (last_below ds m at) ≤ m
reach_below ds zero at = omega arith
reach_below ds (suc m) at = go (is_of_place (slice_get ds m) at) (reach_below ds m at)
  where
    go : (b : Bool) → reach (last_below ds m at) ≤ m → reach (cond b (Some m) (last_below ds m at)) ≤ suc m
    go true l = omega arith
    go false l = omega arith

pub walk_steps : (marks : List Bool) (xs : List PlainDeletion) (at : At) (link : Option ℕ) (n : ℕ) (x : PlainDeletion) → AreLinked xs → Walks marks xs at link → link ≡ Some n → slice_get xs n ≡ Some x → Steps marks xs at n x
walk_steps marks xs at link n x linked w h here = record {
  place = same_at;
  deleted = λ t. w.decides ∙ l.rest ∙ ap (λ b. b || list_any (is_marked_deletion marks at) (take n (deletions_in xs))) (by ∙ t);
  goes_on = λ f. record {
    front = n;
    within = omega (arith, l.below, w.within);
    leads = linked.earlier n x here ∙ ap (last_below (deletions_in xs) n) same_at;
    decides = w.decides ∙ l.rest ∙ ap (λ b. b || list_any (is_marked_deletion marks at) (take n (deletions_in xs))) (by ∙ f);
  };
  falls = subst (λ (o : Option ℕ). reach o < suc n) (sym (linked.earlier n x here)) (omega (arith, reach_below (deletions_in xs) n x.at));
}
  where
    l : IsLast marks (deletions_in xs) w.front at n
    l = last_some marks (deletions_in xs) at w.front n (omega (arith, w.within, size_of xs)) (sym w.leads ∙ h)

    seen : Some l.deletion ≡ Some (deletion_of x)
    seen = sym l.here ∙ slice_get-map deletion_of xs n ∙ ap (option_map deletion_of) here

    same : l.deletion ≡ deletion_of x
    same = cc seen

    same_at : x.at ≡ at
    same_at = sym (ap (λ (d : RowDeletion). d.at) same) ∙ l.same

    by : has_mark marks l.deletion.by ≡ has_mark marks x.by
    by = ap (λ (d : RowDeletion). has_mark marks d.by) same

-- the same, of what is read at the link's number
pub walk_steps_at : (marks : List Bool) (xs : List PlainDeletion) (at : At) (link : Option ℕ) (n : ℕ) (none : PlainDeletion) → AreLinked xs → Walks marks xs at link → link ≡ Some n → Steps marks xs at n (get_or xs n none)
walk_steps_at marks xs at link n none linked w h = walk_steps marks xs at link n (get_or xs n none) linked w h (slice_get-get_or xs n none (link_within marks xs at link n w h))

-- a flag that says exactly whether a mark is set
pub mark_is : (marks : List Bool) (n : ℕ) (b : Bool) → (IsTrue b ↔ IsMarked marks n) → b ≡ has_mark marks n
mark_is marks n true h = sym (h.0 refl)
mark_is marks n false h = elim (cases_Bool (has_mark marks n)) [ inl t ↦ h.1 t ∙ sym t | inr f ↦ sym f ]

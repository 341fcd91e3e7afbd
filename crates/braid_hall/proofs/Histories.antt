-- Prefixes of histories, and the entries of one number.
use Rattle.std.proofs.Common.{◌≡◌, ℕ, zero, suc, ◌<◌, ◌≤◌, ◌≢◌, Bool, true, false, cond, ltb, eqb, List, [], ◌∷◌, ◌++◌, length, drop, sym, refl, ap, ◌∙◌, subst, arith, length-append, append_assoc, append-nil, le-ltb, eq-eqb, ne_eqb}
use Rattle.std.proofs.lemmas.Bool.{ltb-true}
use borrow.Author.Tests.{ltb-false}
use mathlib.Core.Logic.{dite}
use native.Mathlib.Decide.{dec_lt}
use Rattle.std.specs.Prelude.{filter, All}
use Rattle.std.proofs.lemmas.List.{drop-append-le}
use Rattle.std.proofs.lemmas.List.Elements.{filter-append}
use Rattle.braid_hall.specs.Histories.{IsPrefix, longer_of, shorter_of, added_by, AllBy}

whole : {E : Type 0} (xs zs : List E) → length (xs ++ zs) ≤ length xs → xs ≡ xs ++ zs
whole xs [] h = sym (append-nil xs)
whole xs (z ∷ zs) h = let l = length-append xs (z ∷ zs) in absurd (omega arith)

pub begins_whole : {E : Type 0} (xs ys : List E) → IsPrefix xs ys → length ys ≤ length xs → xs ≡ ys
begins_whole xs ys b h = whole xs b.0 (subst (λ l. length l ≤ length xs) b.1 h) ∙ sym b.1

pub begins_length : {E : Type 0} (xs ys : List E) → IsPrefix xs ys → length xs ≤ length ys
begins_length xs ys b = let l = length-append xs b.0 in let e = ap length b.1 in omega arith

pub longer_begins : {E : Type 0} (xs ys zs : List E) (b : Bool) → IsPrefix xs zs → IsPrefix ys zs → IsPrefix (cond b ys xs) zs
longer_begins xs ys zs true p q = q
longer_begins xs ys zs false p q = p

pub longest_left : {E : Type 0} (xs ys : List E) → IsPrefix ys xs → longer_of xs ys ≡ xs
longest_left xs ys p = ap (λ b. cond b ys xs) (le-ltb (length xs) (length ys) (begins_length ys xs p))

pub longest_right : {E : Type 0} (xs ys : List E) (b : Bool) → ltb (length xs) (length ys) ≡ b → IsPrefix xs ys → cond b ys xs ≡ ys
longest_right xs ys true e p = refl
longest_right xs ys false e p = begins_whole xs ys p (ltb-false (length xs) (length ys) e)

first_or : {E : Type 0} → E → List E → E
first_or d [] = d
first_or d (x ∷ xs) = x

rest_of : {E : Type 0} → List E → List E
rest_of [] = []
rest_of (x ∷ xs) = xs

-- of two prefixes of one history, the shorter is a prefix of the longer
prefixes : {E : Type 0} (xs ys zs : List E) → IsPrefix xs zs → IsPrefix ys zs → length xs ≤ length ys → IsPrefix xs ys
unfolding first_or rest_of
prefixes [] ys zs p q h = (ys, refl)
prefixes (x ∷ xs) [] zs p q h = absurd (omega arith)
prefixes (x ∷ xs) (y ∷ ys) [] p q h = let e = p.1 in absurd (cc)
prefixes (x ∷ xs) (y ∷ ys) (z ∷ zs) p q h =
    let r = prefixes xs ys zs (p.0, ap rest_of p.1) (q.0, ap rest_of q.1) (omega arith) in
    (r.0, ap (λ w. w ∷ ys) (sym (ap (first_or z) q.1) ∙ ap (first_or z) p.1) ∙ ap (λ l. x ∷ l) r.1)

pub prefix_itself : {E : Type 0} (xs : List E) → IsPrefix xs xs
prefix_itself xs = ([], sym (append-nil xs))

pub prefix_of_prefix : {E : Type 0} (xs ys zs : List E) → IsPrefix xs ys → IsPrefix ys zs → IsPrefix xs zs
prefix_of_prefix xs ys zs p q = (p.0 ++ q.0, q.1 ∙ (ap (λ l. l ++ q.0) p.1 ∙ append_assoc xs p.0 q.0))

both_prefixes : {E : Type 0} (xs ys zs : List E) (b : Bool) → ltb (length xs) (length ys) ≡ b → IsPrefix (cond b ys xs) zs → IsPrefix (cond b xs ys) zs → IsPrefix xs (cond b ys xs) × IsPrefix ys (cond b ys xs)
both_prefixes xs ys zs true e p q = (prefixes xs ys zs q p (let lt = ltb-true (length xs) (length ys) e in omega arith), prefix_itself ys)
both_prefixes xs ys zs false e p q = (prefix_itself xs, prefixes ys xs zs q p (ltb-false (length xs) (length ys) e))

-- where both the longer and the shorter are prefixes of one history, the longer begins with both
pub longer_begins_with_both : {E : Type 0} (xs ys zs : List E) → IsPrefix (longer_of xs ys) zs → IsPrefix (shorter_of xs ys) zs → IsPrefix xs (longer_of xs ys) × IsPrefix ys (longer_of xs ys)
longer_begins_with_both xs ys zs p q = both_prefixes xs ys zs (ltb (length xs) (length ys)) refl p q

pub longer : {E : Type 0} (xs ys more : List E) → IsPrefix xs ys → IsPrefix xs (ys ++ more)
longer xs ys more b = (b.0 ++ more, ap (λ l. l ++ more) b.1 ∙ append_assoc xs b.0 more)

pub all_cons : {E : Type 0} (P : E → Type 0) (x : E) (xs : List E) → P x → All P xs → All P (x ∷ xs)
all_cons P x xs p ps zero d inside = p
all_cons P x xs p ps (suc k) d inside = ps k d (omega arith)

none_behind : {E : Type 0} (b : Bool) (x : E) (l : List E) → cond b (x ∷ l) l ≡ [] → l ≡ []
none_behind true x l e = absurd (cc)
none_behind false x l e = e

module _ {E : Type 0} (by : E → ℕ) where
  pub all_of : (n : ℕ) (l : List E) → AllBy by n l → filter (λ e. eqb (by e) n) l ≡ l
  all_of n [] a = refl
  all_of n (e ∷ es) a = ap (λ (b : Bool). cond b (e ∷ filter (λ (x : E). eqb (by x) n) es) (filter (λ (x : E). eqb (by x) n) es)) (eq-eqb (by e) n a.0) ∙ ap (λ (z : List E). e ∷ z) (all_of n es a.1)

  pub none_of : (n m : ℕ) (l : List E) → AllBy by n l → m ≢ n → filter (λ e. eqb (by e) m) l ≡ []
  none_of n m [] a ne = refl
  none_of n m (e ∷ es) a ne = ap (λ (b : Bool). cond b (e ∷ filter (λ (x : E). eqb (by x) m) es) (filter (λ (x : E). eqb (by x) m) es)) (ne_eqb (by e) m (λ h. ne (sym h ∙ a.0))) ∙ none_of n m es a.1 ne

  one_there : (n : ℕ) (x : E) (xs : List E) → filter (λ e. eqb (by e) n) (x ∷ xs) ≡ [] → by x ≡ n → ⊥
  one_there n x xs e same = let f : x ∷ filter (λ e. eqb (by e) n) xs ≡ [] = sym (ap (λ (b : Bool). cond b (x ∷ filter (λ e. eqb (by e) n) xs) (filter (λ e. eqb (by e) n) xs)) (eq-eqb (by x) n same)) ∙ e in cc

  -- where no entry has a number above m, each has at most m
  pub only_made : (m : ℕ) (l : List E) → ((n : ℕ) → m < n → filter (λ e. eqb (by e) n) l ≡ []) → All (λ e. by e ≤ m) l
  only_made m [] none = λ k d inside. absurd (omega arith)
  only_made m (x ∷ xs) none = all_cons (λ e. by e ≤ m) x xs
      (dite (dec_lt m (by x)) (λ above. absurd (one_there (by x) x xs (none (by x) above) refl)) (λ not_above. omega arith))
      (only_made m xs (λ n above. none_behind (eqb (by x) n) x (filter (λ e. eqb (by e) n) xs) (none n above)))

  module _ (base history more : List E) (begins : IsPrefix base history) where
    begun : length base ≤ length history
    begun = let e = ap length begins.1 in let l = length-append base begins.0 in omega arith

    added_more : (n : ℕ) → added_by by base n (history ++ more) ≡ added_by by base n history ++ filter (λ e. eqb (by e) n) more
    added_more n = ap (filter (λ e. eqb (by e) n)) (drop-append-le (length base) history more begun) ∙ filter-append (λ (e : E). eqb (by e) n) (drop (length base) history) more

    pub added_own : (n : ℕ) → AllBy by n more → added_by by base n (history ++ more) ≡ added_by by base n history ++ more
    added_own n all = added_more n ∙ ap (λ (z : List E). added_by by base n history ++ z) (all_of n more all)

    pub added_other : (n m : ℕ) → AllBy by n more → m ≢ n → added_by by base m (history ++ more) ≡ added_by by base m history
    added_other n m all ne = added_more m ∙ ap (λ (z : List E). added_by by base m history ++ z) (none_of n m more all ne) ∙ append-nil (added_by by base m history)

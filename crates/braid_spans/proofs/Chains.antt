-- The chains that links make, one link after the other.
use Rattle.std.proofs.Common.{◌≡◌, ℕ, zero, suc, ◌+◌, ◌<◌, ◌≤◌, List, [], ◌∷◌, ◌++◌, Option, Some, None, length, slice_get, get_or, refl, sym, ap, subst, ◌∙◌, arith, Bool, true, false, ◌||◌}
use Rattle.std.specs.List.{list_any}
use Rattle.std.specs.Option.{option_eq}
use Rattle.std.proofs.Common.{eqb}
use Rattle.std.proofs.lemmas.Bool.{eqb-true, cases_order}
use Rattle.std.proofs.Common.{inl, inr}
use Rattle.braid_tree.proofs.Links.{get_append, get_end}
use Rattle.std.proofs.lemmas.List.{length-append, get_or_append_left, get_or_at}
use Rattle.std.proofs.lemmas.Option.{slice_get_within, slice_get-get_or}
use Rattle.braid_ids.specs.MarkSets.{has_mark}
use Rattle.braid_spans.specs.declared.link.Link.{Link}
use Rattle.braid_spans.specs.Kept.{chain_at, chains_after, chains_of, reach, AreLinked}

-- a chain that is there stays
pub chain_more : (done more : List (List ℕ)) (o : Option ℕ) → reach o ≤ length done → chain_at (done ++ more) o ≡ chain_at done o
chain_more done more None l = refl
chain_more done more (Some n) l = get_or_append_left done more [] n (omega (arith, l))

chain_keeps : (done : List (List ℕ)) (xs : List Link) (o : Option ℕ) → reach o ≤ length done → chain_at (chains_after done xs) o ≡ chain_at done o
chain_keeps done [] o l = refl
chain_keeps done (x ∷ xs) o l =
    chain_keeps (done ++ (x.by ∷ chain_at done x.earlier) ∷ []) xs o (omega (arith, l, length-append done ((x.by ∷ chain_at done x.earlier) ∷ [])))
    ∙ chain_more done ((x.by ∷ chain_at done x.earlier) ∷ []) o l

chains_length : (done : List (List ℕ)) (xs : List Link) → length (chains_after done xs) ≡ length done + length xs
chains_length done [] = omega arith
chains_length done (x ∷ xs) =
    let ih = chains_length (done ++ (x.by ∷ chain_at done x.earlier) ∷ []) xs in
    omega (arith, ih, length-append done ((x.by ∷ chain_at done x.earlier) ∷ []))

pub chains_count : (xs : List Link) → length (chains_of xs) ≡ length xs
chains_count xs = let e = chains_length [] xs in omega (arith, e)

chains_append : (done : List (List ℕ)) (xs ys : List Link) → chains_after done (xs ++ ys) ≡ chains_after (chains_after done xs) ys
chains_append done [] ys = refl
chains_append done (x ∷ xs) ys = chains_append (done ++ (x.by ∷ chain_at done x.earlier) ∷ []) xs ys

-- one more link begins one more chain
pub chains_push : (xs : List Link) (x : Link) → chains_of (xs ++ x ∷ []) ≡ chains_of xs ++ (x.by ∷ chain_at (chains_of xs) x.earlier) ∷ []
chains_push xs x = chains_append [] xs (x ∷ [])

step_after : (done : List (List ℕ)) (xs : List Link) (n : ℕ) (x : Link) → slice_get xs n ≡ Some x → reach x.earlier ≤ length done + n
    → get_or (chains_after done xs) (length done + n) [] ≡ x.by ∷ chain_at (chains_after done xs) x.earlier
step_after done [] zero x e l = cc
step_after done [] (suc n) x e l = cc
step_after done (y ∷ xs) zero x e l = ap at (λ i. s i) ∙ here
  where
    done' : List (List ℕ)
    done' = done ++ (y.by ∷ chain_at done y.earlier) ∷ []

    at : ℕ → List ℕ
    at n = get_or (chains_after done' xs) n []

    s : length done + zero ≡ length done
    s = omega arith

    is : y ≡ x
    is = cc e

    long : length done' ≡ length done + 1
    long = length-append done ((y.by ∷ chain_at done y.earlier) ∷ [])

    here : get_or (chains_after done' xs) (length done) [] ≡ x.by ∷ chain_at (chains_after done' xs) x.earlier
    here = chain_keeps done' xs (Some (length done)) (omega (arith, long))
        ∙ get_or_at done (y.by ∷ chain_at done y.earlier) [] [] (length done) refl
        ∙ ap (λ t. y.by ∷ t) (sym (chain_keeps done' xs y.earlier (omega (arith, long, less)) ∙ chain_more done ((y.by ∷ chain_at done y.earlier) ∷ []) y.earlier less))
        ∙ ap (λ (z : Link). z.by ∷ chain_at (chains_after done' xs) z.earlier) is
      where
        less : reach y.earlier ≤ length done
        less = subst (λ (z : Link). reach z.earlier ≤ length done) (sym is) (omega (arith, l))
step_after done (y ∷ xs) (suc n) x e l =
    ap (λ m. get_or (chains_after (done ++ (y.by ∷ chain_at done y.earlier) ∷ []) xs) m []) (sym long)
    ∙ step_after (done ++ (y.by ∷ chain_at done y.earlier) ∷ []) xs n x e (omega (arith, l, long))
  where
    long : length (done ++ (y.by ∷ chain_at done y.earlier) ∷ []) + n ≡ length done + suc n
    long = omega (arith, length-append done ((y.by ∷ chain_at done y.earlier) ∷ []))

-- a link's chain is its version and then the chain of the link that it leads to
pub chain_step : (xs : List Link) (n : ℕ) (x : Link) → AreLinked xs → slice_get xs n ≡ Some x → chain_at (chains_of xs) (Some n) ≡ x.by ∷ chain_at (chains_of xs) x.earlier
chain_step xs n x linked e = let l = linked n x e in ap (λ m. get_or (chains_of xs) m []) zero_sum ∙ step_after [] xs n x e (omega (arith, l))
  where
    zero_sum : n ≡ 0 + n
    zero_sum = omega arith

-- the same of what is read of a list
pub record Steps (marks : List Bool) (xs : List Link) (o : Option ℕ) (x : Link) : Type 0 where
  pub inside : reach x.earlier < reach o
  pub any : list_any (has_mark marks) (chain_at (chains_of xs) o) ≡ list_any (has_mark marks) (x.by ∷ chain_at (chains_of xs) x.earlier)

pub chain_steps : (marks : List Bool) (xs : List Link) (o : Option ℕ) (n : ℕ) (none : Link) → AreLinked xs → o ≡ Some n → n < length xs → Steps marks xs o (get_or xs n none)
chain_steps marks xs o n none linked e l = record {
  inside = subst (λ (p : Option ℕ). reach (get_or xs n none).earlier < reach p) (sym e) (omega (arith, less));
  any = ap (λ (p : Option ℕ). list_any (has_mark marks) (chain_at (chains_of xs) p)) e ∙ ap (list_any (has_mark marks)) (chain_step xs n (get_or xs n none) linked got);
}
  where
    got : slice_get xs n ≡ Some (get_or xs n none)
    got = slice_get-get_or xs n none l

    less : reach (get_or xs n none).earlier ≤ n
    less = linked n (get_or xs n none) got

pub link_there : (o : Option ℕ) (n m : ℕ) → o ≡ Some n → reach o ≤ m → n < m
link_there o n m e l = let r : reach o ≡ n + 1 = ap reach e in omega (arith, r, l)

-- the first version of a chain is marked, or the rest tells
pub any_first : (marks : List Bool) (n : ℕ) (ns : List ℕ) (now all : Bool) → now ≡ list_any (has_mark marks) (n ∷ ns) → has_mark marks n ≡ true → now ≡ all → true ≡ all
any_first marks n ns now all e h left = sym (e ∙ ap (λ b. b || list_any (has_mark marks) ns) h) ∙ left

pub any_rest : (marks : List Bool) (n : ℕ) (ns : List ℕ) (now all : Bool) → now ≡ list_any (has_mark marks) (n ∷ ns) → has_mark marks n ≡ false → now ≡ all → list_any (has_mark marks) ns ≡ all
any_rest marks n ns now all e h left = sym (e ∙ ap (λ b. b || list_any (has_mark marks) ns) h) ∙ left

-- a test of two numbers of links that holds
pub same_number : (a b : Option ℕ) → option_eq eqb a b ≡ true → a ≡ b
same_number None None h = refl
same_number None (Some n) h = cc
same_number (Some m) None h = cc
same_number (Some m) (Some n) h = ap Some (eqb-true m n h)

-- one more link that leads to one of those before
pub linked_push : (xs : List Link) (x : Link) → AreLinked xs → reach x.earlier ≤ length xs → AreLinked (xs ++ x ∷ [])
linked_push xs x linked l n y e = elim (cases_order n (length xs)) [
  | inl same ↦ subst (λ (z : Link). reach z.earlier ≤ n) (last same) (omega (arith, l, same))
  | inr (inl less) ↦ linked n y (sym (get_append xs (x ∷ []) n less) ∙ e)
  | inr (inr more) ↦ absurd (let w = slice_get_within (xs ++ x ∷ []) n y e in omega (arith, w, more, length-append xs (x ∷ [])))
]
  where
    last : n ≡ length xs → x ≡ y
    last same = let f : Some x ≡ Some y = sym (get_end xs x) ∙ ap (slice_get (xs ++ x ∷ [])) (sym same) ∙ e in cc f

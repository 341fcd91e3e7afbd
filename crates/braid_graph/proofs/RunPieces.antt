-- An ancestry has at most as many ranges as the graph has runs.
use Rattle.std.proofs.Common.{◌≡◌, ℕ, ◌+◌, ◌<◌, ◌≤◌, List, [], ◌∷◌, Bool, true, false, not, ◌&&◌, cond, length, slice_get, Option, Some, None, zero, suc, arith, refl, sym, ap, subst, ◌∙◌}
use Rattle.std.specs.List.{Contains}
use Rattle.std.specs.Prelude.{Result, Ok, Err, IfOk}
use Rattle.std.proofs.lemmas.Option.{slice_get_within}
use Rattle.braid_ids.specs.MarkSets.{IsMarked, pieces_after, pieces_of}
use Rattle.braid_ids.proofs.Members.{member_contains, member_at}
use Rattle.braid_graph.specs.Entries.{GraphEntry, ids_of}
use Rattle.braid_graph.specs.Ancestries.{IsAncestor, parent, MarksAncestry}
use Rattle.braid_graph.specs.Runs.{goes_on, starts_from, runs_of}
use Rattle.braid_graph.proofs.Newest.{entry_at}
use Rattle.braid_graph.proofs.Runs.{goes_true, starts_on, starts_new, id_before, id_before_is}

-- the flag before the one with this place
abbrev pub flag_before : Bool → List Bool → ℕ → Bool
flag_before before flags zero = before
flag_before before [] (suc n) = before
flag_before before (f ∷ fs) (suc n) = flag_before f fs n

-- a marked entry that goes on stands behind a marked one
abbrev pub GoOn : Option (List ℕ) → List GraphEntry → Bool → List Bool → Type 0
GoOn before es flag flags = (n : ℕ) (e : GraphEntry) → slice_get es n ≡ Some e → IsMarked flags n → goes_on (id_before before es n) e.parents ≡ true → flag_before flag flags n ≡ true

fewer : (n : ℕ) (before : Option (List ℕ)) (es : List GraphEntry) (flag : Bool) (flags : List Bool) → length flags ≡ length es → GoOn before es flag flags → pieces_after flag flags ≤ length (starts_from n before es)
fewer n before [] flag [] l go = omega arith
fewer n before [] flag (f ∷ fs) l go = absurd (omega arith)
fewer n before (e ∷ es) flag [] l go = absurd (omega arith)
fewer n before (e ∷ es) flag (f ∷ fs) l go = by (goes_on before e.parents) refl f flag refl refl (fewer (n + 1) (Some e.id) es f fs (omega arith) (λ m d at is on. go (suc m) d at is on))
  where
    zero-add : (n : ℕ) → 0 + n ≡ n
    zero-add n = omega arith

    by : (g : Bool) → goes_on before e.parents ≡ g → (a b : Bool) → f ≡ a → flag ≡ b → pieces_after f fs ≤ length (starts_from (n + 1) (Some e.id) es) → pieces_after flag (f ∷ fs) ≤ length (starts_from n before (e ∷ es))
    by false g a b p q more = let s = ap length (starts_new n before e es g) in let one = at_most (f && not flag) in omega arith
      where
        at_most : (b : Bool) → cond b 1 0 ≤ 1
        at_most true = omega arith
        at_most false = omega arith
    by true g true true p q more = let s = ap length (starts_on n before e es g) in let none : pieces_after flag (f ∷ fs) ≡ pieces_after f fs = (λ i. pieces_after (q i) (p i ∷ fs)) ∙ (zero-add (pieces_after true fs) ∙ (λ i. pieces_after (sym p i) fs)) in omega arith
    by true g false b p q more = let s = ap length (starts_on n before e es g) in let none : pieces_after flag (f ∷ fs) ≡ pieces_after f fs = (λ i. pieces_after flag (p i ∷ fs)) ∙ (zero-add (pieces_after false fs) ∙ (λ i. pieces_after (sym p i) fs)) in omega arith
    by true g true false p q more = let marked : flag ≡ true = go 0 e refl p g in absurd (cc)

is_flag_before : (before : Bool) (flags : List Bool) (n : ℕ) → IsMarked flags n → n < length flags → flag_before before flags (suc n) ≡ true
is_flag_before before [] n h l = absurd (omega arith)
is_flag_before before (f ∷ fs) zero h l = h
is_flag_before before (f ∷ fs) (suc n) h l = is_flag_before f fs n h (omega arith)

pub pieces_few : (es : List GraphEntry) (F : List (List ℕ)) (marks : List Bool) → MarksAncestry es F marks → pieces_of marks ≤ runs_of es
pieces_few es F marks has = fewer 0 None es false marks has.size go
  where
    go : GoOn None es false marks
    go zero e at is on = absurd (cc)
    go (suc n) e at is on =
        let l = slice_get_within es (suc n) e at in
        let r = goes_true (id_before None es (suc n)) e.parents on in
        let before : slice_get (ids_of es) n ≡ Some r.0 = sym (id_before_is None es n (omega arith)) ∙ r.1 in
        let d = entry_at es n r.0 before in
        let up : IsAncestor es F r.0 = parent e r.0 (member_contains es e (member_at es (suc n) e at)) ((has.exact (suc n) e at).0 is) (subst (λ (t : List (List ℕ)). Contains t r.0) (sym r.2) (0, omega arith, refl)) in
        is_flag_before false marks n ((has.exact n d.0 d.1).1 (subst (IsAncestor es F) (sym d.2) up)) (omega (arith, has.size))

pub pieces_ok : {E : Type 0} (es : List GraphEntry) (F : List (List ℕ)) (r : Result (List Bool) E) → IfOk r (λ (marks : List Bool). MarksAncestry es F marks) → IfOk r (λ (marks : List Bool). pieces_of marks ≤ runs_of es)
pieces_ok es F (Ok marks) has = pieces_few es F marks has
pieces_ok es F (Err e) has = tt

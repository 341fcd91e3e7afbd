use Rattle.std.proofs.Common.{◌≡◌, ℕ, ◌<◌, List, [], ◌∷◌, ◌++◌, length, sym, ap, ◌∙◌, arith, eqb, false}
use Rattle.std.proofs.lemmas.List.{append_cancel_left}
use Rattle.braid_ids.specs.Lists.{Lacks}
use Rattle.braid_ids.proofs.Splits.{one_split}
use Rattle.braid_state.proofs.line.pass_line.Goals as goal

not_empty : (value : List ℕ) → eqb (length value) 0 ≡ false → 0 < length value
not_empty [] e = cc
not_empty (x ∷ xs) e = omega arith

-- what stands behind the name is not the end of the line
not_at_once : (name bytes value rest more : List ℕ) → Lacks 10 value → bytes ≡ name ++ (value ++ 10 ∷ rest) → 0 < length value → bytes ≡ name ++ 10 ∷ more → ⊥
not_at_once name bytes value rest more k e l f =
    let same = one_split 10 value rest [] more k tt (append_cancel_left name (value ++ 10 ∷ rest) (10 ∷ more) (sym e ∙ f)) in
    omega (arith, ap length same.0, l)

pub returns-in_default : goal.returns-in_default
returns-in_default c = record { found = λ rest. c.in_default.ensures.found [] rest tt }

pub returns-else-is_empty : goal.returns-else-is_empty
returns-else-is_empty c =
    let some = not_empty c.in-Some.value.now (sym (c.if-is_empty.ensures {u = tt})) in
    record { found = λ rest. not_at_once _ c.args.bytes.now c.in-Some.value.now c.in-Some.rest.now rest c.in-Some.ensures.found.0 c.in-Some.ensures.found.1 some }

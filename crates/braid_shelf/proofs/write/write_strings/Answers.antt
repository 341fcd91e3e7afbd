use Rattle.std.proofs.Common.{◌≡◌, [], ◌∷◌, ◌++◌, ◌<◌, ◌≤◌, ◌⊎◌, inl, inr, length, map, take, Some, sym, ap, ◌∙◌, subst, arith}
use Rattle.std.specs.Prelude.{slice_get}
use Rattle.std.specs.List.{AllByRecursion}
use Rattle.std.proofs.lemmas.List.{take_all}
use Rattle.braid_ids.specs.Identifiers.{IsIdentifier, spelled_ids}
use Rattle.braid_shelf.specs.Lists.{SpellsList, string_member}
use Rattle.braid_shelf.proofs.Written.{written_more, more_valid, none_left}
use Rattle.braid_shelf.proofs.Listed.{ids_listed}
use Rattle.braid_shelf.proofs.write.write_strings.Goals as goal
use Rattle.braid_shelf.proofs.write.write_strings.Goals.{then-n-gt0+in_ok-push, else-n-gt0, else-loop-n-test, then-loop-n-test+in_default}

pub loop-n-preserved : goal.loop-n-preserved
loop-n-preserved c =
    let ids = c.args.list.now in
    let n = c.loop-n.n in
    let id = c.in-Some.id.now in
    let text = c.loop-n.value in
    let at : slice_get ids n ≡ Some id = sym c.in-Some.ensures.value in
    let before : ((0 < n) × (c.if-n-gt0.value ≡ text ++ 44 ∷ 32 ∷ [])) ⊎ ((n ≡ 0) × (c.if-n-gt0.value ≡ text)) = elim c.if-n-gt0.branch [
      | then-n-gt0+in_ok-push w ↦ inl (w.if-n-gt0.true, w.value-is ∙ w.in_ok-push.ensures.ok)
      | else-n-gt0 w ↦ inr (omega arith, w.value-is)
    ] in
    let new = c.in_ok-push-2.ensures.ok ∙ ap (λ x. c.if-n-gt0.value ++ x) (c.get-in-loop-n.ensures.value ∙ c.in_ok-spell.ensures.ok) in
    record {
      written = written_more ids n id text c.if-n-gt0.value c.push-in-loop-n.new.self at c.loop-n.invariant.written before new;
      valid = more_valid ids n id at c.loop-n.invariant.valid c.in_ok-spell.ensures.valid;
    }

pub returns-clause-ok : goal.returns-clause-ok
returns-clause-ok c =
    let ids = c.args.list.now in
    let past : length ids ≤ c.loop-n.n = elim c.loop-n-test.branch [
      | else-loop-n-test w ↦ omega arith
      | then-loop-n-test+in_default w ↦ none_left ids c.loop-n.n (sym w.in_default.ensures.value)
    ] in
    c.loop-n.invariant.written ∙ ap spelled_ids (take_all c.loop-n.n ids past)

pub returns-clause-list : goal.returns-clause-list
returns-clause-list c =
    let ids = c.args.list.now in
    let past : length ids ≤ c.loop-n.n = elim c.loop-n-test.branch [
      | else-loop-n-test w ↦ omega arith
      | then-loop-n-test+in_default w ↦ none_left ids c.loop-n.n (sym w.in_default.ensures.value)
    ] in
    let whole : take c.loop-n.n ids ≡ ids = take_all c.loop-n.n ids past in
    subst (SpellsList (map string_member ids)) (sym (c.loop-n.invariant.written ∙ ap spelled_ids whole)) (ids_listed ids (subst (AllByRecursion IsIdentifier) whole c.loop-n.invariant.valid))

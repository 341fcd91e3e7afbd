use Rattle.std.proofs.Common.{◌≡◌, ◌+◌, ◌-◌, ◌<◌, ◌∙◌, length, slice_get, Some, sym, ap, subst, arith, length-set}
use Rattle.std.proofs.Math.ListN.{set}
use Rattle.std.specs.List.{insert}
use Rattle.std.proofs.lemmas.Option.{slice_get_within}
use Rattle.braid_spans.specs.declared.run.Run.{Run}
use Rattle.braid_spans.specs.Kept.{IsSmall, SpellsAlike, front_of, rest_of, size_in}
use Rattle.braid_spans.proofs.Lists.{some_and, from_some_and, get_first_of_two, get_second_of_two}
use Rattle.braid_spans.proofs.Cutting.{cut_alike, size_set}
use Rattle.braid_spans.proofs.editing.cut.Goals as goal

pub set-requires-clause-few : goal.set-requires-clause-few
set-requires-clause-few c =
    let inner = from_some_and (λ (r : Run). (c.args.k < r.len) × IsSmall r) _ _ c.get-run.ensures.value c.requires.inner in
    let s = size_set c.args.runs.now.list c.args.index c.get-run.result c.front.result c.get-run.ensures.value in
    let f : c.front.result.len ≡ c.args.k = ap (λ (r : Run). r.len) c.front.ensures.value in
    omega (arith, s, f, inner.0, c.get-run.ensures.size)

pub overflow_add-index : goal.overflow_add-index
overflow_add-index c = let l = slice_get_within c.args.runs.now.list c.args.index c.get-run.result c.get-run.ensures.value in omega (arith, c.get-run.ensures.few, l)

pub insert-requires-clause-within : goal.insert-requires-clause-within
insert-requires-clause-within c =
    let l : length c.set.new.self.list ≡ length c.args.runs.now.list = ap length c.set.ensures.list ∙ length-set c.args.runs.now.list c.args.index c.front.result in
    let w = slice_get_within c.args.runs.now.list c.args.index c.get-run.result c.get-run.ensures.value in omega (arith, l, w)

pub insert-requires-clause-few : goal.insert-requires-clause-few
insert-requires-clause-few c =
    let inner = from_some_and (λ (r : Run). (c.args.k < r.len) × IsSmall r) _ _ c.get-run.ensures.value c.requires.inner in
    let s = size_set c.args.runs.now.list c.args.index c.get-run.result c.front.result c.get-run.ensures.value in
    let f : c.front.result.len ≡ c.args.k = ap (λ (r : Run). r.len) c.front.ensures.value in
    let g : c.rest.result.len ≡ c.get-run.result.len - c.args.k = ap (λ (r : Run). r.len) c.rest.ensures.value in
    let n : size_in c.set.new.self.list ≡ size_in (set c.args.runs.now.list c.args.index c.front.result) = ap size_in c.set.ensures.list in
    omega (arith, s, f, g, n, inner.0, c.get-run.ensures.size)

-- the runs that are left
made : (c : goal.After-insert) → c.insert.new.self.list ≡ insert (set c.args.runs.now.list c.args.index (front_of c.get-run.result c.args.k)) (c.args.index + 1) (rest_of c.get-run.result c.args.k)
made c =
    c.insert.ensures.list
    ∙ ap (λ t. insert t (c.args.index + 1) c.rest.result) (c.set.ensures.list ∙ ap (set c.args.runs.now.list c.args.index) c.front.ensures.value)
    ∙ ap (insert (set c.args.runs.now.list c.args.index (front_of c.get-run.result c.args.k)) (c.args.index + 1)) c.rest.ensures.value

pub returns-clause-alike : goal.returns-clause-alike
returns-clause-alike c =
    let inner = from_some_and (λ (r : Run). (c.args.k < r.len) × IsSmall r) _ _ c.get-run.ensures.value c.requires.inner in
    subst (SpellsAlike c.args.runs.now.list) (sym (made c)) (cut_alike c.args.runs.now.list c.args.index c.args.k c.get-run.result c.get-run.ensures.value c.requires.some inner.0)

pub returns-clause-front : goal.returns-clause-front
returns-clause-front c = some_and (λ (r : Run). slice_get c.insert.new.self.list c.args.index ≡ Some (front_of r c.args.k)) _ _ c.get-run.ensures.value
    (ap (λ t. slice_get t c.args.index) (made c) ∙ get_first_of_two c.args.runs.now.list c.args.index c.get-run.result (front_of c.get-run.result c.args.k) (rest_of c.get-run.result c.args.k) c.get-run.ensures.value)

pub returns-clause-rest : goal.returns-clause-rest
returns-clause-rest c = some_and (λ (r : Run). slice_get c.insert.new.self.list (c.args.index + 1) ≡ Some (rest_of r c.args.k)) _ _ c.get-run.ensures.value
    (ap (λ t. slice_get t (c.args.index + 1)) (made c) ∙ get_second_of_two c.args.runs.now.list c.args.index c.get-run.result (front_of c.get-run.result c.args.k) (rest_of c.get-run.result c.args.k) c.get-run.ensures.value)

use Rattle.std.proofs.Common.{◌≡◌, ◌+◌, ◌-◌, ◌∙◌, ℕ, List, slice_get, Some, sym, ap, subst, arith, IsSomeAnd}
use Rattle.std.proofs.Math.ListN.{set}
use Rattle.std.specs.List.{remove}
use Rattle.std.proofs.lemmas.Option.{slice_get_within}
use Rattle.braid_spans.specs.declared.run.Run.{Run}
use Rattle.braid_spans.specs.Kept.{RunsView, IsSmall, IsNext, PassesFirst, rest_of, size_in}
use Rattle.braid_spans.proofs.Lists.{from_some_and, all_got}
use Rattle.braid_spans.proofs.Cutting.{size_set, size_remove}
use Rattle.braid_spans.proofs.Passing.{passes_one, passes_last, kept_by_remove, kept_by_set}
use Rattle.braid_spans.proofs.editing.pass_first.Goals as goal
use Rattle.braid_spans.proofs.editing.pass_first.Goals.{then-run-eq1, else-run-eq1}

next_from : (rs : List Run) (i j : ℕ) (l r : Run) → slice_get rs i ≡ Some l → slice_get rs j ≡ Some r → IsSomeAnd (slice_get rs i) (λ (x : Run). IsSomeAnd (slice_get rs j) (IsNext x)) → IsNext l r
next_from rs i j l r e f h = from_some_and (IsNext l) (slice_get rs j) r f (from_some_and (λ (x : Run). IsSomeAnd (slice_get rs j) (IsNext x)) (slice_get rs i) l e h)

pub set-requires-clause-few : goal.set-requires-clause-few
set-requires-clause-few c =
    let s = size_set c.args.runs.now.list c.args.index c.get-run.result c.rest.result c.get-run.ensures.value in
    let f : c.rest.result.len ≡ c.get-run.result.len - 1 = ap (λ (r : Run). r.len) c.rest.ensures.value in
    omega (arith, s, f, c.get-run.ensures.size)

pub overflow_add-left : goal.overflow_add-left
overflow_add-left c =
    let next = next_from c.args.runs.now.list (c.args.index - 1) c.args.index c.get-left.result c.get-run.result c.get-left.ensures.value c.get-run.ensures.value c.requires.next in
    let small = all_got IsSmall c.args.runs.now.list c.args.index c.get-run.result c.requires.small c.get-run.ensures.value in
    omega (arith, next.ordinal, small.ordinals, small.some)

-- the run on the left is still there
left_there : (c : goal.After-front) → slice_get c.if-run-eq1.runs.list (c.args.index - 1) ≡ Some c.get-left.result
left_there c = elim c.if-run-eq1.branch [
  | then-run-eq1 w ↦ ap (λ (v : RunsView). slice_get v.list (c.args.index - 1)) w.runs-is
      ∙ ap (λ t. slice_get t (c.args.index - 1)) w.remove.ensures.list
      ∙ kept_by_remove c.args.runs.now.list c.args.index c.get-left.result c.requires.behind c.get-left.ensures.value
  | else-run-eq1 w ↦ ap (λ (v : RunsView). slice_get v.list (c.args.index - 1)) w.runs-is
      ∙ ap (λ t. slice_get t (c.args.index - 1)) w.set.ensures.list
      ∙ kept_by_set c.args.runs.now.list c.args.index c.get-left.result w.rest.result c.requires.behind c.get-left.ensures.value
]

-- and one element fewer is there
one_fewer : (c : goal.After-front) → size_in c.if-run-eq1.runs.list + 1 ≡ size_in c.args.runs.now.list
one_fewer c = elim c.if-run-eq1.branch [
  | then-run-eq1 w ↦
      let a : size_in c.if-run-eq1.runs.list ≡ size_in (remove c.args.runs.now.list c.args.index) = ap (λ (v : RunsView). size_in v.list) w.runs-is ∙ ap size_in w.remove.ensures.list in
      let b = size_remove c.args.runs.now.list c.args.index c.get-run.result c.get-run.ensures.value in
      omega (arith, a, b, w.if-run-eq1.true)
  | else-run-eq1 w ↦
      let a : size_in c.if-run-eq1.runs.list ≡ size_in (set c.args.runs.now.list c.args.index w.rest.result) = ap (λ (v : RunsView). size_in v.list) w.runs-is ∙ ap size_in w.set.ensures.list in
      let b = size_set c.args.runs.now.list c.args.index c.get-run.result w.rest.result c.get-run.ensures.value in
      let f : w.rest.result.len ≡ c.get-run.result.len - 1 = ap (λ (r : Run). r.len) w.rest.ensures.value in
      let small = all_got IsSmall c.args.runs.now.list c.args.index c.get-run.result c.requires.small c.get-run.ensures.value in
      omega (arith, a, b, f, small.some)
]

pub set-requires-2-clause-within : goal.set-requires-2-clause-within
set-requires-2-clause-within c = slice_get_within c.if-run-eq1.runs.list (c.args.index - 1) c.get-left.result (left_there c)

pub set-requires-2-clause-few : goal.set-requires-2-clause-few
set-requires-2-clause-few c =
    let s = size_set c.if-run-eq1.runs.list (c.args.index - 1) c.get-left.result c.front.result (left_there c) in
    let f : c.front.result.len ≡ c.get-left.result.len + 1 = ap (λ (r : Run). r.len) c.front.ensures.value in
    omega (arith, s, f, one_fewer c, c.get-left.ensures.size)

pub returns-clause-passed : goal.returns-clause-passed
returns-clause-passed c =
    let next = next_from c.args.runs.now.list (c.args.index - 1) c.args.index c.get-left.result c.get-run.result c.get-left.ensures.value c.get-run.ensures.value c.requires.next in
    let small = all_got IsSmall c.args.runs.now.list c.args.index c.get-run.result c.requires.small c.get-run.ensures.value in
    elim c.if-run-eq1.branch [
      | then-run-eq1 w ↦ subst (λ t. PassesFirst c.args.runs.now.list t c.args.index)
          (sym (c.set-2.ensures.list ∙ ap (λ (v : RunsView). set v.list (c.args.index - 1) c.front.result) w.runs-is ∙ ap (λ t. set t (c.args.index - 1) c.front.result) w.remove.ensures.list ∙ ap (set (remove c.args.runs.now.list c.args.index) (c.args.index - 1)) c.front.ensures.value))
          (passes_last c.args.runs.now.list c.args.index c.get-left.result c.get-run.result c.requires.behind c.get-left.ensures.value c.get-run.ensures.value next w.if-run-eq1.true)
      | else-run-eq1 w ↦ subst (λ t. PassesFirst c.args.runs.now.list t c.args.index)
          (sym (c.set-2.ensures.list ∙ ap (λ (v : RunsView). set v.list (c.args.index - 1) c.front.result) w.runs-is ∙ ap (λ t. set t (c.args.index - 1) c.front.result) (w.set.ensures.list ∙ ap (set c.args.runs.now.list c.args.index) w.rest.ensures.value) ∙ ap (set (set c.args.runs.now.list c.args.index (rest_of c.get-run.result 1)) (c.args.index - 1)) c.front.ensures.value))
          (passes_one c.args.runs.now.list c.args.index c.get-left.result c.get-run.result c.requires.behind c.get-left.ensures.value c.get-run.ensures.value next (omega (arith, w.if-run-eq1.false, small.some)))
    ]

use Rattle.std.proofs.Common.{◌≡◌, ◌-◌, ◌+◌, ◌∙◌, ℕ, List, length, take, drop, sym, ap, subst, arith}
use Rattle.std.proofs.lemmas.List.{take_rest}
use Rattle.braid_spans.specs.declared.run.Run.{Run}
use Rattle.braid_spans.specs.Kept.{RunsView, IsHeldAt}
use Rattle.braid_spans.specs.Blocks.{flat, runs_in, before}
use Rattle.braid_spans.proofs.KeptBlocks.{few_runs}
use Rattle.braid_spans.proofs.InBlocks.{flat_two, runs_before, before_within, behind_within}
use Rattle.braid_spans.proofs.Finding.{held_within, held_behind, held_before, held_neither, from_none, from_no_some}
use Rattle.braid_spans.proofs.runs.Runs.find.Goals as goal

pub find_in-requires : goal.find_in-requires
find_in-requires c =
    let bs = c.self.inside.blocks.items in
    let m = c.min-last.result in
    let e : length (flat (take (length c.deref.result.now - m) (drop m c.deref.result.now))) ≡ length (flat (drop m bs)) = ap (λ t. length (flat t)) (take_rest c.deref.result.now m ∙ ap (drop m) c.deref.ensures.value) in
    record { few = omega (arith, e, behind_within bs m, few_runs bs c.self.inside.undeleted c.self.invariant.counted) }

pub count_runs-requires : goal.count_runs-requires
count_runs-requires c =
    let bs = c.self.inside.blocks.items in
    let m = c.min-last.result in
    let e : runs_in (take m c.deref-in-Some.result.now) ≡ before bs m = ap (λ t. runs_in (take m t)) (c.deref-in-Some.ensures.value ∙ c.self.invariant.sums_are) ∙ runs_before bs m in
    record { few = omega (arith, e, before_within bs m, few_runs bs c.self.inside.undeleted c.self.invariant.counted) }

pub overflow_add-result : goal.overflow_add-result
overflow_add-result c =
    let bs = c.self.inside.blocks.items in
    let m = c.min-last.result in
    let e : runs_in (take m c.deref-in-Some.result.now) ≡ before bs m = ap (λ t. runs_in (take m t)) (c.deref-in-Some.ensures.value ∙ c.self.invariant.sums_are) ∙ runs_before bs m in
    let n : length (flat (take (length c.deref.result.now - m) (drop m c.deref.result.now))) ≡ length (flat (drop m bs)) = ap (λ t. length (flat t)) (take_rest c.deref.result.now m ∙ ap (drop m) c.deref.ensures.value) in
    let l = held_within (flat (take (length c.deref.result.now - m) (drop m c.deref.result.now))) c.args.at c.in-Some.index c.in-Some.ensures.found in
    omega (arith, e, n, l, c.count_runs.ensures.count, before_within bs m, behind_within bs m, few_runs bs c.self.inside.undeleted c.self.invariant.counted)

pub returns-in-Some : goal.returns-in-Some
returns-in-Some c =
    let bs = c.self.inside.blocks.items in
    let m = c.min-last.result in
    let e : c.count_runs.result ≡ before bs m = c.count_runs.ensures.count ∙ ap (λ t. runs_in (take m t)) (c.deref-in-Some.ensures.value ∙ c.self.invariant.sums_are) ∙ runs_before bs m in
    let h = subst (λ (t : List Run). IsHeldAt t c.args.at c.in-Some.index) (ap flat (take_rest c.deref.result.now m ∙ ap (drop m) c.deref.ensures.value)) c.in-Some.ensures.found in
    record { found = subst (λ (v : RunsView). IsHeldAt v.list c.args.at (c.count_runs.result + c.in-Some.index)) c.self.view_is (held_behind bs c.args.at m c.in-Some.index c.count_runs.result e h) }

pub find_in-requires-2 : goal.find_in-requires-2
find_in-requires-2 c =
    let bs = c.self.inside.blocks.items in
    let m = c.min-last.result in
    let e : length (flat (take m c.deref-2.result.now)) ≡ before bs m = ap (λ t. length (flat (take m t))) c.deref-2.ensures.value in
    record { few = omega (arith, e, before_within bs m, few_runs bs c.self.inside.undeleted c.self.invariant.counted) }

pub unreachable-requires : goal.unreachable-requires
unreachable-requires c =
    let bs = c.self.inside.blocks.items in
    let m = c.min-last.result in
    let i = c.requires.there.0 in
    let there = subst (λ (v : RunsView). IsHeldAt v.list c.args.at i) (sym c.self.view_is) c.requires.there.1 in
    let behind = subst (λ (t : List Run). (j : ℕ) → IsHeldAt t c.args.at j → ⊥) (ap flat (take_rest c.deref.result.now m ∙ ap (drop m) c.deref.ensures.value)) (from_no_some _ c.find_in.result c.in_default.not-Some c.find_in.ensures.none) in
    let front = subst (λ (t : List Run). (j : ℕ) → IsHeldAt t c.args.at j → ⊥) (ap (λ t. flat (take m t)) c.deref-2.ensures.value) (from_none _ c.find_in-2.result c.in-None.is c.find_in-2.ensures.none) in
    held_neither (flat (take m bs)) (flat (drop m bs)) c.args.at i (subst (λ (t : List Run). IsHeldAt t c.args.at i) (flat_two bs m) there) front behind

pub returns : goal.returns
returns c =
    let bs = c.self.inside.blocks.items in
    let m = c.min-last.result in
    let i = c.in-Some-find_in.index in
    let h = subst (λ (t : List Run). IsHeldAt t c.args.at i) (ap (λ t. flat (take m t)) c.deref-2.ensures.value) c.in-Some-find_in.ensures.found in
    record { found = subst (λ (v : RunsView). IsHeldAt v.list c.args.at i) c.self.view_is (held_before bs c.args.at m i h) }

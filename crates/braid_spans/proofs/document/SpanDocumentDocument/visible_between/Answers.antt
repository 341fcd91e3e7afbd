use Rattle.std.proofs.Common.{◌≡◌, ◌+◌, ◌-◌, ◌<◌, ◌≤◌, ◌^◌, ◌++◌, ◌∙◌, ℕ, List, All, length, sym, ap, subst, arith, take, drop, map}
use Rattle.std.proofs.lemmas.List.{take_rest}
use Rattle.braid_tree.specs.Seen.{seen_rows, place_in}
use Rattle.braid_spans.specs.SeenRuns.{seen_places, seen_count}
use Rattle.braid_spans.specs.Spans.{SpanView, spelled, rows_of, deletions_of}
use Rattle.braid_spans.specs.declared.run.Run.{Run}
use Rattle.braid_spans.specs.declared.link.Link.{Link}
use Rattle.braid_spans.specs.Kept.{reach, chains_of, AreFitting}
use Rattle.braid_spans.specs.Blocks.{flat}
use Rattle.braid_spans.proofs.InBlocks.{all_behind}
use Rattle.braid_spans.proofs.SeenBlocks.{drop_behind}
use Rattle.braid_spans.proofs.Sound.{all_reached, all_ordinals, places_answer}
use Rattle.braid_spans.proofs.document.SpanDocumentDocument.visible_between.Goals as goal

pub push_places-requires-clause-within : goal.push_places-requires-clause-within
push_places-requires-clause-within c =
    let in' = c.self.inside in
    let bs = in'.runs.blocks in
    let k = c.pass_blocks-passed.result.blocks in
    let x = c.blocks-2.result.now in
    let P = λ (r : Run). reach r.newest ≤ length in'.links.items in
    let same : flat (take (length x - k) (drop k x)) ≡ flat (drop k bs) = ap flat (take_rest x k ∙ ap (drop k) c.blocks-2.ensures.value) in
    subst (λ (t : List Link). All (λ (r : Run). reach r.newest ≤ length t) (flat (take (length x - k) (drop k x)))) (sym c.deref-2.ensures.value)
    (subst (All P) (sym same) (all_behind P bs k (subst (All P) c.blocks-2.ensures.list (all_reached (length in'.versions.items) in'.chars.items in'.links.items in'.runs.list c.self.invariant.0.fitting))))

pub push_places-requires-clause-ordinals : goal.push_places-requires-clause-ordinals
push_places-requires-clause-ordinals c =
    let in' = c.self.inside in
    let bs = in'.runs.blocks in
    let k = c.pass_blocks-passed.result.blocks in
    let x = c.blocks-2.result.now in
    let P = λ (r : Run). r.first.ordinal + r.len < 2 ^ 32 in
    let same : flat (take (length x - k) (drop k x)) ≡ flat (drop k bs) = ap flat (take_rest x k ∙ ap (drop k) c.blocks-2.ensures.value) in
    subst (All P) (sym same) (all_behind P bs k (subst (All P) c.blocks-2.ensures.list (all_ordinals (length in'.versions.items) in'.chars.items (chains_of in'.links.items) in'.runs.list c.self.invariant.0.fitting)))

pub returns : goal.returns
returns c =
    let in' = c.self.inside in
    let bs = in'.runs.blocks in
    let k = c.pass_blocks-passed.result.blocks in
    let left = c.pass_blocks-passed.result.left in
    let marks = c.args.marks.now in
    let links = c.deref-2.result.now in
    let x = c.blocks-2.result.now in
    let list = c.blocks-2.ensures.list in
    let same : flat (take (length x - k) (drop k x)) ≡ flat (drop k bs) = ap flat (take_rest x k ∙ ap (drop k) c.blocks-2.ensures.value) in
    let n : c.len.result ≡ length in'.versions.items = omega (arith, c.len.ensures) in
    let fit = subst (AreFitting c.len.result in'.chars.items (chains_of c.deref.result.now)) list
    (subst (λ (t : List Link). AreFitting c.len.result in'.chars.items (chains_of t) in'.runs.list) (sym c.deref.ensures.value)
    (subst (λ (m : ℕ). AreFitting m in'.chars.items (chains_of in'.links.items) in'.runs.list) (sym n) c.self.invariant.0.fitting)) in
    let passed = subst (λ (t : List Link). seen_count marks (chains_of t) (flat (take k bs)) + left ≡ c.args.from) (c.deref.ensures.value ∙ sym c.deref-2.ensures.value)
    (c.pass_blocks-passed.ensures.passed bs c.sums.ensures.value in'.chars.items fit) in
    let count = c.saturating_sub-count.result in
    record {
      ok = subst (λ (v : SpanView). c.push_places.new.places.items ≡ take (c.args.to - c.args.from) (drop c.args.from (map place_in (seen_rows marks (deletions_of (spelled v.runs)) (rows_of (spelled v.runs)))))) c.self.view_is
          (c.in_ok-push_places.ensures.ok
          ∙ ap (λ t. t ++ take count (drop left (seen_places marks (chains_of links) (flat (take (length x - k) (drop k x)))))) c.in_ok-places.ensures.ok
          ∙ ap (λ t. take count (drop left (seen_places marks (chains_of links) t))) same
          ∙ ap (take count) (drop_behind marks (chains_of links) bs k c.args.from left passed)
          ∙ ap (λ (m : ℕ). take m (drop c.args.from (seen_places marks (chains_of links) (flat bs)))) c.saturating_sub-count.ensures
          ∙ ap (λ t. take (c.args.to - c.args.from) (drop c.args.from t)) (places_answer in'.versions.items in'.chars.items in'.links.items in'.runs.list in'.deletions c.self.invariant.0 marks links (flat bs) c.deref-2.ensures.value (sym list)));
    }

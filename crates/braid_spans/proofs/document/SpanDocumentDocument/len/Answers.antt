use Rattle.std.proofs.Common.{◌≡◌, ◌≤◌, ◌∙◌, List, All, length, sym, ap, subst, arith}
use Rattle.braid_tree.specs.Seen.{seen_rows}
use Rattle.braid_spans.specs.declared.run.Run.{Run}
use Rattle.braid_spans.specs.declared.link.Link.{Link}
use Rattle.braid_spans.specs.Spans.{SpanView, spelled, rows_of, deletions_of}
use Rattle.braid_spans.specs.Kept.{reach, size_in}
use Rattle.braid_spans.specs.Blocks.{flat}
use Rattle.braid_spans.proofs.Sound.{all_reached, count_answer, full_answer, size_sound}
use Rattle.braid_spans.proofs.document.SpanDocumentDocument.len.Goals as goal

pub count_all-requires-clause-within : goal.count_all-requires-clause-within
count_all-requires-clause-within c =
    let in' = c.self.inside in
    subst (λ (t : List Link). All (λ (r : Run). reach r.newest ≤ length t) (flat c.blocks-2.result.now)) (sym c.deref.ensures.value)
    (subst (All (λ (r : Run). reach r.newest ≤ length in'.links.items)) (c.blocks-2.ensures.list ∙ sym (ap flat c.blocks-2.ensures.value))
    (all_reached (length in'.versions.items) in'.chars.items in'.links.items in'.runs.list c.self.invariant.0.fitting))

pub count_all-requires-clause-few : goal.count_all-requires-clause-few
count_all-requires-clause-few c =
    let in' = c.self.inside in
    let s = size_sound in'.versions.items in'.chars.items in'.links.items in'.runs.list in'.deletions c.self.invariant.0 in
    let e : size_in (flat c.blocks-2.result.now) ≡ size_in in'.runs.list = ap size_in (ap flat c.blocks-2.ensures.value ∙ sym c.blocks-2.ensures.list) in
    omega (arith, s, e, c.self.invariant.1.few_elements)

pub returns : goal.returns
returns c =
    let in' = c.self.inside in
    record {
      len = subst (λ (v : SpanView). c.count_all.result ≡ length (seen_rows c.args.marks.now (deletions_of (spelled v.runs)) (rows_of (spelled v.runs)))) c.self.view_is
          (count_answer in'.versions.items in'.chars.items in'.links.items in'.runs.list in'.deletions c.self.invariant.0 c.args.marks.now c.deref.result.now (flat c.blocks-2.result.now) c.count_all.result c.deref.ensures.value (ap flat c.blocks-2.ensures.value ∙ sym c.blocks-2.ensures.list) c.count_all.ensures.count);
    }

pub returns-then-size-len : goal.returns-then-size-len
returns-then-size-len c =
    let in' = c.self.inside in
    let n : c.len.result ≡ length in'.versions.items = omega (arith, c.len.ensures) in
    record {
      len = subst (λ (v : SpanView). c.undeleted.result ≡ length (seen_rows c.args.marks.now (deletions_of (spelled v.runs)) (rows_of (spelled v.runs)))) c.self.view_is
          (full_answer in'.versions.items in'.chars.items in'.links.items in'.runs.list in'.deletions c.self.invariant.0 c.args.marks.now c.undeleted.result c.size.result c.len.result
          c.undeleted.ensures.count n c.if-size-len.true c.size.ensures.size (c.is_full.ensures.full.0 c.if-is_full.true));
    }

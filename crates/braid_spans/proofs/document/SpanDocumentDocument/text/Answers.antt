use Rattle.std.proofs.Common.{◌≡◌, ◌+◌, ◌≤◌, ◌∙◌, List, All, length, sym, ap, subst, map, ◌++◌, ℕ}
use Rattle.braid_tree.specs.Seen.{seen_rows, char_in}
use Rattle.braid_spans.specs.SeenRuns.{seen_chars}
use Rattle.braid_spans.specs.Spans.{SpanView, spelled, rows_of, deletions_of}
use Rattle.braid_spans.specs.declared.run.Run.{Run}
use Rattle.braid_spans.specs.declared.link.Link.{Link}
use Rattle.braid_spans.specs.Kept.{reach, chains_of}
use Rattle.braid_spans.specs.Blocks.{flat}
use Rattle.braid_spans.proofs.Sound.{all_reached, all_chars, chars_answer}
use Rattle.braid_spans.proofs.document.SpanDocumentDocument.text.Goals as goal

pub push_chars-requires-clause-within : goal.push_chars-requires-clause-within
push_chars-requires-clause-within c =
    let in' = c.self.inside in
    subst (λ (t : List Link). All (λ (r : Run). reach r.newest ≤ length t) (flat c.blocks-2.result.now)) (sym c.deref.ensures.value)
    (subst (All (λ (r : Run). reach r.newest ≤ length in'.links.items)) (c.blocks-2.ensures.list ∙ sym (ap flat c.blocks-2.ensures.value))
    (all_reached (length in'.versions.items) in'.chars.items in'.links.items in'.runs.list c.self.invariant.0.fitting))

pub push_chars-requires-clause-chars : goal.push_chars-requires-clause-chars
push_chars-requires-clause-chars c =
    let in' = c.self.inside in
    subst (λ (t : List ℕ). All (λ (r : Run). r.start + r.len ≤ length t) (flat c.blocks-2.result.now)) (sym c.deref-2.ensures.value)
    (subst (All (λ (r : Run). r.start + r.len ≤ length in'.chars.items)) (c.blocks-2.ensures.list ∙ sym (ap flat c.blocks-2.ensures.value))
    (all_chars (length in'.versions.items) in'.chars.items (chains_of in'.links.items) in'.runs.list c.self.invariant.0.fitting))

pub returns : goal.returns
returns c =
    let in' = c.self.inside in
    let marks = c.args.marks.now in
    let links = c.deref.result.now in
    let chars = c.deref-2.result.now in
    let rs = flat c.blocks-2.result.now in
    record {
      ok = subst (λ (v : SpanView). c.push_chars.new.text.items ≡ map char_in (seen_rows marks (deletions_of (spelled v.runs)) (rows_of (spelled v.runs)))) c.self.view_is
          (c.in_ok-push_chars.ensures.ok
          ∙ ap (λ t. t ++ seen_chars marks chars (chains_of links) rs) c.new-text.ensures.items
          ∙ chars_answer in'.versions.items in'.chars.items in'.links.items in'.runs.list in'.deletions c.self.invariant.0 marks chars links rs c.deref-2.ensures.value c.deref.ensures.value (ap flat c.blocks-2.ensures.value ∙ sym c.blocks-2.ensures.list));
    }

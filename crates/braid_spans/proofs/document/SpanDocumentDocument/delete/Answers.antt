use Rattle.std.proofs.Common.{◌≡◌, ℕ, ◌+◌, ◌-◌, ◌<◌, ◌≤◌, length, sym, subst, arith}
use Rattle.std.proofs.lemmas.List.{length-map}
use Rattle.braid_tree.specs.Rows.{HasPlace, PutsOne}
use Rattle.braid_spans.specs.Spans.{SpanView, spelled, rows_of, deletions_of}
use Rattle.braid_spans.specs.Kept.{stamp_of, stamps_in, spans_of, chains_of}
use Rattle.braid_spans.proofs.Marking.{marked_deletions}
use Rattle.braid_spans.proofs.Sound.{held_from_place, sound_marked}
use Rattle.braid_spans.proofs.document.SpanDocumentDocument.delete.Goals as goal

pub note_deletion-requires-clause-there : goal.note_deletion-requires-clause-there
note_deletion-requires-clause-there c =
    let in' = c.self.inside in
    held_from_place in'.chars.items (chains_of in'.links.items) (length in'.versions.items) in'.runs.list c.args.at c.self.invariant.0.fitting
    (subst (λ (v : SpanView). HasPlace (rows_of (spelled v.runs)) c.args.at) (sym c.self.view_is) c.requires.there)

pub invariant_of-self : goal.invariant_of-self
invariant_of-self c =
    let in' = c.self.inside in
    let last : c.len.result - 1 ≡ length (stamps_in in'.versions.items) - 1 = omega (arith, c.len.ensures, length-map in'.versions.items stamp_of) in
    let begun : 0 < length (stamps_in in'.versions.items) = subst (λ (v : SpanView). 0 < length v.stamps) (sym c.self.view_is) c.requires.begun in
    let below : c.len.result - 1 < length in'.versions.items = omega (arith, last, begun, length-map in'.versions.items stamp_of) in
    let fit : 1 ≤ in'.left.deletions = subst (λ (v : SpanView). 1 ≤ v.room.deletions) (sym c.self.view_is) c.requires.roomy.deletions_fit in
    let m = c.note_deletion.ensures.marked (length in'.versions.items) in'.chars.items c.self.invariant.0.fitting in
    let old = c.self.invariant.1 in
    let few : length c.note_deletion.new.links.items ≤ length in'.links.items + 1 = omega (arith, c.note_deletion.ensures.few) in (
      sound_marked in'.versions.items in'.chars.items in'.links.items in'.runs.list in'.deletions c.self.invariant.0 c.note_deletion.new.links.items c.note_deletion.new.runs.list c.args.at (c.len.result - 1)
          c.note_deletion.ensures.linked (c.note_deletion.ensures.made (length in'.versions.items) below c.self.invariant.0.made) few m.0 m.1,
      record {
        versions_fit = old.versions_fit;
        chars_fit = old.chars_fit;
        links_fit = omega (arith, fit, old.links_fit, c.note_deletion.ensures.few, c.note_deletion.ensures.in_place);
        runs_fit = omega (arith, fit, old.runs_fit, c.note_deletion.ensures.room);
        few_versions = old.few_versions;
        few_elements = old.few_elements;
        few_deletions = omega (arith, fit, old.few_deletions);
      },
    )

pub returns-clause-deletions : goal.returns-clause-deletions
returns-clause-deletions c =
    let in' = c.self.inside in
    let last : c.len.result - 1 ≡ length (stamps_in in'.versions.items) - 1 = omega (arith, c.len.ensures, length-map in'.versions.items stamp_of) in
    let m = c.note_deletion.ensures.marked (length in'.versions.items) in'.chars.items c.self.invariant.0.fitting in
    subst (λ (v : SpanView). PutsOne (deletions_of (spelled v.runs)) (record { at = c.args.at; by = length v.stamps - 1 }) (deletions_of (spelled (spans_of in'.chars.items (chains_of c.note_deletion.new.links.items) c.note_deletion.new.runs.list)))) c.self.view_is
    (subst (λ (n : ℕ). PutsOne (deletions_of (spelled (spans_of in'.chars.items (chains_of in'.links.items) in'.runs.list))) (record { at = c.args.at; by = n }) (deletions_of (spelled (spans_of in'.chars.items (chains_of c.note_deletion.new.links.items) c.note_deletion.new.runs.list)))) last
    (marked_deletions (spelled (spans_of in'.chars.items (chains_of in'.links.items) in'.runs.list)) (spelled (spans_of in'.chars.items (chains_of c.note_deletion.new.links.items) c.note_deletion.new.runs.list)) c.args.at (c.len.result - 1) m.1))

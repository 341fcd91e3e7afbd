use Rattle.std.proofs.Common.{◌≡◌, ℕ, ◌+◌, ◌-◌, ◌<◌, ◌≤◌, ◌++◌, ◌∙◌, min, List, Option, Some, IfSome, length, map, take, slice_get, get_or, sym, ap, subst, arith}
use Rattle.std.specs.List.Sorted.{IsPermutation}
use Rattle.std.proofs.lemmas.List.{length-map, take-take}
use Rattle.std.proofs.lemmas.Option.{slice_get-get_or}
use Rattle.braid_tree.specs.declared.at.At.{At}
use Rattle.braid_tree.specs.Rows.{HasPlace, place}
use Rattle.braid_spans.specs.Spans.{SpanView, spelled, rows_of, deletions_of, deletion_by}
use Rattle.braid_spans.specs.SeenRuns.{places_from}
use Rattle.braid_spans.specs.Kept.{stamp_of, stamps_in, spans_of, chains_of}
use Rattle.braid_spans.proofs.Lists.{from_some_and}
use Rattle.braid_spans.proofs.SeenSteps.{take_places}
use Rattle.braid_spans.proofs.Marking.{each_rows, each_permuted}
use Rattle.braid_spans.proofs.Sound.{held_from_place, sound_each}
use Rattle.braid_spans.proofs.document.SpanDocument.delete_front.Goals as goal

-- the first of the places
first : List At → At
first places = get_or places 0 (place 0 0)

first_is : (places : List At) → 0 < length places → slice_get places 0 ≡ Some (first places)
unfolding first
first_is places some = slice_get-get_or places 0 (place 0 0) some

-- the first ones are those of neighbours
first_places : (places : List At) (k most : ℕ) → 0 < length places → k ≤ most → IfSome (slice_get places 0) (λ (at : At). take most places ≡ places_from at.version at.ordinal most)
    → take k places ≡ places_from (first places).version (first places).ordinal k
first_places places k most some l rising =
    let at = first places in
    let all : take most places ≡ places_from at.version at.ordinal most = subst (λ (o : Option At). IfSome o (λ (p : At). take most places ≡ places_from p.version p.ordinal most)) (first_is places some) rising in
    let less : min k most ≡ k = omega (arith, l) in
    sym (take-take k most places l) ∙ ap (take k) all ∙ take_places at.version at.ordinal most k ∙ ap (places_from at.version at.ordinal) less

pub note_deletions-count-requires-clause-there : goal.note_deletions-count-requires-clause-there
unfolding first
note_deletions-count-requires-clause-there c =
    let in' = c.self.inside in
    let at = first c.args.places.now in
    held_from_place in'.chars.items (chains_of in'.links.items) (length in'.versions.items) in'.runs.list at c.self.invariant.0.fitting
    (subst (λ (v : SpanView). HasPlace (rows_of (spelled v.runs)) at) (sym c.self.view_is)
    (from_some_and (HasPlace (rows_of (spelled c.args.self.now.runs))) (slice_get c.args.places.now 0) at (first_is c.args.places.now c.requires.some) c.requires.there))

pub invariant_of-self : goal.invariant_of-self
unfolding first
invariant_of-self c =
    let in' = c.self.inside in
    let at = first c.args.places.now in
    let k = c.note_deletions-count.result in
    let last : c.len.result - 1 ≡ length (stamps_in in'.versions.items) - 1 = omega (arith, c.len.ensures, length-map in'.versions.items stamp_of) in
    let begun : 0 < length (stamps_in in'.versions.items) = subst (λ (v : SpanView). 0 < length v.stamps) (sym c.self.view_is) c.requires.begun in
    let below : c.len.result - 1 < length in'.versions.items = omega (arith, last, begun, length-map in'.versions.items stamp_of) in
    let room : length c.args.places.now ≤ in'.left.deletions = subst (λ (v : SpanView). length c.args.places.now ≤ v.room.deletions) (sym c.self.view_is) c.requires.roomy.deletions_fit in
    let fit : k ≤ in'.left.deletions = omega (arith, room, c.note_deletions-count.ensures.most, c.neighbours-most.ensures.within) in
    let some = c.note_deletions-count.ensures.some in
    let m = c.note_deletions-count.ensures.marked (length in'.versions.items) in'.chars.items c.self.invariant.0.fitting in
    let old = c.self.invariant.1 in
    let few : length c.note_deletions-count.new.links.items ≤ length in'.links.items + 1 = omega (arith, c.note_deletions-count.ensures.few) in (
      sound_each in'.versions.items in'.chars.items in'.links.items in'.runs.list in'.deletions c.self.invariant.0 c.note_deletions-count.new.links.items c.note_deletions-count.new.runs.list at.version at.ordinal k (c.len.result - 1)
          some c.note_deletions-count.ensures.linked (c.note_deletions-count.ensures.made (length in'.versions.items) below c.self.invariant.0.made) few m.0 m.1,
      record {
        versions_fit = old.versions_fit;
        chars_fit = old.chars_fit;
        links_fit = omega (arith, fit, some, old.links_fit, c.note_deletions-count.ensures.few, c.note_deletions-count.ensures.in_place);
        runs_fit = omega (arith, fit, some, old.runs_fit, c.note_deletions-count.ensures.room);
        few_versions = old.few_versions;
        few_elements = old.few_elements;
        few_deletions = omega (arith, fit, old.few_deletions);
      },
    )

pub returns-clause-rows : goal.returns-clause-rows
unfolding first
returns-clause-rows c =
    let in' = c.self.inside in
    let at = first c.args.places.now in
    let m = c.note_deletions-count.ensures.marked (length in'.versions.items) in'.chars.items c.self.invariant.0.fitting in
    each_rows (spelled (spans_of in'.chars.items (chains_of in'.links.items) in'.runs.list)) (spelled (spans_of in'.chars.items (chains_of c.note_deletions-count.new.links.items) c.note_deletions-count.new.runs.list)) at.version at.ordinal c.note_deletions-count.result (c.len.result - 1) m.1
    ∙ ap (λ (v : SpanView). rows_of (spelled v.runs)) c.self.view_is

pub returns-clause-deletions : goal.returns-clause-deletions
unfolding first
returns-clause-deletions c done same =
    let in' = c.self.inside in
    let places = c.args.places.now in
    let at = first places in
    let k = c.note_deletions-count.result in
    let old = spelled (spans_of in'.chars.items (chains_of in'.links.items) in'.runs.list) in
    let new = spelled (spans_of in'.chars.items (chains_of c.note_deletions-count.new.links.items) c.note_deletions-count.new.runs.list) in
    let last : c.len.result - 1 ≡ length (stamps_in in'.versions.items) - 1 = omega (arith, c.len.ensures, length-map in'.versions.items stamp_of) in
    let by : c.len.result - 1 ≡ length c.args.self.now.stamps - 1 = last ∙ ap (λ (v : SpanView). length v.stamps - 1) c.self.view_is in
    let m = c.note_deletions-count.ensures.marked (length in'.versions.items) in'.chars.items c.self.invariant.0.fitting in
    let before = subst (λ (v : SpanView). IsPermutation done (deletions_of (spelled v.runs))) (sym c.self.view_is) same in
    let e = first_places places k c.neighbours-most.result c.requires.some (omega (arith, c.note_deletions-count.ensures.most)) c.neighbours-most.ensures.rising in
    subst (λ (t : List At). IsPermutation (done ++ map (deletion_by (length c.args.self.now.stamps - 1)) t) (deletions_of new)) (sym e)
    (subst (λ (n : ℕ). IsPermutation (done ++ map (deletion_by n) (places_from at.version at.ordinal k)) (deletions_of new)) by
    (each_permuted done old new at.version at.ordinal k (c.len.result - 1) before m.1))

use Rattle.std.proofs.Common.{◌≡◌, ℕ, ◌+◌, ◌-◌, ◌<◌, ◌≤◌, ◌∙◌, List, MatchOption, length, sym, ap, subst, arith, vec_len}
use Rattle.std.proofs.lemmas.List.{length-map, length-append}
use Rattle.braid_tree.specs.Rows.{HasPlace, AreNewOrdinals, AreKnown}
use Rattle.braid_spans.specs.Spans.{SpanView, spelled, rows_of}
use Rattle.braid_spans.specs.Kept.{stamp_of, stamps_in, spans_of, chains_of, IsSound, IsPut, AreFitting}
use Rattle.braid_spans.specs.declared.version.SpanVersion.{SpanVersion}
use Rattle.braid_spans.proofs.Sound.{some_items, held_after, size_sound, sound_put}
use Rattle.braid_spans.proofs.document.SpanDocumentDocument.insert_run.Goals as goal

pub returns-then-is_empty-clause-known : goal.returns-then-is_empty-clause-known
returns-then-is_empty-clause-known c = subst (λ (v : SpanView). AreKnown v.stamps (rows_of (spelled v.runs))) c.self.view_is c.self.invariant.0.known

pub put_run-requires-clause-there : goal.put_run-requires-clause-there
put_run-requires-clause-there c =
    let in' = c.self.inside in
    held_after in'.chars.items (chains_of in'.links.items) (length in'.versions.items) in'.runs.list c.args.after c.self.invariant.0.fitting
    (subst (λ (v : SpanView). MatchOption c.args.after (Unit {0}) (HasPlace (rows_of (spelled v.runs)))) (sym c.self.view_is) c.requires.there)

pub put_run-requires-clause-fitting : goal.put_run-requires-clause-fitting
put_run-requires-clause-fitting c =
    let in' = c.self.inside in
    (chains_of in'.links.items, subst (λ (t : List SpanVersion). AreFitting (length t) in'.chars.items (chains_of in'.links.items) in'.runs.list) (sym c.deref.ensures.value) c.self.invariant.0.fitting)

pub put_run-requires-clause-size : goal.put_run-requires-clause-size
put_run-requires-clause-size c =
    let in' = c.self.inside in
    let n : vec_len in'.chars ≡ length in'.chars.items = omega arith in
    size_sound in'.versions.items in'.chars.items in'.links.items in'.runs.list in'.deletions c.self.invariant.0 ∙ sym n

sound : (c : goal.After-self-1) → IsSound c.self.inside.versions.items c.put_run.new.chars.items c.self.inside.links.items c.put_run.new.runs.list c.self.inside.deletions
sound c =
    let in' = c.self.inside in
    let chains = chains_of in'.links.items in
    let last : c.len.result - 1 ≡ length (stamps_in in'.versions.items) - 1 = omega (arith, c.len.ensures, length-map in'.versions.items stamp_of) in
    let begun : 0 < length (stamps_in in'.versions.items) = subst (λ (v : SpanView). 0 < length v.stamps) (sym c.self.view_is) c.requires.begun in
    let there = subst (λ (v : SpanView). MatchOption c.args.after (Unit {0}) (HasPlace (rows_of (spelled v.runs)))) (sym c.self.view_is) c.requires.there in
    let next = subst (λ (v : SpanView). AreNewOrdinals (rows_of (spelled v.runs)) (length v.stamps - 1) c.args.ordinal) (sym c.self.view_is) c.requires.ordinals in
    let p = c.put_run.ensures.put chains (subst (λ (t : List SpanVersion). AreFitting (length t) in'.chars.items chains in'.runs.list) (sym c.deref.ensures.value) c.self.invariant.0.fitting) in
    subst (λ (t : List ℕ). IsSound in'.versions.items t in'.links.items c.put_run.new.runs.list in'.deletions) (sym c.put_run.ensures.chars)
    (sound_put in'.versions.items in'.chars.items in'.links.items in'.runs.list in'.deletions c.self.invariant.0 c.args.text.now c.put_run.new.runs.list (record { version = c.len.result - 1; ordinal = c.args.ordinal }) c.args.after
    (omega (arith, last, begun, length-map in'.versions.items stamp_of)) there
    (subst (λ (n : ℕ). AreNewOrdinals (rows_of (spelled (spans_of in'.chars.items chains in'.runs.list))) n c.args.ordinal) (sym last) next)
    (subst (λ (t : List ℕ). AreFitting (length in'.versions.items) t chains c.put_run.new.runs.list) c.put_run.ensures.chars (subst (λ (t : List SpanVersion). AreFitting (length t) c.put_run.new.chars.items chains c.put_run.new.runs.list) c.deref.ensures.value p.0))
    (subst (λ (t : List ℕ). IsPut (stamps_in in'.versions.items) (spelled (spans_of in'.chars.items chains in'.runs.list)) (spelled (spans_of t chains c.put_run.new.runs.list)) (record { version = c.len.result - 1; ordinal = c.args.ordinal }) c.args.after c.args.text.now) c.put_run.ensures.chars
    (subst (λ (t : List SpanVersion). IsPut (stamps_in t) (spelled (spans_of in'.chars.items chains in'.runs.list)) (spelled (spans_of c.put_run.new.chars.items chains c.put_run.new.runs.list)) (record { version = c.len.result - 1; ordinal = c.args.ordinal }) c.args.after c.args.text.now) c.deref.ensures.value p.1)))

pub invariant_of-self : goal.invariant_of-self
invariant_of-self c =
    let in' = c.self.inside in
    let fit : length c.args.text.now ≤ in'.left.elements = subst (λ (v : SpanView). length c.args.text.now ≤ v.room.elements) (sym c.self.view_is) c.requires.roomy.elements_fit in
    let n : vec_len in'.chars ≡ length in'.chars.items = omega arith in
    let m : vec_len c.put_run.new.chars ≡ length c.put_run.new.chars.items = omega arith in
    let l : length c.put_run.new.chars.items ≡ length in'.chars.items + length c.args.text.now = ap length c.put_run.ensures.chars ∙ length-append in'.chars.items c.args.text.now in
    let old = c.self.invariant.1 in
    let some : 0 < length c.args.text.now = some_items (length c.args.text.now) (sym c.if-is_empty.false ∙ c.is_empty.ensures) in (
      sound c,
      record {
        versions_fit = old.versions_fit;
        chars_fit = omega (arith, n, m, l, fit, old.chars_fit, c.put_run.ensures.capacity);
        links_fit = old.links_fit;
        runs_fit = omega (arith, fit, some, old.runs_fit, c.put_run.ensures.room);
        few_versions = old.few_versions;
        few_elements = omega (arith, n, m, l, fit, old.few_elements);
        few_deletions = old.few_deletions;
      },
    )

pub returns-clause-known : goal.returns-clause-known
unfolding sound
returns-clause-known c = (sound c).known

use Rattle.std.proofs.Common.{◌≡◌, ◌++◌, ◌∙◌, List, ℕ, length, sym, ap, subst, arith, None, Bool, true, if◌then◌else◌}
use Rattle.std.specs.Result.{is_ok}
use Rattle.std.specs.List.{insert}
use Rattle.std.proofs.lemmas.List.{length-map}
use Rattle.braid_spans.specs.declared.run.Run.{Run}
use Rattle.braid_spans.specs.Spans.{spelled}
use Rattle.braid_spans.specs.Kept.{stamps_in, stamp_of, spans_of, AreFitting, IsPut}
use Rattle.braid_spans.proofs.Sound.{all_known, size_alike}
use Rattle.braid_spans.proofs.Putting.{is_put, put_fits}
use Rattle.braid_spans.proofs.inserting.put_run.Goals as goal

pub landing-index-requires-clause-known : goal.landing-index-requires-clause-known
landing-index-requires-clause-known c =
    let f = c.requires.fitting in
    let n = length c.args.versions.now in
    let cs = c.args.chars.now.items in
    all_known n cs f.0 c.open_at-start.new.runs.list (c.open_at-start.ensures.alike n cs f.0 f.1).0

pub insert-requires-clause-few : goal.insert-requires-clause-few
insert-requires-clause-few c =
    let f = c.requires.fitting in
    let s = size_alike (length c.args.versions.now) c.args.chars.now.items f.0 c.args.runs.now.list c.open_at-start.new.runs.list c.open_at-start.ensures.alike f.1 in
    omega (arith, s, c.requires.size, c.requires.few)

-- the runs that are left, and the characters
made : (c : goal.After-extend_from_slice) → c.insert.new.self.list ≡ insert c.open_at-start.new.runs.list c.landing-index.result (record { first = c.args.first; start = length c.args.chars.now.items; len = length c.args.text.now; origin = c.args.after; newest = None })
made c =
    let n : c.len.result ≡ length c.args.chars.now.items = omega (arith, c.len.ensures) in
    c.insert.ensures.list ∙ ap (λ (m : ℕ). insert c.open_at-start.new.runs.list c.landing-index.result (record { first = c.args.first; start = m; len = length c.args.text.now; origin = c.args.after; newest = None })) n

came : (c : goal.After-extend_from_slice) → c.extend_from_slice.new.self.items ≡ c.args.chars.now.items ++ c.args.text.now
came c =
    let ok : is_ok c.extend_from_slice.result ≡ true = c.extend_from_slice.ensures.succeeds c.requires.chars_fit in
    c.extend_from_slice.ensures.items ∙ ap (λ (b : Bool). if b then (c.args.chars.now.items ++ c.args.text.now) else c.args.chars.now.items) ok

pub returns-clause-put : goal.returns-clause-put
returns-clause-put c = λ chains fit. (let n = length c.args.versions.now in
    let vs = stamps_in c.args.versions.now in
    let cs = c.args.chars.now.items in
    let opened = c.open_at-start.new.runs.list in
    let p = c.open_at-start.ensures.alike n cs chains fit in
    let new = insert opened c.landing-index.result (record { first = c.args.first; start = length cs; len = length c.args.text.now; origin = c.args.after; newest = None }) in
    subst (λ (t : List ℕ). AreFitting n t chains c.insert.new.self.list × IsPut vs (spelled (spans_of cs chains c.args.runs.now.list)) (spelled (spans_of t chains c.insert.new.self.list)) c.args.first c.args.after c.args.text.now) (sym (came c))
    (subst (λ (t : List Run). AreFitting n (cs ++ c.args.text.now) chains t × IsPut vs (spelled (spans_of cs chains c.args.runs.now.list)) (spelled (spans_of (cs ++ c.args.text.now) chains t)) c.args.first c.args.after c.args.text.now) (sym (made c)) (
      put_fits n cs chains vs opened c.args.first c.args.after c.args.text.now c.landing-index.result p.0 c.requires.some (omega (arith, c.requires.begun)) c.requires.ordinals,
      subst (λ t. IsPut vs t (spelled (spans_of (cs ++ c.args.text.now) chains new)) c.args.first c.args.after c.args.text.now) p.1
          (is_put n cs chains vs opened c.args.first c.args.after c.args.text.now c.open_at-start.result c.landing-index.result p.0 c.landing-index.ensures.from c.landing-index.ensures.within c.landing-index.ensures.passed c.landing-index.ensures.stop c.open_at-start.ensures.start
          (let l = length-map c.args.versions.now stamp_of in omega (arith, l, c.requires.begun))),
    )))

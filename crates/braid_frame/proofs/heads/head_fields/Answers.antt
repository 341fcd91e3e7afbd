use Rattle.std.proofs.Common.{[], ◌∷◌, ◌++◌, ap, subst, ◌∙◌, Some, None, ◌≡◌}
use Rattle.std.proofs.lemmas.List.{append-nil}
use Rattle.braid_fields.specs.Fields.{Field}
use Rattle.braid_fields.specs.Known.{known}
use Rattle.braid_grammar.specs.Lines.{lines_of}
use Rattle.braid_frame.specs.HeadLines.{fields_in}
use Rattle.braid_frame.proofs.LinesJudged.{fields_line, fields_end}
use Rattle.braid_frame.proofs.heads.head_fields.Goals as goal

pub loop-len-preserved-in_ok-add : goal.loop-len-preserved-in_ok-add
loop-len-preserved-in_ok-add c =
    let k = c.loop-len.invariant in
    let f : Field = record { name = c.in-Some-read_field.name.now; value = c.in-Some-read_field.value.now } in
    (k.0 ++ f ∷ [], c.in_ok-add.ensures.ok k.0 k.1, fields_line c.args.head.now c.loop-len.rest.now _ _ c.in-Some.len k.0 (Some f) c.in-Some.ensures c.split_at.ensures.front c.split_at.ensures.back c.in-Some-read_field.ensures.value k.2)

pub loop-len-preserved : goal.loop-len-preserved
loop-len-preserved c =
    let k = c.loop-len.invariant in (
      k.0,
      k.1,
      subst (λ fs. fields_in (lines_of c.args.head.now) ≡ fs ++ fields_in (lines_of c.split_at.result.1.now)) (append-nil k.0)
          (fields_line c.args.head.now c.loop-len.rest.now _ _ c.in-Some.len k.0 None c.in-Some.ensures c.split_at.ensures.front c.split_at.ensures.back c.in_default-read_field.ensures.value k.2),
    )

pub returns : goal.returns
returns c =
    let k = c.loop-len.invariant in
    record { ok = k.1 ∙ ap known (fields_end c.args.head.now c.loop-len.rest.now k.0 c.in_default.ensures k.2) }

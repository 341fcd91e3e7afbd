use Rattle.std.proofs.Common.{◌≡◌, Some, None, sym, ◌∙◌}
use Rattle.braid_fields.specs.Fields.{field_of}
use Rattle.braid_grammar.proofs.ReadLines.{one_passed, passed_wrong, passed_open}
use Rattle.braid_grammar.proofs.head.field_lines.Goals as goal

pub returns-in_default-read_field : goal.returns-in_default-read_field
returns-in_default-read_field c =
    let e = c.in-Some.ensures in
    let none : field_of c.in-Some.line.now ≡ None = sym c.in_default-read_field.ensures.value in
    passed_wrong c.args.before c.args.bytes.now c.loop-line.fields c.loop-line.count c.loop-line.rest.now c.in-Some.line.now c.in-Some.next.now c.loop-line.invariant e.0 e.1 (sym c.is_empty_line.ensures.value ∙ c.if-is_empty_line.false) none

pub loop-line-preserved : goal.loop-line-preserved
loop-line-preserved c =
    let e = c.in-Some.ensures in
    let holds : field_of c.in-Some.line.now ≡ Some (record { name = c.in-Some-read_field.name.now; value = c.in-Some-read_field.value.now }) = sym c.in-Some-read_field.ensures.value in
    one_passed c.args.before c.args.bytes.now c.loop-line.fields c.add.new.self c.loop-line.count c.loop-line.rest.now c.in-Some.line.now c.in-Some.next.now (record { name = c.in-Some-read_field.name.now; value = c.in-Some-read_field.value.now })
    c.loop-line.invariant e.0 e.1 (sym c.is_empty_line.ensures.value ∙ c.if-is_empty_line.false) holds c.in_ok-add.ensures.ok

pub returns : goal.returns
returns c = passed_open c.args.before c.args.bytes.now c.loop-line.fields c.loop-line.count c.loop-line.rest.now c.loop-line.invariant c.in_default.ensures

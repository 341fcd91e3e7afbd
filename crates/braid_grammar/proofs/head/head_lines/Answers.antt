use Rattle.std.proofs.Common.{ap, sym, ◌∙◌}
use Rattle.braid_grammar.specs.Heads.{head_of}
use Rattle.braid_grammar.proofs.ReadLines.{no_lines, head_is_plain, head_is_bad, head_has_status, said_same}
use Rattle.braid_grammar.proofs.head.head_lines.Goals as goal

pub returns-in_default : goal.returns-in_default
returns-in_default c = ap head_of (no_lines c.args.bytes.now c.in_default.ensures)

pub returns-then-not-is_status : goal.returns-then-not-is_status
returns-then-not-is_status c =
    let e = c.in-Some.ensures in
    said_same c.some_field_lines.result _ _ (head_is_plain c.args.bytes.now c.in-Some.line.now c.in-Some.rest.now e.0 e.1 (sym c.is_status.ensures.value ∙ c.if-not-is_status.true)) c.some_field_lines.ensures

pub returns-then-not-is_good_status : goal.returns-then-not-is_good_status
returns-then-not-is_good_status c =
    let e = c.in-Some.ensures in
    head_is_bad c.args.bytes.now c.in-Some.line.now c.in-Some.rest.now e.0 e.1 (sym c.is_status.ensures.value ∙ c.if-not-is_status.false) (sym c.is_good_status.ensures.value ∙ c.if-not-is_good_status.true)

pub returns : goal.returns
returns c =
    let e = c.in-Some.ensures in
    said_same c.some_field_lines-2.result _ _ (head_has_status c.args.bytes.now c.in-Some.line.now c.in-Some.rest.now e.0 e.1 (sym c.is_status.ensures.value ∙ c.if-not-is_status.false) (sym c.is_good_status.ensures.value ∙ c.if-not-is_good_status.false)) c.some_field_lines-2.ensures

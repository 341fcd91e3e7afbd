use Rattle.std.proofs.Common.{[], ap, sym, ◌∙◌}
use Rattle.braid_grammar.specs.Heads.{behind, some_fields_of}
use Rattle.braid_grammar.proofs.ReadLines.{no_lines, some_are, said_same}
use Rattle.braid_grammar.proofs.head.some_field_lines.Goals as goal

pub returns-in_default : goal.returns-in_default
returns-in_default c = ap (λ ls. behind c.args.before [] (some_fields_of ls)) (no_lines c.args.bytes.now c.in_default.ensures)

pub returns : goal.returns
returns c =
    let e = c.in-Some.ensures in
    said_same c.field_lines.result _ _ (ap (behind c.args.before []) (some_are c.args.bytes.now c.in-Some.line.now _ e.0 e.1 (sym c.is_empty_line.ensures.value ∙ c.if-is_empty_line.false))) c.field_lines.ensures

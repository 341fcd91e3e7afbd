use Rattle.std.proofs.Common.{sym, ◌∙◌, arith}
use Rattle.braid_fields.proofs.Padding.{all_are, are_all}
use Rattle.braid_fields.specs.Fields.{is_in_name}
use Rattle.braid_fields.proofs.field.is_name.Goals as goal

pub returns-then-not-is_empty : goal.returns-then-not-is_empty
returns-then-not-is_empty c =
    (λ t. record { some = grind arith; bytes = all_are is_in_name c.args.bytes.now (sym c.are_in_name.ensures ∙ t) }, λ n. c.are_in_name.ensures ∙ are_all is_in_name c.args.bytes.now n.bytes)

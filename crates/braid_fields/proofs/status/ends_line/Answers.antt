use Rattle.std.proofs.Common.{◌==◌, sym, ap, ◌∙◌}
use Rattle.braid_fields.specs.Lines.{ends_line}
use Rattle.braid_fields.proofs.Padding.{ends_last}
use Rattle.braid_fields.proofs.status.ends_line.Goals as goal

pub returns-in-Some : goal.returns-in-Some
returns-in-Some c = sym (ap ends_line c.in-Some.ensures.cases.0 ∙ ends_last (λ byte. byte == 10) c.in-Some.field-0-1.now c.in-Some.last.now)

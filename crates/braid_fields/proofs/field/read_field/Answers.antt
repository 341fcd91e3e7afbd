use Rattle.std.proofs.Common.{◌∙◌, ap, ◌++◌, ◌∷◌, []}
use Rattle.braid_fields.proofs.Computed.{field_read, no_bytes, other_end}
use Rattle.braid_fields.proofs.field.read_field.Goals as goal

pub returns-in_default : goal.returns-in_default
returns-in_default c = record { value = no_bytes _ c.in_default.ensures.cases }

pub returns-then-last-ne10 : goal.returns-then-last-ne10
returns-then-last-ne10 c = record { value = other_end _ _ _ c.in-Some.ensures.cases.0 c.if-last-ne10.true }

pub returns : goal.returns
returns c = record { value = field_read (λ found. record { name = found.0.now; value = found.1.now }) _ _ _ _ (c.in-Some.ensures.cases.0 ∙ ap (λ x. c.in-Some.front.now ++ x ∷ []) c.if-last-ne10.false) c.without_cr.ensures c.field.ensures }

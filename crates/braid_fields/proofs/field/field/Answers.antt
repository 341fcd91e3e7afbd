use Rattle.std.proofs.Common.{sym, ◌∙◌}
use Rattle.braid_ids.proofs.Splits.{lacks_split}
use Rattle.braid_fields.specs.Fields.{is_in_value}
use Rattle.braid_fields.proofs.Padding.{all_are, are_all, not_both}
use Rattle.braid_fields.proofs.FieldReading.{name_found, value_found}
use Rattle.braid_fields.proofs.field.field.Goals as goal

pub returns-in_default : goal.returns-in_default
returns-in_default c name value f = lacks_split 58 _ _ _ c.in_default.ensures.found f.spelled

pub returns-then-not-is_name : goal.returns-then-not-is_name
returns-then-not-is_name c name value f =
    let found = c.in-Some.ensures.found in
    not_both _ (c.is_name.ensures.1 (name_found name value _ _ _ f found.0 found.1)) c.if-not-is_name.true

pub returns-then-not-are_in_value : goal.returns-then-not-are_in_value
returns-then-not-are_in_value c name value f =
    let found = c.in-Some.ensures.found in
    not_both _ (c.are_in_value.ensures ∙ are_all is_in_value _ (value_found name value _ _ _ _ f found.0 found.1 c.trimmed-value.ensures.padded)) c.if-not-are_in_value.true

pub returns : goal.returns
returns c =
    record {
      padded = c.in-Some.padded.now;
      is_name = c.is_name.ensures.0 c.if-not-is_name.false;
      value_bytes = all_are is_in_value _ (sym c.are_in_value.ensures ∙ c.if-not-are_in_value.false);
      is_padded = c.trimmed-value.ensures.padded;
      spelled = c.in-Some.ensures.found.1;
    }

use Rattle.braid_fields.proofs.ValueReading.{digits_tested}
use Rattle.braid_http.proofs.framing.by_length.Goals as goal

pub digits_value-n-requires-clause-digits : goal.digits_value-n-requires-clause-digits
digits_value-n-requires-clause-digits c = digits_tested _ _ c.are_length_digits.ensures c.if-not-are_length_digits.false

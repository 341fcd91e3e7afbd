use Rattle.braid_shelf.proofs.Passing.{front_passes}
use Rattle.braid_shelf.specs.ByteClasses.{is_digit}
use Rattle.braid_shelf.proofs.integer.read_integer.Goals as goal

pub digits_value-number-requires-clause-digits : goal.digits_value-number-requires-clause-digits
digits_value-number-requires-clause-digits c = rw (c.split_at-2.ensures.front, c.digits_len-count.ensures.count) (front_passes is_digit c.split_at.result.1.now)

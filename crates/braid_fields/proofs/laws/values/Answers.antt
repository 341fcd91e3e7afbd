use Rattle.braid_fields.proofs.ValueReading.{strings_law, count_law, length_law}
use Rattle.braid_fields.proofs.RangeReading.{range_law, unit_law}
use Rattle.braid_fields.proofs.laws.values.Goals as goal

pub returns : goal.returns
returns c = record { strings = strings_law; count = count_law; length = length_law; range = range_law; unit = unit_law }

use Rattle.braid_fields.proofs.StatusReading.{taken_law, good_law, good_taken}
use Rattle.braid_fields.proofs.laws.status_lines.Goals as goal

pub returns : goal.returns
returns c = record { taken = taken_law; good = good_law; both = good_taken }

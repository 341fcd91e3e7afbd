use Rattle.braid_stream.proofs.Taken.{taken_updates, one_taken}
use Rattle.braid_stream.proofs.laws.meaning.Goals as goal

pub returns : goal.returns
returns c = record { updates = taken_updates; one = one_taken }

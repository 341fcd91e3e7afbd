use Rattle.braid_check.proofs.Legal.{keeps_stream}
use Rattle.braid_check.proofs.laws.accepted_is_legal.Goals as goal

pub returns : goal.returns
returns c = record { legal = λ us bytes s a. (keeps_stream us bytes s a).legal; within = λ us bytes s a. (keeps_stream us bytes s a).within }

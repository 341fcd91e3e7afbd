use Rattle.braid_tree.proofs.Callers.{run_leaves}
use Rattle.braid_tree.proofs.laws.run_leaves_a_tree.Goals as goal

pub returns : goal.returns
returns c = record { law = λ vs old es after above n text ins. (run_leaves vs old es after above n text ins).0 }

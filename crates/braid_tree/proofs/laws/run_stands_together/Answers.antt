use Rattle.braid_tree.specs.Keys.{key_cmp}
use Rattle.braid_tree.proofs.Keys.{keys_strict}
use Rattle.braid_tree.proofs.Kept.{run_lands}
use Rattle.braid_tree.proofs.laws.run_stands_together.Goals as goal

pub returns : goal.returns
returns c = record { law = λ key rise text above n front over tail cut up new. run_lands key_cmp keys_strict key rise text above n front over tail cut.tree new cut.origin up cut.greater cut.smaller }

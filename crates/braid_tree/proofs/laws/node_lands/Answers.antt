use Rattle.braid_tree.specs.Keys.{key_cmp}
use Rattle.braid_tree.proofs.Keys.{keys_strict}
use Rattle.braid_tree.proofs.Runs.{node_lands}
use Rattle.braid_tree.proofs.laws.node_lands.Goals as goal

pub returns : goal.returns
returns c = record { law = λ x front over tail cut rising fresh. node_lands key_cmp keys_strict x front over tail cut.tree rising fresh cut.origin cut.greater cut.smaller }

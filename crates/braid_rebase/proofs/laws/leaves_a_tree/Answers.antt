use Rattle.braid_rebase.proofs.Counted.{tree_left}
use Rattle.braid_rebase.proofs.laws.leaves_a_tree.Goals as goal

pub returns : goal.returns
returns c = record { law = tree_left }

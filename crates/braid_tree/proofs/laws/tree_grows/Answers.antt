use Rattle.braid_tree.specs.Keys.{key_cmp}
use Rattle.braid_tree.proofs.Keys.{keys_strict}
use Rattle.braid_tree.proofs.Kept.{tree_with_run}
use Rattle.braid_tree.proofs.LawProofs.{with_nodes_members}
use Rattle.braid_tree.proofs.laws.tree_grows.Goals as goal

pub returns : goal.returns
returns c = record { tree = tree_with_run key_cmp keys_strict; members = with_nodes_members }

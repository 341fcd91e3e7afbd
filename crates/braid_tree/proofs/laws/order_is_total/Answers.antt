use Rattle.braid_tree.specs.Keys.{key_cmp}
use Rattle.braid_tree.specs.Paths.{path_cmp}
use Rattle.braid_tree.specs.Nodes.{path_of}
use Rattle.braid_tree.proofs.Order.{tri, asym, below_trans, paths_strict}
use Rattle.braid_tree.proofs.Keys.{keys_strict}
use Rattle.braid_tree.proofs.laws.order_is_total.Goals as goal

pub returns : goal.returns
returns c =
    let o = paths_strict key_cmp keys_strict in
    record {
      total = λ x y. tri (path_cmp key_cmp) o (path_of x) (path_of y);
      strict = λ x y h k. asym (path_cmp key_cmp) o (path_of x) (path_of y) h k;
      transitive = λ x y z h k. below_trans (path_cmp key_cmp) o (path_of x) (path_of y) (path_of z) h k;
    }

use Rattle.braid_tree.specs.Keys.{key_cmp}
use Rattle.braid_tree.proofs.Keys.{keys_strict}
use Rattle.braid_tree.proofs.Landing.{before_below}
use Rattle.braid_tree.proofs.LawProofs.{siblings_fall, between_two}
use Rattle.braid_tree.proofs.laws.reading_is_depth_first.Goals as goal

pub returns : goal.returns
returns c = record { below = before_below key_cmp keys_strict; siblings = siblings_fall; together = between_two }

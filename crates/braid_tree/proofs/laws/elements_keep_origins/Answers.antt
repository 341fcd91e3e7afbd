use Rattle.std.proofs.Common.{refl}
use Rattle.braid_tree.proofs.LawProofs.{last_key-end, origin_listed, one_tree}
use Rattle.braid_tree.proofs.laws.elements_keep_origins.Goals as goal

pub returns : goal.returns
returns c = record { root = refl; last = last_key-end; one = one_tree; listed = origin_listed }

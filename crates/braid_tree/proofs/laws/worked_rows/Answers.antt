use Rattle.std.proofs.Common.{refl}
use Rattle.braid_tree.proofs.laws.worked_rows.Goals as goal

pub returns : goal.returns
returns c = record { before = refl; after = refl; between = refl; between_after = refl }

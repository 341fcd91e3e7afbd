use Rattle.braid_change.proofs.Cuts.{cut_joined, within_same}
use Rattle.braid_change.proofs.laws.joining_changes_nothing.Goals as goal

pub returns : goal.returns
returns c = record { cut = λ t patches. cut_joined patches 0 t; within = λ len patches. within_same patches 0 len }

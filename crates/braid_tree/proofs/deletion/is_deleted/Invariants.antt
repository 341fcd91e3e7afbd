use Rattle.braid_tree.proofs.Links.{Walks, reach}
use Rattle.braid_tree.proofs.deletion.is_deleted.Given as goal

abbrev pub invariant-loop-link : goal.invariant-loop-link
invariant-loop-link l = Walks l.marks l.deletions l.row.at l.link

abbrev pub decreases-loop-link : goal.decreases-loop-link
decreases-loop-link l = reach l.link

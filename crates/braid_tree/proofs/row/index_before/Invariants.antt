use Rattle.braid_tree.specs.Inside.{rows_in, IsBefore}
use Rattle.braid_tree.proofs.row.index_before.Given as goal

abbrev pub invariant-loop-i : goal.invariant-loop-i
invariant-loop-i l = IsBefore (rows_in l.rows) l.at l.i

use Rattle.std.proofs.Common.{◌≡◌, ◌++◌, length}
use Rattle.braid_change.specs.Splices.{joined}
use Rattle.braid_change.proofs.joins.joined.Given as goal

abbrev pub invariant-loop-first : goal.invariant-loop-first
invariant-loop-first l = l.list.items ++ joined l.rest ≡ joined l.fn.patches

abbrev pub decreases-loop-first : goal.decreases-loop-first
decreases-loop-first l = length l.rest

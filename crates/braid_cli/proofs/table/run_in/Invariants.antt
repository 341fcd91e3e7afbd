use Rattle.std.proofs.Common.{◌≡◌, map, length}
use Rattle.braid_cli.specs.Picks.{run_in}
use Rattle.braid_cli.proofs.table.run_in.Given as goal

abbrev pub invariant-loop-table : goal.invariant-loop-table
invariant-loop-table l = run_in (map (λ c. (c.0.now, c.1)) l.table) l.word ≡ run_in (map (λ c. (c.0.now, c.1)) l.fn.table) l.word

abbrev pub decreases-loop-table : goal.decreases-loop-table
decreases-loop-table l = length l.table

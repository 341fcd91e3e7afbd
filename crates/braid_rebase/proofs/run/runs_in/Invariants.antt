use Rattle.std.proofs.Common.{◌≡◌}
use Rattle.braid_change.specs.Splices.{inserted}
use Rattle.braid_rebase.specs.Pieces.{moved}
use Rattle.braid_rebase.specs.Resolved.{runs_at}
use Rattle.braid_rebase.proofs.run.runs_in.Given as goal

-- the runs of the ranges so far, and how many characters they insert
abbrev pub invariant-loop-range : goal.invariant-loop-range
invariant-loop-range l = record {
  runs : l.runs.items ≡ runs_at l.places 0 (moved l.first l.yielded);
  ordinal : l.ordinal ≡ inserted l.yielded;
}

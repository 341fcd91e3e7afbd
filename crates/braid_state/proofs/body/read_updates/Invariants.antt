use Rattle.std.proofs.Common.{◌≤◌, ◌-◌, vec_len}
use Rattle.braid_state.specs.States.{UpdatesThen}
use Rattle.braid_state.proofs.body.read_updates.Given as goal

abbrev pub invariant-updates : goal.invariant-updates
invariant-updates l = record {
  within : vec_len l.updates ≤ l.count;
  read : UpdatesThen l.updates.items l.rest l.bytes;
}

abbrev pub decreases-updates : goal.decreases-updates
decreases-updates l = l.count - vec_len l.updates

use Rattle.std.proofs.Common.{◌≡◌, [], length}
use Rattle.braid_shelf.specs.Reading.{params_at}
use Rattle.braid_shelf.proofs.param.read_params.Given as goal

abbrev pub invariant-loop-after : goal.invariant-loop-after
invariant-loop-after l = params_at l.params l.rest ≡ params_at [] l.bytes

abbrev pub decreases-loop-after : goal.decreases-loop-after
decreases-loop-after l = length l.rest

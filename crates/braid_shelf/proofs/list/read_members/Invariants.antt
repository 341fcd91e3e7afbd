use Rattle.std.proofs.Common.{◌≡◌, length}
use Rattle.braid_shelf.specs.Reading.{members_at, list_at}
use Rattle.braid_shelf.proofs.list.read_members.Given as goal

abbrev pub invariant-loop-rest : goal.invariant-loop-rest
invariant-loop-rest l = members_at l.found l.rest ≡ list_at l.value

abbrev pub decreases-loop-rest : goal.decreases-loop-rest
decreases-loop-rest l = length l.rest

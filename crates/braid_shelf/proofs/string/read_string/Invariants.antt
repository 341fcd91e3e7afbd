use Rattle.std.proofs.Common.{◌≡◌, [], length}
use Rattle.braid_shelf.specs.Reading.{string_from}
use Rattle.braid_shelf.proofs.string.read_string.Given as goal

abbrev pub invariant-loop-byte : goal.invariant-loop-byte
invariant-loop-byte l = string_from l.quote l.text l.rest ≡ string_from l.quote [] l.bytes

abbrev pub decreases-loop-byte : goal.decreases-loop-byte
decreases-loop-byte l = length l.rest

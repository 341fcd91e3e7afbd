use Rattle.std.proofs.Common.{◌≡◌}
use Rattle.braid_shelf.specs.Lists.{strings_in}
use Rattle.braid_shelf.proofs.strings.strings_of.Given as goal

abbrev pub invariant-loop-member : goal.invariant-loop-member
invariant-loop-member l = l.strings.items ≡ strings_in l.yielded

use Rattle.std.proofs.Common.{length}
use Rattle.braid_http.proofs.LineLaws.{Blanks}
use Rattle.braid_http.proofs.looks.pass_blank.Given as goal

abbrev pub invariant-passing : goal.invariant-passing
invariant-passing l = Blanks l.rest l.bytes

abbrev pub decreases-passing : goal.decreases-passing
decreases-passing l = length l.rest

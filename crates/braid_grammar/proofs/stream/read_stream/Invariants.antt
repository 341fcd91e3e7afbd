use Rattle.std.proofs.Common.{length}
use Rattle.braid_grammar.proofs.ReadStreams.{AreRead}
use Rattle.braid_grammar.proofs.stream.read_stream.Given as goal

abbrev pub invariant-loop-updates : goal.invariant-loop-updates
invariant-loop-updates l = AreRead l.updates.items l.at l.bytes l.rest

abbrev pub decreases-loop-updates : goal.decreases-loop-updates
decreases-loop-updates l = length l.rest

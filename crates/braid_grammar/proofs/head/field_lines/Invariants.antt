use Rattle.std.proofs.Common.{length}
use Rattle.braid_grammar.proofs.ReadLines.{ArePassed}
use Rattle.braid_grammar.proofs.head.field_lines.Given as goal

abbrev pub invariant-loop-line : goal.invariant-loop-line
invariant-loop-line l = ArePassed l.before l.bytes l.fields l.count l.rest

abbrev pub decreases-loop-line : goal.decreases-loop-line
decreases-loop-line l = length l.rest

use Rattle.braid_grammar.proofs.ReadContents.{ArePatchesRead}
use Rattle.braid_grammar.proofs.patch.read_patches.Given as goal

abbrev pub invariant-loop-n : goal.invariant-loop-n
invariant-loop-n l = ArePatchesRead l.count l.initial.at l.bytes l._n l.patches.items l.used l.before l.at l.rest

use Rattle.std.proofs.Common.{◌≡◌, take}
use Rattle.braid_text.specs.Puts.{total_len}
use Rattle.braid_text.proofs.judging.total_len.Given as goal

abbrev pub invariant-loop-run : goal.invariant-loop-run
invariant-loop-run l = l.len ≡ total_len (take l.run-index l.runs)

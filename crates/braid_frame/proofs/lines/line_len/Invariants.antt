use Rattle.std.proofs.Common.{take}
use Rattle.braid_ids.specs.Lists.{Lacks}
use Rattle.braid_frame.proofs.lines.line_len.Given as goal

abbrev pub invariant-loop-i : goal.invariant-loop-i
invariant-loop-i l = Lacks 10 (take l.i l.bytes)

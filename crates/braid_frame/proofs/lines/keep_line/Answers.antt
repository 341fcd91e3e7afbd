use Rattle.std.proofs.Common.{arith, rules}
use Rattle.braid_frame.proofs.LinesKept.{limit_is, keeps_line, keeps_part}
use Rattle.braid_frame.proofs.lines.keep_line.Goals as goal

pub overflow_sub-room : goal.overflow_sub-room
overflow_sub-room c = omega (arith, limit_is)

pub returns-in_ok-extend_from_slice-in-Some-clause-ok : goal.returns-in_ok-extend_from_slice-in-Some-clause-ok
returns-in_ok-extend_from_slice-in-Some-clause-ok c = keeps_line _ _ _ _ _ (search rules) c.in-Some.ensures c.requires.short c.in_ok-extend_from_slice-in-Some.ensures.items

pub returns-in_ok-extend_from_slice-in-None-clause-ok : goal.returns-in_ok-extend_from_slice-in-None-clause-ok
returns-in_ok-extend_from_slice-in-None-clause-ok c = keeps_part _ _ _ _ (search rules) c.requires.some c.in-None.ensures c.requires.short c.in_ok-extend_from_slice-in-None.ensures.items

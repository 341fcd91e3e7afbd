use Rattle.std.proofs.Common.{take}
use Rattle.braid_change.specs.Spellings.{list_text}
use Rattle.braid_change.proofs.spelling.put_parents.Given as goal

abbrev pub invariant-loop-n : goal.invariant-loop-n
invariant-loop-n g l = g.O.Outlet.puts (list_text (take l.n l.parents)) l.fn.out l.out

use Rattle.std.proofs.Common.{◌≡◌, length, take}
use Rattle.braid_graph.specs.Inside.{cleared}
use Rattle.braid_graph.proofs.heads.Heads.clear_all.Given as goal

abbrev pub invariant-loop-n : goal.invariant-loop-n
invariant-loop-n l = record { size : length l.self ≡ length l.fn.self; so_far : l.self ≡ cleared l.fn.self (take l.n-index l.numbers) }

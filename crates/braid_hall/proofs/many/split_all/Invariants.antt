use Rattle.std.specs.Prelude.{◌≡◌, vec_len}
use Rattle.braid_hall.specs.Many.{SplitsAll}
use Rattle.braid_hall.proofs.many.split_all.Given as goal

abbrev pub invariant-loop : goal.invariant-loop
invariant-loop g l = (vec_len l.passes ≡ l.counter) × SplitsAll l.hall l.initial.root (vec_len l.passes) l.root l.passes.items

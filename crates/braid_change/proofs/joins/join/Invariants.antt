use Rattle.std.proofs.Common.{◌≡◌, take, flat_map}
use Rattle.braid_change.proofs.joins.join.Given as goal

abbrev pub invariant-loop-patch : goal.invariant-loop-patch
invariant-loop-patch l = l.chars.items ≡ flat_map (λ p. p.text) (take l.patch-index l.run)

use Rattle.std.proofs.Common.{◌≡◌, ◌∷◌, take}
use Rattle.braid_fields.specs.Table.{one_value}
use Rattle.braid_fields.proofs.joined.with_commas.Given as goal

abbrev pub invariant-loop-other : goal.invariant-loop-other
invariant-loop-other l = l.joined ≡ one_value (l.fn.first ∷ take l.other-index l.others)

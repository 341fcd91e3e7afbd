use Rattle.std.proofs.Common.{◌≡◌, take, true}
use Rattle.std.specs.Str.{all_scalars}
use Rattle.braid_change.proofs.text.Text.of.Given as goal

abbrev pub invariant-loop-c : goal.invariant-loop-c
invariant-loop-c l = all_scalars (take l.c-index l.c-items) ≡ true

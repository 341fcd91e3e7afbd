use Rattle.std.proofs.Common.{◌≡◌, ◌≤◌, ◌++◌, true, drop, length}
use Rattle.std.specs.Str.{all_scalars}
use Rattle.braid_change.specs.Changes.{AreListed}
use Rattle.braid_change.specs.Splices.{all_within, cut}
use Rattle.braid_change.proofs.splices.cut.Given as goal

-- what is done and the cut of what is left are the whole cut
abbrev pub invariant-loop-patch : goal.invariant-loop-patch
invariant-loop-patch l = record {
  low : l.at ≤ length l.text;
  listed : AreListed l.at (drop l.patch-index l.patches);
  within : all_within (length l.text) (drop l.patch-index l.patches) ≡ true;
  whole : l.chars.items ++ cut l.at (drop l.at l.text) (drop l.patch-index l.patches) ≡ cut 0 l.text l.patches;
  scalar : all_scalars l.chars.items ≡ true;
}

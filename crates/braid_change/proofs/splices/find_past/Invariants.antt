use Rattle.std.proofs.Common.{◌≡◌, ◌≤◌, drop}
use Rattle.std.specs.List.{position_from}
use Rattle.braid_change.specs.Splices.{joined, is_past}
use Rattle.braid_change.proofs.Past.{walk}
use Rattle.braid_change.proofs.splices.find_past.Given as goal

-- the patches left give the answer, and there are at most as many joined patches as patches
abbrev pub invariant-loop-patch : goal.invariant-loop-patch
invariant-loop-patch l = record {
  walks : walk l.len l.n l.start (drop l.patch-index l.patches) ≡ position_from (is_past l.len) 0 (joined l.patches);
  count : l.n ≤ l.patch-index;
}

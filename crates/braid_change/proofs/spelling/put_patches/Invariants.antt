use Rattle.std.proofs.Common.{take, flat_map}
use Rattle.braid_change.specs.Spellings.{patch_text}
use Rattle.braid_change.proofs.spelling.put_patches.Given as goal

abbrev pub invariant-loop-patch : goal.invariant-loop-patch
invariant-loop-patch g l = g.O.Outlet.puts (flat_map patch_text (take l.patch-index l.patches)) l.fn.out l.out

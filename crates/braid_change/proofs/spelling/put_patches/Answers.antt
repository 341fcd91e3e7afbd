use Rattle.braid_change.specs.Spellings.{patch_text}
use Rattle.braid_change.proofs.Outlets.{along}
use Rattle.braid_change.proofs.Written.{mapped_more, part_short}
use Rattle.braid_change.proofs.spelling.put_patches.Goals as goal

pub put_patch-requires : goal.put_patch-requires
put_patch-requires g c = record { short = part_short _ _ _ c.loop-patch-test.true c.patch-item.is c.requires.short }

pub loop-patch-preserved : goal.loop-patch-preserved
loop-patch-preserved g c =
    along g.O.Outlet.puts _ _ _ _ (mapped_more patch_text _ _ _ c.loop-patch-test.true c.patch-item.is) (g.met.O.Outlet.more _ _ _ _ _ c.loop-patch.invariant c.put_patch.ensures.puts)

use Rattle.std.proofs.Common.{◌≡◌, drop, slice_get}
use Rattle.braid_spans.specs.Kept.{chains_of}
use Rattle.braid_spans.specs.Blocks.{flat}
use Rattle.braid_spans.specs.SeenRuns.{seen_places}
use Rattle.braid_spans.proofs.whole.nth_of_all.Given as goal

-- what is left to find in the blocks that are left is what was sought in all
abbrev pub invariant-loop-block : goal.invariant-loop-block
invariant-loop-block l = slice_get (seen_places l.marks (chains_of l.links) (flat (drop l.block-index l.blocks))) l.left ≡ slice_get (seen_places l.marks (chains_of l.links) (flat l.blocks)) l.fn.n

use Rattle.std.proofs.Common.{◌≡◌, ◌+◌, drop}
use Rattle.braid_spans.specs.Kept.{chains_of}
use Rattle.braid_spans.specs.Blocks.{flat}
use Rattle.braid_spans.specs.SeenRuns.{seen_count}
use Rattle.braid_spans.proofs.whole.count_all.Given as goal

-- those counted and those seen of the blocks that are left are all
abbrev pub invariant-loop-block : goal.invariant-loop-block
invariant-loop-block l = l.count + seen_count l.marks (chains_of l.links) (flat (drop l.block-index l.blocks)) ≡ seen_count l.marks (chains_of l.links) (flat l.blocks)

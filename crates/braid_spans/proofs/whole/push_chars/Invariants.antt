use Rattle.std.proofs.Common.{◌≡◌, ◌++◌, drop}
use Rattle.braid_spans.specs.Kept.{chains_of}
use Rattle.braid_spans.specs.Blocks.{flat}
use Rattle.braid_spans.specs.SeenRuns.{seen_chars}
use Rattle.braid_spans.proofs.whole.push_chars.Given as goal

-- the text so far and that of the blocks that are left are all of it
abbrev pub invariant-loop-block : goal.invariant-loop-block
invariant-loop-block l = l.text.items ++ seen_chars l.marks l.chars (chains_of l.links) (flat (drop l.block-index l.blocks)) ≡ l.fn.text.items ++ seen_chars l.marks l.chars (chains_of l.links) (flat l.blocks)

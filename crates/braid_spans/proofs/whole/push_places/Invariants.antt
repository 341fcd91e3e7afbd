use Rattle.std.proofs.Common.{◌≡◌, ◌++◌, take, drop}
use Rattle.braid_spans.specs.Kept.{chains_of}
use Rattle.braid_spans.specs.Blocks.{flat}
use Rattle.braid_spans.specs.SeenRuns.{seen_places}
use Rattle.braid_spans.proofs.whole.push_places.Given as goal

-- the places so far and those of the piece that is left are all
abbrev pub invariant-loop-block : goal.invariant-loop-block
invariant-loop-block l = l.places.items ++ take l.piece.take (drop l.piece.skip (seen_places l.marks (chains_of l.links) (flat (drop l.block-index l.blocks))))
    ≡ l.fn.places.items ++ take l.fn.count (drop l.fn.from (seen_places l.marks (chains_of l.links) (flat l.blocks)))

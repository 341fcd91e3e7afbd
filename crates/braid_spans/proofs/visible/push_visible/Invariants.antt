use Rattle.std.proofs.Common.{◌≡◌, ◌≤◌, ◌-◌, ◌++◌, take, drop}
use Rattle.braid_spans.specs.Kept.{chains_of}
use Rattle.braid_spans.specs.SeenRuns.{seen_count, seen_places}
use Rattle.braid_spans.proofs.visible.push_visible.Given as goal

-- the places so far and those of the piece that is left are all
abbrev pub invariant-loop-run : goal.invariant-loop-run
invariant-loop-run l = record {
  all : l.places.items ++ take l.piece.take (drop l.piece.skip (seen_places l.marks (chains_of l.links) (drop l.run-index l.runs)))
      ≡ l.fn.places.items ++ take l.fn.piece.take (drop l.fn.piece.skip (seen_places l.marks (chains_of l.links) l.runs));
  few : seen_count l.marks (chains_of l.links) (drop l.run-index l.runs) ≤ seen_count l.marks (chains_of l.links) l.runs;
  skipped : l.piece.skip ≡ l.fn.piece.skip - (seen_count l.marks (chains_of l.links) l.runs - seen_count l.marks (chains_of l.links) (drop l.run-index l.runs));
  taken : l.piece.take ≡ l.fn.piece.take - ((seen_count l.marks (chains_of l.links) l.runs - seen_count l.marks (chains_of l.links) (drop l.run-index l.runs)) - l.fn.piece.skip);
}

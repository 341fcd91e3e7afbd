use Rattle.std.proofs.Common.{◌≡◌, ◌+◌, drop, slice_get}
use Rattle.braid_spans.specs.Kept.{chains_of}
use Rattle.braid_spans.specs.SeenRuns.{seen_count, seen_places}
use Rattle.braid_spans.proofs.visible.nth_visible.Given as goal

-- what is left to find in the runs that are left is what was sought in all
abbrev pub invariant-loop-run : goal.invariant-loop-run
invariant-loop-run l = record {
  place : slice_get (seen_places l.marks (chains_of l.links) (drop l.run-index l.runs)) l.left ≡ slice_get (seen_places l.marks (chains_of l.links) l.runs) l.fn.n;
  count : seen_count l.marks (chains_of l.links) l.runs + l.left ≡ l.fn.n + seen_count l.marks (chains_of l.links) (drop l.run-index l.runs);
}

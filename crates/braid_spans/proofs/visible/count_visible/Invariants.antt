use Rattle.std.proofs.Common.{◌≡◌, ◌+◌, drop}
use Rattle.braid_spans.specs.Kept.{chains_of}
use Rattle.braid_spans.specs.SeenRuns.{seen_count}
use Rattle.braid_spans.proofs.visible.count_visible.Given as goal

-- those counted and those seen of the runs that are left are all
abbrev pub invariant-loop-run : goal.invariant-loop-run
invariant-loop-run l = l.count + seen_count l.marks (chains_of l.links) (drop l.run-index l.runs) ≡ seen_count l.marks (chains_of l.links) l.runs

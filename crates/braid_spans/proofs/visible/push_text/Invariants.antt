use Rattle.std.proofs.Common.{◌≡◌, ◌++◌, drop}
use Rattle.braid_spans.specs.Kept.{chains_of}
use Rattle.braid_spans.specs.SeenRuns.{seen_chars}
use Rattle.braid_spans.proofs.visible.push_text.Given as goal

-- the text so far and that of the runs that are left are all of it
abbrev pub invariant-loop-run : goal.invariant-loop-run
invariant-loop-run l = l.text.items ++ seen_chars l.marks l.chars (chains_of l.links) (drop l.run-index l.runs) ≡ l.fn.text.items ++ seen_chars l.marks l.chars (chains_of l.links) l.runs

use Rattle.std.proofs.Common.{◌<◌, ◌^◌, length, subst}
use Rattle.braid_spans.specs.Kept.{RunsView}
use Rattle.braid_spans.proofs.KeptBlocks.{few_runs}
use Rattle.braid_spans.proofs.runs.Runs.len.Goals as goal

pub returns-clause-few : goal.returns-clause-few
returns-clause-few c = subst (λ (v : RunsView). length v.list < 2 ^ 32) c.self.view_is (few_runs c.self.inside.blocks.items c.self.inside.undeleted c.self.invariant.counted)

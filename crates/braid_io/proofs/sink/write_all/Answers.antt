use Rattle.std.proofs.Common.{◌∙◌}
use Rattle.braid_io.proofs.Known.{front_more}
use Rattle.braid_io.proofs.sink.write_all.Goals as goal

pub loop-rest-preserved : goal.loop-rest-preserved
loop-rest-preserved g c = record { front = front_more _ _ _ _ _ _ c.loop-rest.invariant.front c.in-Took.ensures.write.2; kept = c.in-Took.ensures.kept ∙ c.loop-rest.invariant.kept }

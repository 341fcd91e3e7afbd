use Rattle.braid_change.specs.Updates.{UpdateView}
use Rattle.braid_change.specs.Spellings.{canonical}
use Rattle.braid_change.proofs.Outlets.{along}
use Rattle.braid_change.proofs.Written.{mapped_more}
use Rattle.braid_fields.specs.Chunks.{chunk}
use Rattle.braid_stream.proofs.stream_writer.put_chunks.Goals as goal

pub loop-update-preserved : goal.loop-update-preserved
loop-update-preserved g c =
    along g.O.Outlet.puts _ _ _ _ (mapped_more (λ (u : UpdateView). chunk (canonical u)) _ _ _ c.loop-update-test.true c.update-item.is)
    (g.met.O.Outlet.more _ _ _ _ _ c.loop-update.invariant c.put_chunk.ensures.puts)

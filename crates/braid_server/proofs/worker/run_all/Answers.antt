use Rattle.std.proofs.Common.{rules}
use Rattle.braid_server.specs.Workers.{RanDoor}
use Rattle.braid_server.proofs.Lists.{zip_each}
use Rattle.braid_server.proofs.worker.run_all.Goals as goal

pub returns : goal.returns
returns g c = record {
  ran = zip_each (RanDoor g.D.Door.doorway g.L.Bell.ringing) _ _ (search rules) (λ k d inside.
      let called = (c.for_each_mut.ensures k d inside).1 in search rules);
}

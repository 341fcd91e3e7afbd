use Rattle.braid_client.proofs.keeping.load_nothing.Goals.{in-Nothing, in-Bytes, in-Failed, in-Memory}
use Rattle.braid_client.proofs.keeping.load_nothing.Goals as goal

pub returns : goal.returns
returns g c = record {
  gives = elim c.match-load.branch [
    | in-Nothing w ↦ rw w.result-is w.in-Nothing.ensures.load
    | in-Bytes w ↦ rw w.result-is (w.in-Bytes.field-0, w.in-Bytes.ensures.load)
    | in-Failed w ↦ rw w.result-is w.in-Failed.ensures.load
    | in-Memory w ↦ rw w.result-is w.in-Memory.ensures.load
  ];
}

use Rattle.std.proofs.Common.{ap, length, arith}
use Rattle.braid_server.proofs.Counting.{sessions_more}
use Rattle.braid_server.proofs.print.sessions_of.Goals as goal

pub loop-note-preserved : goal.loop-note-preserved
loop-note-preserved c =
    let more = sessions_more c.args.notes.now c.loop-note.note-index c.note-item.result c.loop-note-test.true c.note-item.is in
    let long = ap length c.get.ensures.value in
    let sum = c.loop-note.invariant.0 in
    let bound = c.loop-note.invariant.1 in
    let fits = c.get.type_inv in
    (omega (arith, more, long, sum), omega (arith, bound, fits))

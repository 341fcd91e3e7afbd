use Rattle.std.proofs.Common.{ap, sym, ◌∙◌}
use Rattle.braid_server.specs.Runs.{with_end}
use Rattle.braid_server.proofs.Counting.{status_more}
use Rattle.braid_server.proofs.print.status_of.Goals as goal

pub loop-note-preserved : goal.loop-note-preserved
loop-note-preserved c =
    c.with_end-status.ensures.value ∙ ap (with_end c.note-item.result.end) c.loop-note.invariant
    ∙ sym (status_more c.args.notes.now c.loop-note.note-index c.note-item.result c.loop-note-test.true c.note-item.is)

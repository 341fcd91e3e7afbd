use Rattle.braid_server.proofs.Ending.{prints_last}
use Rattle.braid_server.proofs.serve.print_last.Goals as goal

pub returns-in-Ok-clause-prints : goal.returns-in-Ok-clause-prints
returns-in-Ok-clause-prints g c =
    prints_last c.args.book.now c.args.notes.now c.get.result.now c.get-in-Ok-2.result.now c.get-in-Ok.result.now _ c.len-versions.result c.sessions_of-sessions.result c.status_of.result _ _ _
    c.get-in-Ok.ensures.value c.in-Ok.ensures.ok c.len-versions.ensures.count c.sessions_of-sessions.ensures.value c.get.ensures.value c.status_of.ensures.value c.get-in-Ok-2.ensures.value
    c.print.ensures.prints

use Rattle.std.proofs.lemmas.Result.{err_from_is_err_and}
use Rattle.braid_client.proofs.words.read_words.Goals as goal

pub returns-in_err-command-clause-fault : goal.returns-in_err-command-clause-fault
returns-in_err-command-clause-fault c =
    let p = err_from_is_err_and c.from_residual.result c.from_residual.ensures.1 in
    rw (p.1, p.2) tt

pub returns-clause-fault : goal.returns-clause-fault
returns-clause-fault c = tt

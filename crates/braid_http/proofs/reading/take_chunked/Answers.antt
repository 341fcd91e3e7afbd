use Rattle.braid_http.proofs.Waiting.{asked_chunked}
use Rattle.braid_http.proofs.reading.take_chunked.Goals as goal

pub returns-clause-gives : goal.returns-clause-gives
returns-clause-gives g c = asked_chunked _ _ _ _ _ c.args.ready _ c.in_ok-body.ensures.ok c.requires.ready c.requires.chunked c.in-Ok.ensures.ok

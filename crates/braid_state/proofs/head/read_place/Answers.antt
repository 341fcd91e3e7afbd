use Rattle.braid_state.proofs.HeadRead.{bad_server, bad_path}
use Rattle.braid_state.proofs.head.read_place.Goals as goal

pub returns-in_default-clause-stop : goal.returns-in_default-clause-stop
returns-in_default-clause-stop c head whole h = bad_server head c.args.bytes.now whole c.in_default.ensures.found h

pub returns-in_default-path_line-clause-stop : goal.returns-in_default-path_line-clause-stop
returns-in_default-path_line-clause-stop c head whole h =
    let f = c.in-Some.ensures.found in
    bad_path head c.in-Some.server.now c.args.bytes.now c.in-Some.rest.now whole f.0 f.1 c.in_default-path_line.ensures.found h

use Rattle.std.proofs.Common.{arith}
use Rattle.braid_state.proofs.Departed.{rest_within}
use Rattle.braid_state.proofs.reading.fault_of.Goals as goal

pub overflow_sub-result : goal.overflow_sub-result
overflow_sub-result c = rest_within c.in-Bad.rest.now c.args.bytes.now (rw c.in-Bad.is at c.requires.stopped)

pub returns-in-Bad : goal.returns-in-Bad
returns-in-Bad c =
    let bad = rw c.in-Bad.is at c.requires.stopped in
    record { fault = (c.in-Bad.rest.now, bad, omega (arith, rest_within c.in-Bad.rest.now c.args.bytes.now bad)) }

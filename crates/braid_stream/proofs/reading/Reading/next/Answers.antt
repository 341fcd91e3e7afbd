use Rattle.std.proofs.Common.{◌++◌}
use Rattle.braid_stream.proofs.Taken.{readable_after}
use Rattle.braid_stream.proofs.reading.Reading.next.Goals as goal

pub returns-in-None-clause-readable : goal.returns-in-None-clause-readable
returns-in-None-clause-readable g c =
    let q = c.requires.readable c.in-None.is in
    let a = c.go_on.ensures.answers q.0 q.1 q.2 in
    readable_after q.0 (q.1 ++ a.more) c.go_on.result c.go_on.new.self a.leaves

pub returns-in-None-clause-at_hand : goal.returns-in-None-clause-at_hand
returns-in-None-clause-at_hand g c us bytes going h a = c.go_on.ensures.at_hand us bytes h a

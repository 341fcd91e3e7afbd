use Rattle.braid_http.proofs.StepLaws.{cut_here, cut_long}
use Rattle.braid_http.proofs.chunks.cut_line.Goals as goal

pub returns-in-Some : goal.returns-in-Some
returns-in-Some c =
    let f = c.in-Some.ensures.found in
    record { cut = cut_here c.args.bytes.now _ _ f.0 (rw c.min.ensures at f.1) }

pub returns-else-front-lt-MOST_LINE : goal.returns-else-front-lt-MOST_LINE
returns-else-front-lt-MOST_LINE c =
    record { cut = rw c.min.ensures (cut_long c.args.bytes.now (rw c.min.ensures at c.in-None.ensures.found) (rw c.min.ensures at c.if-front-lt-MOST_LINE.false)) }

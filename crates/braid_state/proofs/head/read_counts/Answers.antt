use Rattle.braid_state.proofs.HeadRead.{bad_confirmed, bad_unsent, bad_sum, bad_empty, whole_head}
use Rattle.braid_state.proofs.head.read_counts.Goals as goal

pub returns-in_default-clause-stop : goal.returns-in_default-clause-stop
returns-in_default-clause-stop c head whole h = bad_confirmed head c.args.bytes.now whole c.in_default.ensures.found h

pub returns-in_default-count_line-clause-stop : goal.returns-in_default-count_line-clause-stop
returns-in_default-count_line-clause-stop c head whole h =
    let f = c.in-Some.ensures.found in
    bad_unsent head f.0 c.args.bytes.now c.in-Some.rest.now whole f.1 f.3 c.in_default-count_line.ensures.found h

pub returns-then-confirmed-unsent-gt-MOST_UPDATES-clause-stop : goal.returns-then-confirmed-unsent-gt-MOST_UPDATES-clause-stop
returns-then-confirmed-unsent-gt-MOST_UPDATES-clause-stop c head whole h =
    let f = c.in-Some.ensures.found in
    let g = c.in-Some-count_line.ensures.found in
    bad_sum head c.in-Some.confirmed c.in-Some-count_line.unsent f.0 g.0 c.args.bytes.now c.in-Some.rest.now c.in-Some-count_line.after.now whole (f.1, f.2) (g.1, g.2) c.if-confirmed-unsent-gt-MOST_UPDATES.true f.3 g.3 h

pub returns-in_default-pass_line-clause-stop : goal.returns-in_default-pass_line-clause-stop
returns-in_default-pass_line-clause-stop c head whole h =
    let f = c.in-Some.ensures.found in
    let g = c.in-Some-count_line.ensures.found in
    bad_empty head c.in-Some.confirmed c.in-Some-count_line.unsent f.0 g.0 c.args.bytes.now c.in-Some.rest.now c.in-Some-count_line.after.now whole (f.1, f.2) (g.1, g.2) c.if-confirmed-unsent-gt-MOST_UPDATES.false f.3 g.3
    c.in_default-pass_line.ensures.found h

pub returns-clause-ok : goal.returns-clause-ok
returns-clause-ok c head whole confirmed unsent h =
    let f = c.in-Some.ensures.found in
    let g = c.in-Some-count_line.ensures.found in
    whole_head head c.in-Some.confirmed c.in-Some-count_line.unsent f.0 g.0 c.args.bytes.now c.in-Some.rest.now c.in-Some-count_line.after.now c.in-Some-pass_line.last.now whole (f.1, f.2) (g.1, g.2) c.if-confirmed-unsent-gt-MOST_UPDATES.false f.3 g.3
    c.in-Some-pass_line.ensures.found confirmed unsent h

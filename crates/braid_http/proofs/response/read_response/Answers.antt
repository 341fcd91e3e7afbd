use Rattle.std.proofs.Common.{rules, take}
use Rattle.httparse.specs.Spans.{IsResponseAt}
use Rattle.braid_http.proofs.WholeLemmas.{all_good}
use Rattle.braid_http.proofs.ReplyReading.{whole_response}
use Rattle.braid_http.proofs.response.read_response.Goals as goal

pub returns-in_err-fields-clause-bad : goal.returns-in_err-fields-clause-bad
returns-in_err-fields-clause-bad c e h whole =
    let at : IsResponseAt c.args.bytes.now c.parse_response.new.headers c.in-Ok-Complete.head h = search rules in
    let good = all_good c.args.bytes.now (take c.in-Ok-Complete.head.headers c.parse_response.new.headers) h.fields at.fields whole.reads.0.fields whole.names in
    c.fields_at.ensures.bad (search rules) good

pub returns-clause-ok : goal.returns-clause-ok
returns-clause-ok c =
    whole_response c.args.bytes.now c.parse_response.new.headers c.in-Ok-Complete.head _ (search rules) (search rules) (search rules)
    (search rules) (search rules) (search rules) (search rules)

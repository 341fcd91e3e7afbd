use Rattle.std.proofs.Common.{rules, ◌≡◌, take, sym, subst, ◌∙◌}
use Rattle.httparse.specs.Spans.{IsRequestAt}
use Rattle.http_header.specs.Token.{IsToken}
use Rattle.braid_http.proofs.WholeLemmas.{same_token, all_good, whole_of}
use Rattle.braid_http.proofs.head.read_head.Goals as goal

pub returns-in-Err-Invalid-clause-bad : goal.returns-in-Err-Invalid-clause-bad
returns-in-Err-Invalid-clause-bad c e h whole =
    let at : IsRequestAt c.args.bytes.now c.parse_request.new.headers c.in-Ok-Complete.head h = search rules in
    let is : c.of.result.now ≡ h.method = c.of.ensures ∙ at.method in
    let token = same_token h.method whole.reads.0.method in
    c.from_bytes.ensures.invalid.0 (search rules) (subst IsToken (sym is) token)

pub returns-in_err-fields-clause-bad : goal.returns-in_err-fields-clause-bad
returns-in_err-fields-clause-bad c e h whole =
    let at : IsRequestAt c.args.bytes.now c.parse_request.new.headers c.in-Ok-Complete.head h = search rules in
    let good = all_good c.args.bytes.now (take c.in-Ok-Complete.head.headers c.parse_request.new.headers) h.fields at.fields whole.reads.0.fields whole.names in
    c.fields_at.ensures.bad (search rules) good

pub returns-clause-ok : goal.returns-clause-ok
returns-clause-ok c =
    whole_of c.args.bytes.now c.parse_request.new.headers c.in-Ok-Complete.head _ (search rules) (search rules) (search rules)
    (search rules) (search rules) (search rules) (search rules) (search rules)

use Rattle.std.proofs.Common.{rules}
use Rattle.braid_server.proofs.Lists.{first_and_rest}
use Rattle.braid_server.proofs.Commanding.{form_of}
use Rattle.braid_server.proofs.form.read_form.Goals as goal

pub returns-clause-ok : goal.returns-clause-ok
returns-clause-ok c =
    form_of _ c.first-item.result _ _ c.asked_of.result (first_and_rest _ c.first-item.result c.in-len1-up.len_at_least c.first-item.is) (search rules) c.in_ok-texts.ensures.ok
    c.in_ok-texts.ensures.text (search rules)

use Rattle.std.proofs.Common.{◌≡◌, ◌∙◌, rules, encode_utf8_all}
use Rattle.std.proofs.lemmas.Str.{chars_from_encodes}
use Rattle.braid_change.proofs.Lengths.{scalars_of}
use Rattle.braid_change.proofs.text.Text.read.Goals as goal

pub invariant_of-result : goal.invariant_of-result
invariant_of-result c =
    let e : encode_utf8_all c.in-Ok-collect.chars.items ≡ c.in-Ok-from_utf8.text.now = search (rules, chars_from_encodes) in
    scalars_of _ _ c.in-Ok-from_utf8.ensures.cases.1 (e ∙ c.in-Ok-from_utf8.ensures.cases.0)

pub returns-in-Ok-collect-clause-ok : goal.returns-in-Ok-collect-clause-ok
returns-in-Ok-collect-clause-ok c =
    let e : encode_utf8_all c.in-Ok-collect.chars.items ≡ c.in-Ok-from_utf8.text.now = search (rules, chars_from_encodes) in
    record { scalar = scalars_of _ _ c.in-Ok-from_utf8.ensures.cases.1 (e ∙ c.in-Ok-from_utf8.ensures.cases.0); spelled = e ∙ c.in-Ok-from_utf8.ensures.cases.0 }

use Rattle.braid_change.proofs.Departures.{digits_utf8, unparsed}
use Rattle.braid_change.proofs.range.number_of.Goals as goal

pub returns-in_default : goal.returns-in_default
returns-in_default c = absurd (c.in_default.ensures.cases.0 (digits_utf8 _ c.requires.decimal))

pub returns-in-Err : goal.returns-in-Err
returns-in-Err c = record { number = unparsed _ _ _ _ c.in-Ok.ensures.cases.0 c.requires.decimal c.requires.some c.parse.ensures.value.0 c.in-Err.is }

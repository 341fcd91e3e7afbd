use Rattle.braid_change.proofs.Departures.{run_in, digits_pass, digits_stop, digits_whole}
use Rattle.braid_change.proofs.range.read_number.Goals as goal

pub split_at-requires : goal.split_at-requires
split_at-requires c = run_in _ _ _ c.count_digits.ensures.len

pub number_of-requires-clause-decimal : goal.number_of-requires-clause-decimal
number_of-requires-clause-decimal c = digits_pass _ _ _ _ c.count_digits.ensures.len c.split_at.ensures.front c.split_at.ensures.back

pub returns-in-Some-clause-ok : goal.returns-in-Some-clause-ok
returns-in-Some-clause-ok c =
    (c.split_at.result.0.now, c.in-Some.ensures.number, digits_stop _ _ _ _ c.count_digits.ensures.len c.split_at.ensures.front c.split_at.ensures.back, digits_whole _ _ _ _ c.count_digits.ensures.len c.split_at.ensures.front c.split_at.ensures.back)

pub returns-in-None-clause-fault : goal.returns-in-None-clause-fault
returns-in-None-clause-fault c =
    (c.split_at.result.0.now, c.split_at.result.1.now, c.in-None.ensures.number, digits_stop _ _ _ _ c.count_digits.ensures.len c.split_at.ensures.front c.split_at.ensures.back, digits_whole _ _ _ _ c.count_digits.ensures.len c.split_at.ensures.front c.split_at.ensures.back)

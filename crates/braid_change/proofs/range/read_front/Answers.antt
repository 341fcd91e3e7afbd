use Rattle.braid_change.proofs.Departures.{gap_read, gap_stops, unit_on, run_in, front_ok, front_fault}
use Rattle.braid_change.proofs.range.read_front.Goals as goal

pub split_at-requires : goal.split_at-requires
split_at-requires c = run_in _ _ _ c.count_spaces.ensures.len

pub returns-then-is_empty-2-clause-fault : goal.returns-then-is_empty-2-clause-fault
returns-then-is_empty-2-clause-fault c = unit_on _ _ _ _ c.in-Some.ensures.found c.if-is_empty.ensures c.count_spaces.ensures.len c.split_at.ensures.front c.if-is_empty-2.ensures

pub returns-clause-ok : goal.returns-clause-ok
returns-clause-ok c = front_ok _ _ _ (gap_read _ _ _ _ _ c.in-Some.ensures.found c.count_spaces.ensures.len c.split_at.ensures.front c.split_at.ensures.back c.if-is_empty-2.ensures) c.read_byte.ensures.ok

pub returns-clause-fault : goal.returns-clause-fault
returns-clause-fault c = front_fault _ _ _ (gap_read _ _ _ _ _ c.in-Some.ensures.found c.count_spaces.ensures.len c.split_at.ensures.front c.split_at.ensures.back c.if-is_empty-2.ensures) (gap_stops _ _ _ c.count_spaces.ensures.len c.split_at.ensures.back) c.read_byte.ensures.fault

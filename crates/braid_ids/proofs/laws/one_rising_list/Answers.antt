use Rattle.braid_ids.proofs.Inserted.{rises_ids, rising_members, frontier_is, rising_itself, rising_within}
use Rattle.braid_ids.proofs.laws.one_rising_list.Goals as goal

pub returns : goal.returns
returns c = record {
  rises = rises_ids;
  same = rising_members;
  one = frontier_is;
  itself = rising_itself;
  within = rising_within;
}

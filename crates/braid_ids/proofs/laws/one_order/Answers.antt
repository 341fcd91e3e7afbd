use Rattle.braid_ids.proofs.Rising.{rising_same}
use Rattle.braid_ids.proofs.laws.one_order.Goals as goal

pub returns : goal.returns
returns c = record { law = rising_same }

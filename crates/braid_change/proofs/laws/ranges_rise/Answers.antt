use Rattle.braid_change.proofs.Pieces.{shaped_ranges}
use Rattle.braid_change.proofs.laws.ranges_rise.Goals as goal

pub returns : goal.returns
returns c = record { law = shaped_ranges }

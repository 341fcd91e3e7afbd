use Rattle.braid_check.proofs.OneText.{found_only, found_stays}
use Rattle.braid_check.proofs.laws.found_decides.Goals as goal

pub returns : goal.returns
returns c = record { only = found_only; stays = found_stays }

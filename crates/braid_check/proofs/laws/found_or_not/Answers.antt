use Rattle.braid_check.proofs.OneText.{found_apart}
use Rattle.braid_check.proofs.Decided.{decided}
use Rattle.braid_check.proofs.Ends as lemmas
use Rattle.braid_check.proofs.laws.found_or_not.Goals as goal

pub returns : goal.returns
returns c = record { either = decided; apart = found_apart; ends = lemmas.ends }

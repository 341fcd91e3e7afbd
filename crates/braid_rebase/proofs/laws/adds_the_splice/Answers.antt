use Rattle.braid_rebase.proofs.Spliced.{spliced_after}
use Rattle.braid_rebase.proofs.laws.adds_the_splice.Goals as goal

pub returns : goal.returns
returns c = record { law = λ level id S change t read distinct under shaped e. spliced_after level id S change read distinct under shaped t e }

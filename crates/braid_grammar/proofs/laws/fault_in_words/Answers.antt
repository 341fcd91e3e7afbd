use Rattle.braid_grammar.proofs.WrongUpdates.{fault_stands}
use Rattle.braid_grammar.proofs.Faulty.{wrong_is_faulty}
use Rattle.braid_grammar.proofs.laws.fault_in_words.Goals as goal

pub returns : goal.returns
returns c = record { law = λ bytes at reason. (fault_stands bytes at reason, wrong_is_faulty bytes at reason) }

use Rattle.braid_grammar.proofs.Law.{decided, one_stream, one_fault, no_stream, fault_stays, never_stream}
use Rattle.braid_grammar.proofs.laws.one_reading.Goals as goal

pub returns : goal.returns
returns c = record { decided = decided; stream = one_stream; fault = one_fault; apart = no_stream; stays = fault_stays; never = never_stream }

use Rattle.braid_store.proofs.Later.{sent_of_longer}
use Rattle.braid_store.proofs.laws.sent_grows.Goals as goal

pub returns-clause-begins : goal.returns-clause-begins
returns-clause-begins c = sent_of_longer

use Rattle.braid_world.proofs.WholeSync as lemmas
use Rattle.braid_world.proofs.laws.whole_sync.Goals as goal

pub returns : goal.returns
returns c = record { law = lemmas.whole_sync }

use Rattle.braid_world.proofs.Eventful as lemmas
use Rattle.braid_world.proofs.laws.told_is_made.Goals as goal

pub returns : goal.returns
returns c = record { head = lemmas.head_is_posted; from = lemmas.from_is_resumed }

use Rattle.braid_store.proofs.Later.{given_and_left, left_longer}
use Rattle.braid_store.proofs.laws.cursors_give_what_is_sent.Goals as goal

pub returns-clause-whole : goal.returns-clause-whole
returns-clause-whole c = given_and_left

pub returns-clause-more : goal.returns-clause-more
returns-clause-more c = left_longer

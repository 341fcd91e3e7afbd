use Rattle.braid_world.proofs.Progress as lemmas
use Rattle.braid_world.proofs.laws.progress.Goals as goal

pub returns : goal.returns
returns c = record {
  learning = lemmas.learning_brings;
  sent = lemmas.sent_is_learnt;
  held = lemmas.frontier_is_held;
  had = lemmas.front_is_had;
  stays = lemmas.stays_beside;
  put = lemmas.put_is_taken;
  confirmed = lemmas.put_is_confirmed;
}

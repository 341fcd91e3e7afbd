use Rattle.braid_text.proofs.Public.{splice_any, own_seen}
use Rattle.braid_text.proofs.laws.splice_law.Goals as goal

pub returns : goal.returns
returns c = record { law = splice_any; seen = own_seen }

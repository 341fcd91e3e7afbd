use Rattle.braid_text.proofs.Digests.{ordered_exact, ordered_rises, same_digest}
use Rattle.braid_text.proofs.laws.one_digest.Goals as goal

pub returns : goal.returns
returns c = record { exact = ordered_exact; rising = ordered_rises; law = same_digest }

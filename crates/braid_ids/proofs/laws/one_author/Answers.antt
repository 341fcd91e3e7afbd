use Rattle.braid_ids.proofs.Named.{author_same}
use Rattle.braid_ids.proofs.laws.one_author.Goals as goal

pub returns : goal.returns
returns c = record { law = author_same }

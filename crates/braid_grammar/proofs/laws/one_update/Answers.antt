use Rattle.braid_grammar.proofs.OneUpdate as lemmas
use Rattle.braid_grammar.proofs.laws.one_update.Goals as goal

pub returns : goal.returns
returns c = record { law = lemmas.one_update; first = lemmas.first_same }

use Rattle.braid_check.proofs.OneText as lemmas
use Rattle.braid_check.proofs.laws.one_text.Goals as goal

pub returns : goal.returns
returns c = record { law = lemmas.one_text }

use Rattle.braid_text.proofs.Documents.{elements_exact, elements_differ, element_owned, origin_is}
use Rattle.braid_text.proofs.laws.elements_law.Goals as goal

pub returns : goal.returns
returns c = record { exact = elements_exact; keys = elements_differ; owned = element_owned; origins = origin_is }

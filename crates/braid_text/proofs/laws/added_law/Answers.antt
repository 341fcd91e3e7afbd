use Rattle.braid_text.proofs.Public.{versions_more, document_more, elements_more, deletions_more, level_more}
use Rattle.braid_text.proofs.laws.added_law.Goals as goal

pub returns : goal.returns
returns c = record { versions = versions_more; document = document_more; elements = elements_more; deletions = deletions_more; level = level_more }

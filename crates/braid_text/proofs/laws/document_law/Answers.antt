use Rattle.braid_text.proofs.Documents.{is_document, is_tree, nodes_differ}
use Rattle.braid_text.proofs.Public.{one_document, document_counted}
use Rattle.braid_text.proofs.laws.document_law.Goals as goal

pub returns : goal.returns
returns c = record { listed = is_document; tree = is_tree; one = one_document; counted = document_counted; keys = nodes_differ }

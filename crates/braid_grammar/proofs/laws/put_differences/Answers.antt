use Rattle.braid_grammar.proofs.PutDifferences.{length_passed, whole_body}
use Rattle.braid_grammar.proofs.laws.put_differences.Goals as goal

pub returns : goal.returns
returns c = record { length = length_passed; whole = whole_body }

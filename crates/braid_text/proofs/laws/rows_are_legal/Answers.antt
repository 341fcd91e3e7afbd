use Rattle.braid_text.proofs.Rows.{siblings, siblings_back, concurrent, concurrent_back, merge, merge_back, bodies}
use Rattle.braid_text.proofs.laws.rows_are_legal.Goals as goal

pub returns : goal.returns
returns c = record { siblings = siblings; siblings_back = siblings_back; concurrent = concurrent; concurrent_back = concurrent_back; merge = merge; merge_back = merge_back; bodies = bodies }

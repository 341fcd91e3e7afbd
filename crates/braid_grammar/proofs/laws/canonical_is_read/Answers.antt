use Rattle.braid_grammar.proofs.Canonical.{canonical_split}
use Rattle.braid_grammar.proofs.OneUpdate.{canonical_stream, canonical_first}
use Rattle.braid_grammar.proofs.laws.canonical_is_read.Goals as goal

pub returns : goal.returns
returns c = record {
  front = λ u h. let s = canonical_split u h in (s.front, s.rest, s.is_front, s.is_rest, s.spelled);
  stream = canonical_stream;
  first = canonical_first;
}

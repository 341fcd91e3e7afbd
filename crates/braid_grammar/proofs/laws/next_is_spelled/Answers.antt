use Rattle.braid_grammar.proofs.Spelled.{spelled_next}
use Rattle.braid_grammar.proofs.Back.{next_back}
use Rattle.braid_grammar.proofs.laws.next_is_spelled.Goals as goal

pub returns : goal.returns
returns c = record {
  found = λ u at to bytes rest e. let n = next_back at bytes u to rest e in (n.gap, n.first, n.is_gap, n.is_first, n.spelled, n.place);
  spelled = λ u at gap first rest g s. spelled_next u at gap first rest g s;
}

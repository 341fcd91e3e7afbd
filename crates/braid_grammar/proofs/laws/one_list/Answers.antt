use Rattle.braid_grammar.proofs.Completed as lemmas
use Rattle.braid_grammar.proofs.laws.one_list.Goals as goal

pub returns : goal.returns
returns c = record { one = lemmas.one_list; stream = lemmas.stream_completes }

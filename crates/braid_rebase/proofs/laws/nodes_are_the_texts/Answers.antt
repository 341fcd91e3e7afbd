use Rattle.braid_rebase.proofs.Counted.{nodes_chars, nodes_keys, nodes_counted}
use Rattle.braid_rebase.proofs.laws.nodes_are_the_texts.Goals as goal

pub returns : goal.returns
returns c = record { characters = nodes_chars; keys = nodes_keys; counted = nodes_counted }

use Rattle.braid_grammar.proofs.Puts.{puts_one, put_some, put_is_update}
use Rattle.braid_grammar.proofs.laws.one_put_reading.Goals as goal

pub returns : goal.returns
returns c = record { one = puts_one; some = put_some; built = put_is_update }

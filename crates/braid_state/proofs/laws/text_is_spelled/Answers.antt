use Rattle.braid_state.proofs.Spelled.{text_spells}
use Rattle.braid_state.proofs.laws.text_is_spelled.Goals as goal

pub returns : goal.returns
returns c = record { law = text_spells }

use Rattle.braid_session.proofs.Pieces.{pieces_spell, pieces_send}
use Rattle.braid_session.proofs.PieceData.{watch_is_stream}
use Rattle.braid_session.proofs.laws.subscription_is_a_stream.Goals as goal

pub returns : goal.returns
returns c = record { pieces = pieces_spell; updates = pieces_send; stream = watch_is_stream }

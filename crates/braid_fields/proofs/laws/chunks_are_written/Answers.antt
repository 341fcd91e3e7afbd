use Rattle.braid_fields.proofs.Hexadecimal.{written_chunk, beat_is}
use Rattle.braid_fields.proofs.laws.chunks_are_written.Goals as goal

pub returns : goal.returns
returns c = record { written = written_chunk; beats = beat_is }

use Rattle.braid_text.proofs.Documents.{seen_is, is_seen, seen_reading}
use Rattle.braid_text.proofs.laws.seen_law.Goals as goal

pub returns : goal.returns
returns c = record { exact = λ H legal F held x. (seen_is H legal F held x, is_seen H legal F held x); reading = seen_reading }

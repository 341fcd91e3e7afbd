use Rattle.braid_text.proofs.Public.{room_versions}
use Rattle.std.proofs.Common.{refl}
use Rattle.braid_text.proofs.laws.room_law.Goals as goal

pub returns : goal.returns
returns c = record { versions = room_versions; elements = λ limits H. refl; deletions = λ limits H. refl; width = λ limits H. refl }

use Rattle.std.proofs.Common.{refl}
use Rattle.braid_frame.proofs.LinesKept.{clean_update}
use Rattle.braid_frame.proofs.Stood.{none_stands}
use Rattle.braid_frame.proofs.framer.Framer.new.Goals as goal

pub invariant_of-result : goal.invariant_of-result
invariant_of-result c = clean_update _ _ c.new.ensures.items refl

pub returns-clause-stands : goal.returns-clause-stands
returns-clause-stands c = record { framing = clean_update _ _ c.new.ensures.items refl; stands = none_stands _ c.new.ensures.items }

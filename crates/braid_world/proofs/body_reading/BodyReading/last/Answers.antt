use Rattle.braid_world.proofs.BodySteps.{at_end}
use Rattle.braid_world.proofs.body_reading.BodyReading.last.Goals as goal

pub returns-clause-ends : goal.returns-clause-ends
returns-clause-ends c us content h g all = at_end c.next.result us content c.next.new.self all (c.next.ensures.answers us content g h)

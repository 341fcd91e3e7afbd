use Rattle.braid_session.specs.Orders.{serving_now}
use Rattle.braid_session.specs.DoorSteps.{HasServed}
use Rattle.braid_session.proofs.door.serve_links.Given as goal

abbrev pub invariant-loop : goal.invariant-loop
invariant-loop g l = HasServed serving_now l.notes.items l.initial.pass l.pass (g.D.Door.doorway l.initial.door) (g.D.Door.doorway l.door) (g.L.Bell.ringing l.initial.bell) (g.L.Bell.ringing l.bell)

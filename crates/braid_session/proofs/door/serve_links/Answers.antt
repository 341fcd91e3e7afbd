use Rattle.std.proofs.Common.{◌∙◌}
use Rattle.braid_session.specs.Orders.{serving_now}
use Rattle.braid_session.proofs.AtDoors.{served_none, served_more, ended}
use Rattle.braid_session.proofs.door.serve_links.Goals as goal

pub loop-init : goal.loop-init
loop-init g c = rw c.requires.none (served_none serving_now _ _ _ c.requires.idle)

pub serve_next-requires-clause-hall : goal.serve_next-requires-clause-hall
serve_next-requires-clause-hall g c κs within = c.loop.invariant.passed.hall ∙ c.requires.hall

pub serve_next-requires-clause-idle : goal.serve_next-requires-clause-idle
serve_next-requires-clause-idle g c κs within = c.loop.invariant.passed.idle

pub returns-in-Some-serve_next : goal.returns-in-Some-serve_next
returns-in-Some-serve_next g c = record {
  ended = ended serving_now _ _ _ _ _ _ _ _ _ _ _ c.in-Some-serve_next.end c.loop.invariant c.in-Some-serve_next.ensures.accepted;
}

pub loop-preserved : goal.loop-preserved
loop-preserved g c = served_more serving_now _ _ _ _ _ _ _ _ _ _ _ c.loop.invariant c.in-None-serve_next.ensures.accepted

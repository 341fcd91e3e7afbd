use Rattle.std.proofs.Common.{sym}
use Rattle.std.proofs.lemmas.Bool.{ltb-true, ltb-false}
use Rattle.braid_world.specs.Events.{KeepsReplica}
use Rattle.braid_world.proofs.Nth.{all_read}
use Rattle.braid_world.proofs.Told.{back_none, back_far, back_there}
use Rattle.braid_world.proofs.replica_calls.go_back.Goals as goal

pub kept_replica-requires : goal.kept_replica-requires
kept_replica-requires c = record { kept = all_read KeepsReplica c.args.sides.now c.args.a c.in-Some.side.now c.requires.kept (ltb-true _ _ (sym c.in-Some.ensures.lookup.0)) c.in-Some.ensures.lookup.1 }

pub returns-in_default-clause-ok : goal.returns-in_default-clause-ok
returns-in_default-clause-ok c = back_none c.args.a c.args.sides.now c.args.replicas.now (ltb-false _ _ (sym c.in_default.ensures.lookup.0))

pub returns-then-at-replicas-clause-ok : goal.returns-then-at-replicas-clause-ok
returns-then-at-replicas-clause-ok c = back_there c.args.a c.args.sides.now c.in-Some.side.now c.args.replicas.now c.in_ok-kept.kept (ltb-true _ _ (sym c.in-Some.ensures.lookup.0)) c.in-Some.ensures.lookup.1 c.in_ok-kept.ensures.ok

pub returns-else-at-replicas-clause-ok : goal.returns-else-at-replicas-clause-ok
returns-else-at-replicas-clause-ok c = back_far c.args.a c.args.sides.now c.in-Some.side.now c.args.replicas.now (ltb-true _ _ (sym c.in-Some.ensures.lookup.0)) c.in-Some.ensures.lookup.1 c.if-at-replicas.false

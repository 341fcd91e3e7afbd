use Rattle.std.proofs.Common.{sym, inr}
use Rattle.braid_text.specs.Rooms.{replica_limits}
use Rattle.braid_outbox.specs.Replicas.{ReplicaView}
use Rattle.braid_outbox.specs.Writes.{write}
use Rattle.braid_world.proofs.Changed.{changed_far, set_read, set_merges}
use Rattle.braid_world.proofs.Unwritten.{ok_map, err_map}
use Rattle.braid_world.proofs.replica_calls.write_at.Goals as goal

pub returns-then-at-replicas-clause-ok : goal.returns-then-at-replicas-clause-ok
returns-then-at-replicas-clause-ok c = sym (changed_far c.args.a (λ (r : ReplicaView). write replica_limits r c.args.change) c.args.replicas.now c.if-at-replicas.true)

pub returns-clause-ok : goal.returns-clause-ok
returns-clause-ok c = ok_map _ _ c.write_one.result c.write_one.ensures.ok (set_read c.args.a (λ (r : ReplicaView). write replica_limits r c.args.change) c.args.replicas.now c.index-replicas-at.result c.write_one.new.replica c.if-at-replicas.false c.index-replicas-at.is)

pub returns-clause-err : goal.returns-clause-err
returns-clause-err c = err_map _ _ c.write_one.result c.write_one.ensures.err (λ h. inr (set_merges c.args.a c.args.change c.args.replicas.now c.index-replicas-at.result c.write_one.new.replica c.if-at-replicas.false c.index-replicas-at.is h))

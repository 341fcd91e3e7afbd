use Rattle.std.proofs.Common.{◌≡◌, sym, subst}
use Rattle.std.specs.Result.{OnOk}
use Rattle.braid_text.specs.Rooms.{replica_limits}
use Rattle.braid_outbox.specs.Writes.{write}
use Rattle.braid_world.proofs.Unwritten.{left_as, ok_map}
use Rattle.braid_world.proofs.replica_calls.write_one.Goals as goal
use Rattle.braid_world.proofs.replica_calls.write_one.Goals.{in-Ok, in-Err}

pub returns-clause-ok : goal.returns-clause-ok
returns-clause-ok c = elim c.match-write.branch [
  | in-Ok w ↦ subst (λ r. OnOk r (c.write.new.self ≡ write replica_limits c.args.replica.now c.args.change)) (sym w.result-is) w.in-Ok.ensures.written
  | in-Err w ↦ subst (λ r. OnOk r (c.write.new.self ≡ write replica_limits c.args.replica.now c.args.change)) (sym w.result-is) (ok_map _ _ w.refused.result w.refused.ensures.ok (λ other. left_as replica_limits c.args.replica.now c.write.new.self c.args.change w.in-Err.fault w.in-Err.ensures.fault other (w.in-Err.ensures.kept other)))
]

use Rattle.std.proofs.Common.{arith, rules}
use Rattle.braid_text.specs.Rooms.{replica_limits}
use Rattle.braid_client.proofs.Slices.{written_lines}
use Rattle.braid_client.proofs.local.write_change.Goals.{in-Ok+in_ok-wrote_text-in-Ok, in-Err-Memory, in-Err}
use Rattle.braid_client.proofs.local.write_change.Goals as goal

pub returns-clause-ok : goal.returns-clause-ok
returns-clause-ok c =
    let a = c.confirmed.ensures.count in
    let b = c.unsent.ensures.count in
    elim c.match-write.branch [
      | in-Ok+in_ok-wrote_text-in-Ok w ↦ rw w.result-is (written_lines replica_limits c.args.replica.now c.write.new.self c.args.change _ _ w.in-Ok.ensures.due w.in-Ok.ensures.written (omega (arith, a, b)) w.in_ok-wrote_text-in-Ok.ensures.ok)
      | in-Err-Memory w ↦ rw w.result-is tt
      | in-Err w ↦ rw w.result-is tt
    ]

pub returns-clause-fault : goal.returns-clause-fault
returns-clause-fault c =
    elim c.match-write.branch [
      | in-Ok+in_ok-wrote_text-in-Ok w ↦ rw w.result-is tt
      | in-Err-Memory w ↦ rw w.result-is tt
      | in-Err w ↦ search rules
    ]

use Rattle.std.proofs.Common.{◌≡◌, take, length, arith, ap}
use Rattle.braid_text.specs.Puts.{total_len}
use Rattle.braid_text.proofs.Putting.{total_more, total_left}
use Rattle.braid_text.proofs.judging.total_len.Goals as goal

pub loop-run-preserved : goal.loop-run-preserved
loop-run-preserved c =
    let i = c.loop-run.run-index in
    let runs = c.args.runs.now in
    let inv : c.loop-run.len ≡ total_len (take i runs) = c.loop-run.invariant in
    let more = total_more runs i c.run-item.result c.loop-run-test.true c.run-item.is in
    omega (arith, inv, more, ap length c.chars.ensures.value)

pub overflow_add-len : goal.overflow_add-len
overflow_add-len c = omega (arith, c.loop-run.invariant, total_left c.args.runs.now c.loop-run.run-index c.run-item.result c.loop-run-test.true c.run-item.is, c.requires.few, ap length c.chars.ensures.value)

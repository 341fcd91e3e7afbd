use Rattle.std.proofs.Common.{◌≤◌, length, arith, length-take}
use Rattle.braid_http.proofs.BodyReading.{data_got, data_ended, data_failed}
use Rattle.braid_http.proofs.body.Body.read_data.Goals as goal

pub returns-in-Got-clause-reads : goal.returns-in-Got-clause-reads
returns-in-Got-clause-reads g c content b is =
    let d = c.in-Got.ensures.draws in
    let l : length c.next_bytes.new.buf ≤ c.room-n.result = omega (arith, c.next_bytes.auto.buf, length-take c.room-n.result c.args.buf.now) in
    data_got c.args.next c.in-Got.n c.room-n.result (length c.args.buf.now) c.args.self.now c.take.new.self content b c.next_bytes.new.buf _ _ _ _ _ c.room-n.ensures.room l d.1 d.2 c.take.ensures.takes is

pub returns-in-End-clause-reads : goal.returns-in-End-clause-reads
returns-in-End-clause-reads g c content b is =
    data_ended c.end.result c.args.next c.args.self.now c.end.new.self _ content b _ _ _ _ c.in-End.ensures.draws c.end.ensures.ends is

pub returns-in-End-clause-answer : goal.returns-in-End-clause-answer
returns-in-End-clause-answer g c = c.end.ensures.answer _

pub returns-in-Failed-clause-answer : goal.returns-in-Failed-clause-answer
returns-in-Failed-clause-answer g c = rw c.fail.ensures.failed c.fail.ensures.rises

pub returns-in-Failed-clause-reads : goal.returns-in-Failed-clause-reads
returns-in-Failed-clause-reads g c content b is =
    data_failed c.fail.result c.args.next c.args.self.now c.fail.new.self _ content b _ _ _ _ c.in-Failed.ensures.draws c.fail.ensures.failed c.fail.ensures.value is

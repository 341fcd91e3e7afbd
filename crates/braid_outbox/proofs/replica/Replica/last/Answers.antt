use Rattle.std.proofs.Common.{Some, arith, ap, sym, length-append, ◌∙◌, ◌+◌, ◌-◌}
use Rattle.braid_ids.proofs.Members.{no_gap}
use Rattle.braid_outbox.specs.Replicas.{all_of}
use Rattle.braid_outbox.proofs.Loaded.{last_entry}
use Rattle.braid_outbox.proofs.replica.Replica.last.Goals as goal

pub returns-in-Some : goal.returns-in-Some
returns-in-Some c = record { last = ap Some c.id.ensures.value ∙ sym (last_entry c.args.self.now c.unsent-unsent.result (c.confirmed.result + c.unsent-unsent.result - 1) c.in-Some.last.now c.unsent-unsent.ensures.count c.if-unsent-eq0.false (omega (arith, c.confirmed.ensures.count)) c.in-Some.ensures.value) }

pub returns-in-None : goal.returns-in-None
returns-in-None c = record {
  last = absurd (no_gap (all_of c.args.self.now) (c.confirmed.result + c.unsent-unsent.result - 1)
      (omega (arith, c.confirmed.ensures.count, c.unsent-unsent.ensures.count, c.if-unsent-eq0.false, length-append c.args.self.now.confirmed c.args.self.now.unsent)) (sym c.in-None.ensures.value));
}

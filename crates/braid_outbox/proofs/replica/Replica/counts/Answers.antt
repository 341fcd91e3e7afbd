use Rattle.std.proofs.Common.{length, sym, ap, subst, arith, ◌∙◌}
use Rattle.braid_change.specs.Splices.{IsSpliceFault}
use Rattle.braid_text.specs.Histories.{text_of}
use Rattle.braid_outbox.specs.Replicas.{all_of}
use Rattle.braid_outbox.proofs.Shapes.{shaped_from}
use Rattle.braid_outbox.proofs.Written.{text_few, change_inserts, change_removes}
use Rattle.braid_outbox.proofs.replica.Replica.counts.Goals as goal

pub overflow_cast-chars : goal.overflow_cast-chars
overflow_cast-chars c = omega (arith, ap length c.chars.ensures.value, ap length c.in-Ok.ensures.ok, text_few c.args.self.now c.confirmed-confirmed.ensures.fine.elements)

pub counts_of-requires : goal.counts_of-requires
counts_of-requires c = record { shaped = (shaped_from c.args.change.now c.requires.shaped).0 }

pub returns-in-Ok-counts_of-clause-elements : goal.returns-in-Ok-counts_of-clause-elements
returns-in-Ok-counts_of-clause-elements c = let s = c.in-Ok-counts_of.ensures.ok (text_of (all_of c.args.self.now)) (sym (ap length (c.chars.ensures.value ∙ c.in-Ok.ensures.ok))) in change_inserts c.args.self.now c.args.change.now s.0 _ s.1 s.2

pub returns-in-Ok-counts_of-clause-deletions : goal.returns-in-Ok-counts_of-clause-deletions
returns-in-Ok-counts_of-clause-deletions c = let s = c.in-Ok-counts_of.ensures.ok (text_of (all_of c.args.self.now)) (sym (ap length (c.chars.ensures.value ∙ c.in-Ok.ensures.ok))) in change_removes c.args.self.now c.args.change.now s.0 _ c.requires.shaped s.1 s.3

pub returns-in-Err-OutOfRange-clause-fault : goal.returns-in-Err-OutOfRange-clause-fault
returns-in-Err-OutOfRange-clause-fault c =
    let t = text_of (all_of c.args.self.now) in
    let f = subst (IsSpliceFault t c.args.change.now) c.in-Err-OutOfRange.field-0-is (c.in-Err-OutOfRange.ensures.fault t (sym (ap length (c.chars.ensures.value ∙ c.in-Ok.ensures.ok)))) in
    ((shaped_from c.args.change.now c.requires.shaped).0, f.0, f.1)

use Rattle.std.proofs.Common.{◌∙◌, refl, subst, sym, []}
use Rattle.braid_stream.proofs.Budgets as lemmas
use Rattle.braid_check.specs.Kept.{Keeps}
use Rattle.braid_check.proofs.Legal.{keeps_none, taken_on, refused_here, accepts_either, accepts_neither}
use Rattle.braid_check.proofs.Stopped.{read_none, read_on, stop_end, stop_torn, stop_fault, stop_read_fault, stop_spent, stop_refused, some_at_memory, some_at_update, update_is, read_as}
use Rattle.braid_check.proofs.reading.read_history.Goals as goal
use Rattle.braid_check.proofs.reading.read_history.Goals.{in-End, in-Torn, in-Fault, in-ReadFault, in-Spent, in-Update+in_default}

pub reading-init : goal.reading-init
reading-init g c =
    let n = c.new-reader.ensures in
    record { read = read_none c.new-reader.result c.new-resource.result _ n.none n.going (subst (Keeps []) (sym c.new-resource.ensures.none) keeps_none); kept = refl }

pub returns-in-Memory-clause-err : goal.returns-in-Memory-clause-err
returns-in-Memory-clause-err g c =
    let s = c.reading.invariant.read in
    some_at_memory c.reading.reader c.next.new.self c.reading.resource _ _ _ s (c.in-Memory.ensures.answers s.updates s.bytes s.going s.taken)

pub reading-smaller : goal.reading-smaller
reading-smaller g c =
    let s = c.reading.invariant.read in
    lemmas.budget_falls s.updates s.bytes c.in-Update.update c.reading.reader c.next.new.self _ _ s.taken (c.in-Update.ensures.answers s.updates s.bytes s.going s.taken)

pub reading-preserved : goal.reading-preserved
reading-preserved g c =
    let s = c.reading.invariant.read in
    let a = c.in-Update.ensures.answers s.updates s.bytes s.going s.taken in
    let t = c.take_update.ensures in
    record {
      read = read_on c.reading.reader c.next.new.self c.reading.resource c.take_update.new.resource c.in-Update.update _ _ _ s a
          (taken_on s.updates c.reading.resource c.take_update.new.resource c.in-Update.update c.take_update.result s.keeps (update_is s.updates s.bytes c.in-Update.update c.next.new.self _ _ a) t.answer t.taken t.kept (accepts_either c.take_update.result c.in-New.is));
      kept = c.in-Update.ensures.kept ∙ c.reading.invariant.kept;
    }

pub returns-in-Memory-take_update-clause-err : goal.returns-in-Memory-take_update-clause-err
returns-in-Memory-take_update-clause-err g c =
    let s = c.reading.invariant.read in
    some_at_update c.reading.reader c.next.new.self c.reading.resource c.in-Update.update _ _ _ s (c.in-Update.ensures.answers s.updates s.bytes s.going s.taken)

pub returns-clause-ok : goal.returns-clause-ok
returns-clause-ok g c =
    let s = c.reading.invariant.read in
    elim c.match-next.branch [
      | in-End w ↦ read_as _ _ _ _ _ _ w.resource-is w.stop-is (stop_end c.reading.reader c.next.new.self c.reading.resource _ _ _ s (w.in-End.ensures.answers s.updates s.bytes s.going s.taken))
      | in-Torn w ↦ read_as _ _ _ _ _ _ w.resource-is w.stop-is (stop_torn c.reading.reader c.next.new.self c.reading.resource _ _ _ _ s (w.in-Torn.ensures.answers s.updates s.bytes s.going s.taken))
      | in-Fault w ↦ read_as _ _ _ _ _ _ w.resource-is w.stop-is (stop_fault c.reading.reader c.next.new.self c.reading.resource _ _ _ _ s (w.in-Fault.ensures.answers s.updates s.bytes s.going s.taken))
      | in-ReadFault w ↦ read_as _ _ _ _ _ _ w.resource-is w.stop-is (stop_read_fault c.reading.reader c.next.new.self c.reading.resource _ _ _ s (w.in-ReadFault.ensures.answers s.updates s.bytes s.going s.taken))
      | in-Spent w ↦ read_as _ _ _ _ _ _ w.resource-is w.stop-is (stop_spent c.reading.reader c.next.new.self c.reading.resource _ _ _ s (w.in-Spent.ensures.answers s.updates s.bytes s.going s.taken))
      | in-Update+in_default w ↦
          let a = w.in-Update.ensures.answers s.updates s.bytes s.going s.taken in
          let u = w.in-Update.update in
          let t = w.take_update.ensures in
          let d = w.in_default in
          let r = refused_here s.updates c.reading.resource w.take_update.new.resource u w.take_update.result s.keeps (update_is s.updates s.bytes u c.next.new.self _ _ a) t.answer t.kept (accepts_neither w.take_update.result d.not-New d.not-Known) d.not-Memory in
          read_as _ _ _ _ _ _ w.resource-is w.stop-is (stop_refused c.reading.reader c.next.new.self c.reading.resource w.take_update.new.resource u w.take_update.result _ _ _ s a r.refused r.told r.keeps)
    ]

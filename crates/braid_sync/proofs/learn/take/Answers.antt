use Rattle.std.proofs.Common.{refl}
use Rattle.braid_outbox.specs.declared.learn.Learn.TheVariants as learns
use Rattle.braid_sync.specs.declared.end.SyncEnd.TheVariants as ends
use Rattle.braid_sync.proofs.Learned.{refused_as}
use Rattle.braid_sync.proofs.learn.take.Goals as goal

pub returns-in-OutOfRange : goal.returns-in-OutOfRange
returns-in-OutOfRange c =
    let w = c.in-OutOfRange in
    record { takes = refused_as (ends.OutOfRange w.patch w.len) (learns.OutOfRange w.patch w.len) c.args.replica.now c.args.update c.learn.new.self refl (λ e. cc) w.ensures.answer w.ensures.learnt }

pub returns-in-Full : goal.returns-in-Full
returns-in-Full c =
    let w = c.in-Full in
    record { takes = refused_as (ends.Full w.which w.limit) (learns.Full w.which w.limit) c.args.replica.now c.args.update c.learn.new.self refl (λ e. cc) w.ensures.answer w.ensures.learnt }

pub returns-in-Clash : goal.returns-in-Clash
returns-in-Clash c =
    let w = c.in-Clash in
    record { takes = refused_as (ends.Clash w.id) (learns.Clash w.id) c.args.replica.now c.args.update c.learn.new.self refl (λ e. cc) w.ensures.answer w.ensures.learnt }

pub returns-in-UnknownParent : goal.returns-in-UnknownParent
returns-in-UnknownParent c =
    let w = c.in-UnknownParent in
    record { takes = refused_as (ends.UnknownParent w.id) (learns.UnknownParent w.id) c.args.replica.now c.args.update c.learn.new.self refl (λ e. cc) w.ensures.answer w.ensures.learnt }

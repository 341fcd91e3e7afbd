use Rattle.std.proofs.Common.{[], inr, arith, ap, subst, length-append, ◌∙◌}
use Rattle.std.proofs.lemmas.Result.{err_from_is_err_and}
use Rattle.braid_change.specs.Updates.{UpdateView}
use Rattle.std.specs.Prelude.{List}
use Rattle.braid_outbox.specs.Replicas.{ReplicaView, all_of}
use Rattle.braid_outbox.specs.Made.{IsFirstFault, IsBadReplica}
use Rattle.braid_outbox.proofs.Written.{fault_passed}
use Rattle.braid_outbox.proofs.Loaded.{frontier_few, first_fault, second_fault, too_wide, makes}
use Rattle.braid_outbox.proofs.replica.Replica.of.Goals as goal

pub returns-in_err-load_confirmed-clause-fault : goal.returns-in_err-load_confirmed-clause-fault
returns-in_err-load_confirmed-clause-fault c =
    let q = err_from_is_err_and c.from_residual.result c.from_residual.ensures.1 in
    let f = c.in_err-load_confirmed.field-0.0 in
    fault_passed (IsBadReplica c.args.confirmed.items c.args.unsent.items) c.from_residual.result q.0 f q.1 q.2
    (first_fault c.args.confirmed.items c.args.unsent.items f (subst (λ (C : List UpdateView). IsFirstFault C [] f) c.deref.ensures.value c.in_err-load_confirmed.ensures.fault))

pub returns-in_err-load_unsent-clause-fault : goal.returns-in_err-load_unsent-clause-fault
returns-in_err-load_unsent-clause-fault c =
    let q = err_from_is_err_and c.from_residual-in_err-load_unsent.result c.from_residual-in_err-load_unsent.ensures.1 in
    let f = c.in_err-load_unsent.field-0.0 in
    fault_passed (IsBadReplica c.args.confirmed.items c.args.unsent.items) c.from_residual-in_err-load_unsent.result q.0 f q.1 q.2
    (second_fault c.load_confirmed.new.self.confirmed c.args.confirmed.items c.args.unsent.items f (ap (λ (r : ReplicaView). r.confirmed) c.in_ok-load_confirmed.ensures.ok ∙ c.deref.ensures.value)
    (subst (λ (O : List UpdateView). IsFirstFault c.load_confirmed.new.self.confirmed O f) c.deref-2.ensures.value c.in_err-load_unsent.ensures.fault))

pub overflow_sub-result : goal.overflow_sub-result
overflow_sub-result c = let q = c.load_unsent.new.self in
    omega (arith, c.if-width.true, c.width.ensures.width, frontier_few (all_of q), length-append q.confirmed q.unsent, c.confirmed.ensures.count, c.unsent.ensures.count)

pub returns-then-width-clause-fault : goal.returns-then-width-clause-fault
returns-then-width-clause-fault c = let q = c.load_unsent.new.self in
    inr (too_wide q c.args.confirmed.items c.args.unsent.items c.width.result _
    (ap (λ (r : ReplicaView). r.confirmed) c.in_ok-load_unsent.ensures.ok ∙ ap (λ (r : ReplicaView). r.confirmed) c.in_ok-load_confirmed.ensures.ok ∙ c.deref.ensures.value)
    (ap (λ (r : ReplicaView). r.unsent) c.in_ok-load_unsent.ensures.ok ∙ c.deref-2.ensures.value)
    c.confirmed.ensures.fine c.width.ensures.width (omega (arith, c.if-width.true))
    (omega (arith, c.if-width.true, c.width.ensures.width, frontier_few (all_of q), length-append q.confirmed q.unsent, c.confirmed.ensures.count, c.unsent.ensures.count)))

pub returns-clause-made : goal.returns-clause-made
returns-clause-made c = let q = c.load_unsent.new.self in
    makes q c.args.confirmed.items c.args.unsent.items c.width.result
    (ap (λ (r : ReplicaView). r.confirmed) c.in_ok-load_unsent.ensures.ok ∙ ap (λ (r : ReplicaView). r.confirmed) c.in_ok-load_confirmed.ensures.ok ∙ c.deref.ensures.value)
    (ap (λ (r : ReplicaView). r.unsent) c.in_ok-load_unsent.ensures.ok ∙ c.deref-2.ensures.value)
    c.confirmed.ensures.fine c.width.ensures.width (omega (arith, c.if-width.false))

use Rattle.std.proofs.Common.{subst, arith}
use Rattle.braid_change.proofs.Built.{built_faultless}
use Rattle.braid_grammar.specs.Readings.{change_at}
use Rattle.braid_grammar.specs.Readers.{Finds}
use Rattle.braid_grammar.proofs.ReadUpdates.{planned_is_built}
use Rattle.braid_grammar.proofs.update.read_asked.Goals as goal

pub build-requires : goal.build-requires
build-requires c =
    let e = subst (λ f. Finds f (change_at c.args.plan.asks c.args.at c.args.bytes.now)) c.in-Whole.is c.in_ok-read_change.ensures in
    let b = planned_is_built c.args.plan c.in-Whole.change c.args.at c.args.bytes.now c.in-Whole.last c.in-Whole.rest.now c.requires.planned e in
    record { counted = omega (arith, b.shaped.few) }

pub unreachable-requires : goal.unreachable-requires
unreachable-requires c =
    let e = subst (λ f. Finds f (change_at c.args.plan.asks c.args.at c.args.bytes.now)) c.in-Whole.is c.in_ok-read_change.ensures in
    let b = planned_is_built c.args.plan c.in-Whole.change c.args.at c.args.bytes.now c.in-Whole.last c.in-Whole.rest.now c.requires.planned e in
    built_faultless c.args.plan.parents c.in-Whole.change c.in_default.field-0 b c.in_default.ensures.fault

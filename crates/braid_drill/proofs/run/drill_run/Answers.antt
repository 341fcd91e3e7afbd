use Rattle.std.proofs.Common.{ℕ, List, refl, subst}
use Rattle.braid_io.specs.declared.status.Status.TheVariants.{Done}
use Rattle.braid_lines.specs.Prints.{IsPrinted}
use Rattle.braid_drill.specs.Runs.{drilled, no_memory}
use Rattle.braid_drill.proofs.run.drill_run.Goals as goal

pub returns-in-Ok-clause-runs : goal.returns-in-Ok-clause-runs
returns-in-Ok-clause-runs g c =
    drilled c.in-Some.asked c.in-Ok.text c.in-Some.ensures.form c.in-Ok.ensures.ok
    (subst (λ (t : List ℕ). IsPrinted t Done c.print.result (g.O.Sink.outflow c.args.out.now) (g.O.Sink.outflow c.print.new.out)) c.get.ensures.value c.print.ensures.prints)

pub returns-in-Err-clause-runs : goal.returns-in-Err-clause-runs
returns-in-Err-clause-runs g c = no_memory c.in-Some.asked c.in-Some.ensures.form refl refl

use Rattle.std.proofs.Common.{rules, refl, sym, subst}
use Rattle.braid_io.specs.declared.status.Status.{Status}
use Rattle.braid_io.specs.declared.status.Status.TheVariants.{Outside}
use Rattle.braid_lines.specs.Prints.{IsPrinted, EndsAsUsage}
use Rattle.braid_server.specs.Texts.{port_fault_line}
use Rattle.braid_server.specs.Runs.{no_form, no_port, opened}
use Rattle.braid_server.proofs.serve.serve_run.Goals as goal

pub returns-in-Err-NoForm-clause-runs : goal.returns-in-Err-NoForm-clause-runs
returns-in-Err-NoForm-clause-runs g c =
    no_form (c.in-Err-NoForm.ensures.no (search rules)) c.none_served.ensures.none refl
    (subst (λ (s : Status). EndsAsUsage s (g.O.Sink.outflow c.args.out.now) (g.O.Sink.outflow c.refuse_words.new.out)) (sym c.none_served.ensures.status) c.refuse_words.ensures.refused)

pub returns-in-Up-clause-runs : goal.returns-in-Up-clause-runs
returns-in-Up-clause-runs g c =
    opened c.in-Ok.asked c.in-Up.pairs.items c.in-Ok.ensures.ok (record { many = c.in-Up.ensures.open.0; fresh = c.in-Up.ensures.open.1; noted = c.in-Up.ensures.open.2 }) c.serve_pairs.ensures.serves

pub returns-in-Failed-clause-runs : goal.returns-in-Failed-clause-runs
returns-in-Failed-clause-runs g c =
    no_port c.in-Ok.asked c.in-Ok.ensures.ok c.none_served-in-Failed.ensures.none
    (record { noted = c.in-Failed.ensures.open.0; never_falls = c.in-Failed.ensures.open.1; rose = c.in-Failed.ensures.open.2 })
    (subst (λ (s : Status). IsPrinted port_fault_line Outside s (g.O.Sink.outflow c.args.out.now) (g.O.Sink.outflow c.print.new.out)) (sym c.none_served-in-Failed.ensures.status)
    c.print.ensures.prints)

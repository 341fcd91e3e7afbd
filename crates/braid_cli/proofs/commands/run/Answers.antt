use Rattle.std.proofs.Common.{refl, sym, ap, ◌∙◌, Some}
use Rattle.braid_cli.specs.declared.table.Run.{Run}
use Rattle.braid_cli.specs.Picks.{checks, serves, asks, drills, refuses}
use Rattle.braid_cli.proofs.commands.run.Goals as goal

pub returns-in-Some-Check : goal.returns-in-Some-Check
returns-in-Some-Check g c =
    let picked = sym c.run_of.ensures.value ∙ (c.in-Some-Check.is ∙ ap (λ (run : Run). Some run) c.in-Some-Check.field-0-is) in
    record {
      picks = checks picked refl refl c.check_run.ensures.runs c.check_run.ensures.completes;
      hung_up = refl;
      kept = c.check_run.ensures.kept;
    }

pub returns-in-Some-Serve : goal.returns-in-Some-Serve
returns-in-Some-Serve g c =
    let picked = sym c.run_of.ensures.value ∙ (c.in-Some-Serve.is ∙ ap (λ (run : Run). Some run) c.in-Some-Serve.field-0-is) in
    record {
      picks = serves c.serve_run-served.result picked refl refl refl c.serve_run-served.ensures.runs;
      hung_up = refl;
      kept = (refl, c.serve_run-served.ensures.kept);
    }

pub returns-in-Some-Client : goal.returns-in-Some-Client
returns-in-Some-Client g c =
    let picked = sym c.run_of.ensures.value ∙ (c.in-Some-Client.is ∙ ap (λ (run : Run). Some run) c.in-Some-Client.field-0-is) in
    record {
      picks = asks picked refl refl c.client_run.ensures.runs;
      hung_up = c.client_run.ensures.hung_up;
      kept = (refl, c.client_run.ensures.kept);
    }

pub returns-in-Some-Drill : goal.returns-in-Some-Drill
returns-in-Some-Drill g c =
    let picked = sym c.run_of.ensures.value ∙ (c.in-Some-Drill.is ∙ ap (λ (run : Run). Some run) c.in-Some-Drill.field-0-is) in
    record {
      picks = drills picked refl refl c.drill_run.ensures.runs;
      hung_up = refl;
      kept = (refl, c.drill_run.ensures.kept);
    }

pub returns-in-None : goal.returns-in-None
returns-in-None g c =
    record {
      picks = refuses (sym c.run_of.ensures.value ∙ c.in-None.is) refl refl c.refuse_words.ensures.refused;
      hung_up = refl;
      kept = (refl, c.refuse_words.ensures.kept);
    }

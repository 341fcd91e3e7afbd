use Rattle.std.proofs.Common.{refl, ◌∙◌}
use Rattle.braid_check.proofs.Stopped.{some_read, checked, runs_printed}
use Rattle.braid_check.proofs.check.check_stream.Goals as goal

pub returns-in_default-report-clause-runs : goal.returns-in_default-report-clause-runs
returns-in_default-report-clause-runs g c = (some_read c.in-Ok.resource c.in-Ok.stop _ _ c.in-Ok.ensures.ok, refl)

pub returns-clause-runs : goal.returns-clause-runs
returns-clause-runs g c =
    runs_printed c.in-Ok.stop c.status.result _ c.get.result.now _ _ _ _ c.status.ensures.value
    (checked c.in-Ok.resource c.in-Ok.stop _ _ c.get.result.now c.in-Ok.ensures.ok (c.get.ensures.value ∙ c.in-Ok-report.ensures.ok)) c.print.ensures.prints

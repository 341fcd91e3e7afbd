use Rattle.std.proofs.Common.{ap, ◌∙◌}
use Rattle.braid_store.specs.Cursors.{CursorView}
use Rattle.braid_store.proofs.Stepping.{fits_first}
use Rattle.braid_store.proofs.reading.open_on.Goals as goal

pub returns-clause-fits : goal.returns-clause-fits
returns-clause-fits c = fits_first c.args.resource.now c.new.result c.args.from.now c.in_ok-marks.marks c.in_ok-marks.ensures.ok (ap (λ (t : CursorView). t.from) c.new.ensures.new ∙ c.in-Ok-copy.ensures.ok) (ap (λ (t : CursorView). t.marks) c.new.ensures.new) (ap (λ (t : CursorView). t.passed) c.new.ensures.new)

use Rattle.braid_spans.proofs.Cutting.{alike_then}
use Rattle.braid_spans.proofs.editing.set_apart.Goals as goal

pub returns-clause-alike : goal.returns-clause-alike
returns-clause-alike c = alike_then c.args.runs.now.list c.cut.new.runs.list c.keep_front-2.new.runs.list c.cut.ensures.alike c.keep_front-2.ensures.alike

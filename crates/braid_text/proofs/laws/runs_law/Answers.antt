use Rattle.std.proofs.Common.{refl}
use Rattle.braid_text.proofs.Insertions.{most_runs_more}
use Rattle.braid_text.proofs.laws.runs_law.Goals as goal

pub returns : goal.returns
returns c = record { none = refl; more = most_runs_more }

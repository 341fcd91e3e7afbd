use Rattle.braid_rebase.proofs.Stands.{ranges_listed, resolved_runs, resolved_deletes}
use Rattle.braid_rebase.proofs.laws.resolves_what_is_added.Goals as goal

pub returns : goal.returns
returns c = record { ranges = ranges_listed; runs = resolved_runs; deletes = resolved_deletes }

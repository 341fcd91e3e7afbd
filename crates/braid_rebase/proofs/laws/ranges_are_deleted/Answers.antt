use Rattle.braid_rebase.proofs.Counted.{deleted_exact, deleted_counted}
use Rattle.braid_rebase.proofs.laws.ranges_are_deleted.Goals as goal

pub returns : goal.returns
returns c = record { exact = deleted_exact; counted = deleted_counted }

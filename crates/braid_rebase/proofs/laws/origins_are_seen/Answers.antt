use Rattle.std.proofs.Common.{refl}
use Rattle.braid_rebase.proofs.Counted.{nodes_apart, origin_seen, run_first, run_following}
use Rattle.braid_rebase.proofs.laws.origins_are_seen.Goals as goal

pub returns : goal.returns
returns c = record { runs = nodes_apart; root = λ S. refl; seen = origin_seen; first = run_first; next = run_following }

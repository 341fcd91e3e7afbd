use Rattle.std.proofs.Common.{length}
use Rattle.braid_sync.proofs.Synced.{Syncing}
use Rattle.braid_sync.proofs.syncing.sync_all.Given as goal

abbrev pub invariant-posting : goal.invariant-posting
invariant-posting g l = Syncing l.fn.place l.fn.replica l.replica (g.D.Dialer.dialing l.fn.dialer) (g.D.Dialer.dialing l.dialer)

abbrev pub decreases-posting : goal.decreases-posting
decreases-posting g l = length l.replica.unsent

use Rattle.std.proofs.Common.{◌-◌, ◌≡◌}
use Rattle.braid_sync.proofs.FollowSteps.{Following}
use Rattle.braid_sync.proofs.following.follow_on.Given as goal

abbrev pub invariant-loop-lines : goal.invariant-loop-lines
invariant-loop-lines g l =
    record {
      following : Following l.fn.place l.count l.fn.replica l.subscription.current l.subscription.stream l.replica l.lines (g.K.Source.intake l.fn.link) (g.K.Source.intake l.link) (g.K.Sink.outflow l.fn.link) (g.K.Sink.outflow l.link) (g.O.Sink.outflow l.fn.out) (g.O.Sink.outflow l.out);
      kept : g.O.Sink.beside_writes l.out ≡ g.O.Sink.beside_writes l.fn.out;
    }

abbrev pub decreases-loop-lines : goal.decreases-loop-lines
decreases-loop-lines g l = l.count - l.lines

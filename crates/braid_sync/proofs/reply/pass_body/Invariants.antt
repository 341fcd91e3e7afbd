use Rattle.std.proofs.Common.{◌≡◌}
use Rattle.braid_sync.proofs.Replied.{Passing}
use Rattle.braid_sync.proofs.reply.pass_body.Given as goal

abbrev pub invariant-passing : goal.invariant-passing
invariant-passing g l =
    record {
      passing : Passing l.body l.fn.body.kind l.fn.wire.held l.wire.held l.left (g.K.Source.intake l.fn.link) (g.K.Source.intake l.link) (g.K.Sink.outflow l.fn.link) (g.K.Sink.outflow l.link);
      over : l.wire.over ≡ l.fn.wire.over;
    }

abbrev pub decreases-passing : goal.decreases-passing
decreases-passing g l = l.left

use Rattle.std.proofs.Common.{◌≡◌, ◌-◌, length}
use Rattle.braid_http.specs.Looks.{IsHeadLooked}
use Rattle.braid_http.specs.Replying.{TookForReply}
use Rattle.braid_http.proofs.response.next_reply.Given as goal

abbrev pub invariant-waiting : goal.invariant-waiting
invariant-waiting g l =
    record {
      took : TookForReply l.fn.held l.held (g.K.Source.intake l.fn.link) (g.K.Source.intake l.link);
      looked : IsHeadLooked l.look l.held;
      kept : g.K.Sink.outflow l.link ≡ g.K.Sink.outflow l.fn.link;
    }

abbrev pub decreases-waiting : goal.decreases-waiting
decreases-waiting g l = 524_288 - length l.held

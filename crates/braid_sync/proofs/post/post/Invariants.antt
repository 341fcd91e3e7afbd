use Rattle.braid_sync.proofs.Posted.{Posting}
use Rattle.braid_sync.proofs.post.post.Given as goal

abbrev pub invariant-loop : goal.invariant-loop
invariant-loop g l =
    Posting l.fn.place l.fn.replica l.replica l.wire l.counter (g.K.Source.intake l.fn.link) (g.K.Source.intake l.link) (g.K.Sink.outflow l.fn.link) (g.K.Sink.outflow l.link)

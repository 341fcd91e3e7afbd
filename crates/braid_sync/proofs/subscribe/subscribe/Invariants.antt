use Rattle.std.proofs.Common.{◌+◌, ◌-◌, ◌*◌, length}
use Rattle.braid_stream.specs.Readers.{most_bytes}
use Rattle.braid_sync.proofs.Subscribed.{Catching}
use Rattle.braid_sync.proofs.subscribe.subscribe.Given as goal

abbrev pub invariant-learning : goal.invariant-learning
invariant-learning g l =
    Catching l.fn.place l.fn.replica l.subscription.current l.subscription.stream l.replica (g.K.Source.intake l.fn.link) (g.K.Source.intake l.link) (g.K.Sink.outflow l.fn.link) (g.K.Sink.outflow l.link)

abbrev pub decreases-learning : goal.decreases-learning
decreases-learning g l = (most_bytes + 1) * (most_bytes - l.subscription.stream.reader.read) + length l.subscription.stream.reader.held

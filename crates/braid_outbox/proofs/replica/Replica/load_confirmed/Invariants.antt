use Rattle.std.proofs.Common.{◌≡◌, [], take}
use Rattle.braid_outbox.proofs.replica.Replica.load_confirmed.Given as goal

abbrev pub invariant-loop-n : goal.invariant-loop-n
invariant-loop-n l = l.self ≡ record { agent = l.fn.self.agent; confirmed = take l.n l.updates; unsent = [] }

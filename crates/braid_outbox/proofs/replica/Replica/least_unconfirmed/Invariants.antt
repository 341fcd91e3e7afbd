use Rattle.std.proofs.Common.{◌≡◌, drop, reverse}
use Rattle.braid_text.specs.Refusals.{first_missing}
use Rattle.braid_outbox.proofs.replica.Replica.least_unconfirmed.Given as goal

abbrev pub invariant-loop-i : goal.invariant-loop-i
invariant-loop-i l = first_missing l.of (reverse l.self.confirmed) ≡ first_missing (drop l.i l.of) (reverse l.self.confirmed)

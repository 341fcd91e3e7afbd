use Rattle.std.proofs.Common.{◌≡◌, take, map}
use Rattle.braid_text.proofs.digesting.sorted.Given as goal

-- the updates passed are there
abbrev pub invariant-loop-update : goal.invariant-loop-update
invariant-loop-update l = map (λ update. update.now) l.sorted.items ≡ take l.update-index l.updates

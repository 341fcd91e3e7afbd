use Rattle.std.proofs.Common.{ℕ, ◌<◌, get_or}
use Rattle.braid_ids.specs.Agents.{IsAgentByte}
use Rattle.braid_ids.proofs.agent.Agent.read.Given as goal

-- the bytes passed are small letters and digits
abbrev pub invariant-loop-at : goal.invariant-loop-at
invariant-loop-at l = (k : ℕ) → k < l.at → IsAgentByte (get_or l.bytes k 0)

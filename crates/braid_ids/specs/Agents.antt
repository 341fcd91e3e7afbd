-- What bytes name an agent, which fault bytes have that name none, and the identifiers of an agent's versions.
use Rattle.std.specs.Prelude.{◌≡◌, ◌≢◌, ℕ, ◌<◌, ◌≤◌, ◌⊎◌, List, [], ◌∷◌, ◌++◌, length, slice_index, codes, decimal}
use Rattle.braid_ids.specs.declared.agent.AgentFault.{AgentFault}
use Rattle.braid_ids.specs.declared.agent.AgentFault.TheVariants.{Empty, TooLong, BadByte, Reserved, Memory}

-- a small letter or a digit
abbrev pub IsAgentByte : ℕ → Type 0
IsAgentByte byte = ((97 ≤ byte) × (byte ≤ 122)) ⊎ ((48 ≤ byte) × (byte ≤ 57))

-- 1 to 32 small letters and digits that are not the word `plain`
pub record IsAgent (bytes : List ℕ) : Type 0 where
  pub some : 0 < length bytes
  pub short : length bytes ≤ 32
  pub letters : (k : ℕ) → k < length bytes → IsAgentByte (slice_index bytes k)
  pub free : bytes ≢ codes "plain"

-- the fault of bytes that name no agent: the first of these in this order. Memory may come for any bytes
abbrev pub IsAgentFault : List ℕ → AgentFault → Type 0
IsAgentFault bytes Empty = bytes ≡ []
IsAgentFault bytes (TooLong len) = (32 < length bytes) × (len ≡ length bytes)
IsAgentFault bytes (BadByte at byte) =
    (length bytes ≤ 32) × (at < length bytes) × (byte ≡ slice_index bytes at) × ¬ (IsAgentByte byte)
    × ((k : ℕ) → k < at → IsAgentByte (slice_index bytes k))
IsAgentFault bytes Reserved = bytes ≡ codes "plain"
IsAgentFault bytes Memory = Unit {0}

-- the identifier of an agent's version number k: the agent, `-` and k in decimal
abbrev pub agent_name : List ℕ → ℕ → List ℕ
agent_name agent k = agent ++ 45 ∷ decimal k

-- The lines at the head of a state's text.
use Rattle.std.specs.Prelude.{◌≡◌, ℕ, ◌+◌, ◌<◌, ◌≤◌, List, [], ◌∷◌, ◌++◌, length, slice_index, codes, flat_map}
use Rattle.std.specs.List.{AllByRecursion}
use Rattle.std.specs.Str.Parse.{AllDigits, digits_value}
use Rattle.braid_ids.specs.Agents.{IsAgent}
use Rattle.braid_state.specs.declared.line.Line.{Line}
use Rattle.braid_state.specs.declared.line.Line.TheVariants.{Title, Agent, Server, Path, Confirmed, Unsent, Empty}
use Rattle.braid_fields.specs.Places.{IsServer, IsPath}

-- what stands in the lines of a head: an agent, a server, a path, and how many updates are confirmed and how many unsent
pub record Head : Type 0 where
  pub agent : List ℕ
  pub server : List ℕ
  pub path : List ℕ
  pub confirmed : List ℕ
  pub unsent : List ℕ

-- the lines of a head, in order
abbrev pub head_lines : List Line
head_lines = Title ∷ Agent ∷ Server ∷ Path ∷ Confirmed ∷ Unsent ∷ Empty ∷ []

-- what a line begins with
abbrev pub name_of : Line → List ℕ
name_of Title = codes "braid-state 1"
name_of Agent = codes "agent: "
name_of Server = codes "server: "
name_of Path = codes "path: "
name_of Confirmed = codes "confirmed: "
name_of Unsent = codes "unsent: "
name_of Empty = []

-- what stands behind that, up to the LF
abbrev pub value_of : Head → Line → List ℕ
value_of head Title = []
value_of head Agent = head.agent
value_of head Server = head.server
value_of head Path = head.path
value_of head Confirmed = head.confirmed
value_of head Unsent = head.unsent
value_of head Empty = []

-- a line of a head, with its LF
abbrev pub line_of : Head → Line → List ℕ
line_of head line = name_of line ++ (value_of head line ++ 10 ∷ [])

-- the most updates of a state
abbrev pub most_updates : ℕ
most_updates = 524_288

-- a number in decimal digits without leading zeros
pub record IsCount (digits : List ℕ) : Type 0 where
  pub some : 0 < length digits
  pub are_digits : AllDigits 10 digits
  pub leads : slice_index digits 0 ≡ 48 → length digits ≡ 1

-- the number that digits are
abbrev pub count_of : List ℕ → ℕ
count_of digits = digits_value 10 digits

-- a line of a head has its form; the unsent updates are too many where they and the confirmed ones are
abbrev pub HasForm : Head → Line → Type 0
HasForm head Title = Unit {0}
HasForm head Agent = IsAgent head.agent
HasForm head Server = IsServer head.server
HasForm head Path = IsPath head.path
HasForm head Confirmed = IsCount head.confirmed
HasForm head Unsent = IsCount head.unsent × (count_of head.confirmed + count_of head.unsent ≤ most_updates)
HasForm head Empty = Unit {0}

-- the bytes are these lines of a head, each of its form, and then the rest
pub record HasLines (lines : List Line) (head : Head) (rest bytes : List ℕ) : Type 0 where
  pub forms : AllByRecursion (HasForm head) lines
  pub spelled : bytes ≡ flat_map (line_of head) lines ++ rest

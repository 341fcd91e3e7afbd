-- The words of the client's commands, and what they ask for.
use Rattle.std.specs.Prelude.{◌≡◌, ℕ, ◌<◌, ◌≤◌, ◌^◌, List, [], ◌∷◌, codes, IsUtf8}
use Rattle.braid_ids.specs.Agents.{IsAgent}
use Rattle.braid_lines.specs.Numbers.{IsNumber}
use Rattle.braid_change.specs.Texts.{IsTextOf}
use Rattle.braid_client.specs.declared.command.Command.{Command}
use Rattle.braid_client.specs.declared.command.Command.TheVariants.{New, Edit, Set, Show, Sync, Follow}
use Rattle.braid_sync.specs.Opening.{IsPlace}

-- a command's own word, and the words behind the state's name, ask for this
abbrev pub Asks : List ℕ → List (List ℕ) → Command → Type 0
Asks own rest (New agent place) =
    (own ≡ codes "new") × (rest ≡ agent ∷ place.server ∷ place.path ∷ []) × IsAgent agent × IsPlace place
Asks own rest (Edit start end text) =
    (own ≡ codes "edit")
    × ((first : List ℕ) × (last : List ℕ) × (letters : List ℕ) × (rest ≡ first ∷ last ∷ letters ∷ [])
    × IsNumber first start × (start < 2 ^ 32) × IsNumber last end × (end < 2 ^ 32) × IsTextOf text letters)
Asks own rest (Set text) = (own ≡ codes "set") × ((letters : List ℕ) × (rest ≡ letters ∷ []) × IsTextOf text letters)
Asks own rest Show = (own ≡ codes "show") × (rest ≡ [])
Asks own rest Sync = (own ≡ codes "sync") × (rest ≡ [])
Asks own rest (Follow count) =
    (own ≡ codes "follow")
    × ((number : List ℕ) × (rest ≡ number ∷ []) × IsNumber number count × (1 ≤ count) × (count ≤ 262_144))

-- words are a form of a command: its own word, the name of the state, which is UTF-8, and words that ask for this
pub record IsForm (words : List (List ℕ)) (name : List ℕ) (command : Command) : Type 0 where
  pub own : List ℕ
  pub rest : List (List ℕ)
  pub split : words ≡ own ∷ name ∷ rest
  pub text : IsUtf8 name
  pub asks : Asks own rest command

-- words are a form of no command
abbrev pub HasNoForm : List (List ℕ) → Type 0
HasNoForm words = (name : List ℕ) (command : Command) → ¬ IsForm words name command

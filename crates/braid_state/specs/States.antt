-- A state, and its text.
use Rattle.std.specs.Prelude.{◌≡◌, ℕ, ◌+◌, ◌≤◌, List, [], ◌∷◌, ◌++◌, length, codes, decimal, flat_map}
use Rattle.std.specs.List.{AllByRecursion}
use Rattle.braid_ids.specs.Agents.{IsAgent}
use Rattle.braid_change.specs.Updates.{UpdateView, IsUpdate}
use Rattle.braid_change.specs.Spellings.{canonical_all}
use Rattle.braid_grammar.specs.Streams.{IsGap, AfterGap, SpellsUpdate}
use Rattle.braid_state.specs.declared.state.State.{State}
use Rattle.braid_fields.specs.Places.{IsServer, IsPath}
use Rattle.braid_state.specs.Heads.{Head, head_lines, line_of, most_updates, HasLines}

-- the head of a state's text: its counts in decimal
abbrev pub head_of : State → Head
head_of s = record {
  agent = s.agent;
  server = s.server;
  path = s.path;
  confirmed =
      decimal (length s.confirmed);
  unsent = decimal (length s.unsent);
}

-- updates, each after a gap, and then the rest
abbrev pub UpdatesThen : List UpdateView → List ℕ → List ℕ → Type 0
UpdatesThen [] rest bytes = bytes ≡ rest
UpdatesThen (u ∷ us) rest bytes = AfterGap (SpellsUpdate u) (UpdatesThen us rest) bytes

-- what a state's text ends with
abbrev pub end_mark : List ℕ
end_mark = codes "end\n"

-- the bytes spell the state, which has not too many updates: the lines of its head, its confirmed and then its unsent
-- updates, each after a gap, a gap, and the end mark as the last bytes
pub record SpellsState (s : State) (bytes : List ℕ) : Type 0 where
  pub few : length s.confirmed + length s.unsent ≤ most_updates
  pub body : List ℕ
  pub gap : List ℕ
  pub lines : HasLines head_lines (head_of s) body bytes
  pub updates : UpdatesThen (s.confirmed ++ s.unsent) (gap ++ end_mark) body
  pub is_gap : IsGap gap

-- a state that has a text: an agent, a server, a path, updates that the program can hold, and not too many
pub record IsState (s : State) : Type 0 where
  pub agent : IsAgent s.agent
  pub server : IsServer s.server
  pub path : IsPath s.path
  pub few : length s.confirmed + length s.unsent ≤ most_updates
  pub confirmed : AllByRecursion IsUpdate s.confirmed
  pub unsent : AllByRecursion IsUpdate s.unsent

-- the text of a state, its updates in their canonical spellings
abbrev pub state_text : State → List ℕ
state_text s =
    flat_map (line_of (head_of s)) head_lines ++ (canonical_all s.confirmed ++ (canonical_all s.unsent ++ end_mark))

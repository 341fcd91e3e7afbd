-- Words that ask for nothing, and how a run answers them.
use Rattle.std.specs.Prelude.{◌≡◌, ◌⊎◌, ℕ, List}
use Rattle.braid_io.specs.Outside.{Rose, WritesAll}
use Rattle.braid_io.specs.Bells.{Ringing}
use Rattle.braid_io.specs.Doors.{Doorway}
use Rattle.braid_io.specs.declared.port.Asked.{Asked}
use Rattle.braid_io.specs.declared.status.Status.{Status}
use Rattle.braid_io.specs.declared.status.Status.TheVariants.{Usage, Outside, Memory}
use Rattle.braid_lines.specs.Prints.{usage_line}
use Rattle.braid_check.specs.Runs.{check_words}
use Rattle.braid_server.specs.Commands as serving
use Rattle.braid_client.specs.declared.command.Command.{Command}
use Rattle.braid_client.specs.Forms as asking
use Rattle.braid_drill.specs.declared.words.Asked as drilled
use Rattle.braid_drill.specs.Forms as drilling
use Rattle.braid_cli.specs.declared.commands.Ran.{Ran}
use Rattle.braid_cli.specs.Picks.{Picks, Surroundings}

-- Words ask for something: they are the form of `check`, of `serve`, of a command of the client, or of `drill`.
pub data HasForm (words : List (List ℕ)) : Type 0 where
  check_form : words ≡ check_words → HasForm words
  serve_form : (asked : Asked) → serving.IsForm words asked → HasForm words
  client_form : (name : List ℕ) (command : Command) → asking.IsForm words name command → HasForm words
  drill_form : (asked : drilled.Asked) → drilling.IsForm words asked → HasForm words

-- The words ask for nothing, the line that says so was written, and nothing else was touched.
pub record AreRefused (words : List (List ℕ)) (old new : Surroundings) : Type 0 where
  pub none : ¬ HasForm words
  pub untouched : new ≡ record old { outflow = new.outflow }
  pub line : WritesAll usage_line old.outflow new.outflow

-- A run ends with status Usage only at words that ask for nothing.
abbrev pub OnlyUsage : {D L : Type 0} → (D → Doorway) → (L → Ringing) → Type 0
OnlyUsage {D} {L} doorway ringing =
    (words : List (List ℕ)) (ran : Ran D L) (old new : Surroundings) → Picks doorway ringing words ran old new
    → ran.status ≡ Usage → AreRefused words old new

-- a run ended with status Usage; or its line could not be written whole; or there was no memory, and nothing was touched
abbrev pub EndsForNoForm : Status → Surroundings → Surroundings → Type 0
EndsForNoForm status old new =
    (status ≡ Usage)
    ⊎ (((status ≡ Outside) × Rose old.outflow.faults new.outflow.faults) ⊎ ((status ≡ Memory) × (new ≡ old)))

-- Words that ask for nothing end so, and touch nothing but what is printed.
abbrev pub NoFormIsUsage : {D L : Type 0} → (D → Doorway) → (L → Ringing) → Type 0
NoFormIsUsage {D} {L} doorway ringing =
    (words : List (List ℕ)) (ran : Ran D L) (old new : Surroundings) → ¬ HasForm words
    → Picks doorway ringing words ran old new
    → (new ≡ record old { outflow = new.outflow }) × EndsForNoForm ran.status old new

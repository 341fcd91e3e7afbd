-- What the program leaves and ends with, by its words or by why they were not read.
use Rattle.std.specs.Prelude.{◌≡◌, ℕ, List}
use Rattle.braid_io.specs.Bells.{Ringing}
use Rattle.braid_io.specs.Doors.{Doorway}
use Rattle.braid_io.specs.Statuses.{status_code}
use Rattle.braid_io.specs.declared.status.Status.{Status}
use Rattle.braid_io.specs.declared.status.Status.TheVariants as statuses
use Rattle.braid_lines.specs.Prints.{EndsAsUsage}
use Rattle.braid_cli.specs.declared.commands.Ran.{Ran}
use Rattle.braid_cli.specs.declared.words.WordsFault.{WordsFault}
use Rattle.braid_cli.specs.declared.words.WordsFault.TheVariants.{NotText, Memory}
use Rattle.braid_cli.specs.Picks.{Picks, Surroundings}

-- the exit status of a run on these words
pub record ExitsRun {D L : Type 0} (doorway : D → Doorway) (ringing : L → Ringing) (words : List (List ℕ)) (code : ℕ)
    (old new : Surroundings) : Type 0 where
  pub ran : Ran D L
  pub code_is : code ≡ status_code ran.status
  pub picks : Picks doorway ringing words ran old new

-- the exit status where the words were not read: words that are no text are no command, and are refused in one line;
-- without memory for them nothing is touched
abbrev pub ExitsUnread : WordsFault → ℕ → Surroundings → Surroundings → Type 0
ExitsUnread NotText code old new =
    (status : Status) × (code ≡ status_code status) × (new ≡ record old { outflow = new.outflow })
    × EndsAsUsage status old.outflow new.outflow
ExitsUnread Memory code old new = (code ≡ status_code statuses.Memory) × (new ≡ old)

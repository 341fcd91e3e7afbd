-- Which run the first word picks, and what is left of it.
use Rattle.std.specs.Prelude.{◌≡◌, ℕ, List, [], ◌∷◌, if◌then◌else◌, codes, bytes_eq, Option, Some, None}
use Rattle.braid_io.specs.Outside.{Intake, Outflow}
use Rattle.braid_io.specs.Bells.{Ringing}
use Rattle.braid_io.specs.Dialers.{Dialing}
use Rattle.braid_io.specs.Doors.{Doorway, Porting}
use Rattle.braid_io.specs.Keepers.{Keeping}
use Rattle.braid_lines.specs.Prints.{EndsAsUsage}
use Rattle.braid_check.specs.Runs.{Runs, Succeeds}
use Rattle.braid_client.specs.Runs.{Setting, ClientRuns}
use Rattle.braid_drill.specs.Runs.{DrillRuns}
use Rattle.braid_server.specs.declared.serve.Served.{Served}
use Rattle.braid_server.specs.Runs.{ServeRuns}
use Rattle.braid_cli.specs.declared.commands.Ran.{Ran}
use Rattle.braid_cli.specs.declared.table.Run.{Run}
use Rattle.braid_cli.specs.declared.table.Run.TheVariants.{Check, Serve, Client, Drill}

-- the commands: the word of each, and the run that it picks
abbrev pub commands : List (List ℕ × Run)
commands =
    (codes "check", Check)
    ∷ (codes "serve", Serve)
    ∷ (codes "new", Client)
    ∷ (codes "edit", Client)
    ∷ (codes "set", Client)
    ∷ (codes "show", Client)
    ∷ (codes "sync", Client)
    ∷ (codes "follow", Client)
    ∷ (codes "drill", Drill)
    ∷ []

-- the run of the command with this word, where there is one
abbrev pub run_in : List (List ℕ × Run) → List ℕ → Option Run
run_in [] word = None
run_in (c ∷ more) word = if bytes_eq c.0 word then Some c.1 else run_in more word

-- the run that the first word picks: none where there is no first word, or it is that of no command
abbrev pub run_of : List (List ℕ) → Option Run
run_of [] = None
run_of (word ∷ words) = run_in commands word

-- what a run sees of the outside: what is read, what is kept, the links, the port, and what is printed
pub record Surroundings : Type 0 where
  pub intake : Intake
  pub keeping : Keeping
  pub dialing : Dialing
  pub porting : Porting
  pub outflow : Outflow

-- surroundings of these five
abbrev pub surroundings : Intake → Keeping → Dialing → Porting → Outflow → Surroundings
surroundings intake keeping dialing porting outflow =
    record { intake = intake; keeping = keeping; dialing = dialing; porting = porting; outflow = outflow }

-- of these, what the client's commands see
abbrev pub setting_of : Surroundings → Setting
setting_of s = record { keeping = s.keeping; dialing = s.dialing; outflow = s.outflow }

-- The run that the first word picks, and what it left. In the order of the rows: `check`, which reads and prints; `serve`,
-- which opens a port and prints, and answers what it served; a command of the client, which neither reads nor opens a
-- port; or none, where the words are refused in one line. What a row does not name stays as it was.
pub data Picks {D L : Type 0} (doorway : D → Doorway) (ringing : L → Ringing) (words : List (List ℕ)) (ran : Ran D L)
    (old new : Surroundings) : Type 0 where
  checks : run_of words ≡ Some Check → ran.served ≡ None
      → new ≡ record old { intake = new.intake; outflow = new.outflow }
      → Runs words ran.status old.intake new.intake old.outflow new.outflow
      → Succeeds words ran.status old.intake new.intake old.outflow new.outflow
      → Picks doorway ringing words ran old new
  serves : (served : Served D L) → run_of words ≡ Some Serve → ran.served ≡ Some served → ran.status ≡ served.status
      → new ≡ record old { porting = new.porting; outflow = new.outflow }
      → ServeRuns doorway ringing words served old.porting new.porting old.outflow new.outflow
      → Picks doorway ringing words ran old new
  asks : run_of words ≡ Some Client → ran.served ≡ None
      → new ≡ record old { keeping = new.keeping; dialing = new.dialing; outflow = new.outflow }
      → ClientRuns words ran.status (setting_of old) (setting_of new)
      → Picks doorway ringing words ran old new
  drills : run_of words ≡ Some Drill → ran.served ≡ None
      → new ≡ record old { outflow = new.outflow }
      → DrillRuns words ran.status old.outflow new.outflow
      → Picks doorway ringing words ran old new
  refuses : run_of words ≡ None → ran.served ≡ None
      → new ≡ record old { outflow = new.outflow }
      → EndsAsUsage ran.status old.outflow new.outflow
      → Picks doorway ringing words ran old new

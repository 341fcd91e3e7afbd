-- What the links in memory and their dialer tell: their counts, and which server's link is up.
use Rattle.std.specs.Prelude.{◌≡◌, ℕ, List, [], ◌∷◌, Some, None}
use Rattle.braid_io.specs.Outside.{Intake, Outflow}
use Rattle.braid_io.specs.Dialers.{Dialing}
use Rattle.braid_drill.specs.declared.line.Line.{Line}
use Rattle.braid_drill.specs.declared.line.Line.TheVariants.{Free, Busy}

-- what the reading side of a link tells: its count of faults alone
abbrev pub untold_intake : ℕ → Intake
untold_intake faults = record { taken = None; left = None; faults = faults }

-- what the writing side of a link tells: its count of faults alone
abbrev pub untold_outflow : ℕ → Outflow
untold_outflow faults = record { written = None; faults = faults }

-- the servers of the links that are up: none, or one
abbrev pub servers_on : Line → List (List ℕ)
servers_on (Free server) = []
servers_on (Busy address) = address ∷ []

-- no link is up
abbrev pub IsFree : Line → Type 0
IsFree line = servers_on line ≡ []

-- what the dialer tells: the servers of the links that are up, and its counts of faults
abbrev pub told_dialing : Line → ℕ → ℕ → ℕ → Dialing
told_dialing line faults reads writes = record {
  talks = None;
  servers = Some (servers_on line);
  faults = faults;
  link_read_faults = reads;
  link_write_faults = writes;
}

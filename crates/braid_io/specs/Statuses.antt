-- The exit statuses of the program.
use Rattle.std.specs.Prelude.{ℕ}
use Rattle.braid_io.specs.declared.status.Status.{Status}
use Rattle.braid_io.specs.declared.status.Status.TheVariants.{Done, Bad, Usage, Outside, Memory, Cut}

-- The exit status of each end of a run: 0 to 5.
abbrev pub status_code : Status → ℕ
status_code Done = 0
status_code Bad = 1
status_code Usage = 2
status_code Outside = 3
status_code Memory = 4
status_code Cut = 5

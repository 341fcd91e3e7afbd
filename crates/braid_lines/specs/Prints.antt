-- How a text is written with its status.
use Rattle.std.specs.Prelude.{◌≡◌, ◌⊎◌, ℕ, List, codes}
use Rattle.braid_io.specs.Outside.{Outflow, WritesAll, WritesPart}
use Rattle.braid_io.specs.declared.status.Status.{Status}
use Rattle.braid_io.specs.declared.status.Status.TheVariants.{Usage, Outside}

-- a text was written whole, under its own status; or a front of it, under status Outside, where a write failed
abbrev pub IsPrinted : List ℕ → Status → Status → Outflow → Outflow → Type 0
IsPrinted text own status old new =
    ((status ≡ own) × WritesAll text old new) ⊎ ((status ≡ Outside) × WritesPart text old new)

-- the line for words that are no command
abbrev pub usage_line : List ℕ
usage_line = codes "fault: Usage\n"

-- words that are no command were refused: that line was written under status Usage, or a front of it under Outside
abbrev pub EndsAsUsage : Status → Outflow → Outflow → Type 0
EndsAsUsage status old new = IsPrinted usage_line Usage status old new

-- What `serve` prints.
use Rattle.std.specs.Prelude.{ℕ, List, ◌++◌, codes, decimal}

-- the line for a port that was not opened
abbrev pub port_fault_line : List ℕ
port_fault_line = codes "fault: PortFault\n"

-- the line once the port is open
abbrev pub serving_line : List ℕ → List ℕ
serving_line server = codes "serving: " ++ server ++ codes "\n"

-- the last lines: how many versions the book has, and how many sessions there were
abbrev pub last_lines : ℕ → ℕ → List ℕ
last_lines versions sessions =
    codes "versions: " ++ decimal versions ++ codes "\nsessions: " ++ decimal sessions ++ codes "\n"

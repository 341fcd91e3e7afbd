-- What follows of a run of `drill`.
use Rattle.std.specs.Prelude.{◌≡◌, ◌≢◌, ◌⊎◌, List, ℕ}
use Rattle.braid_io.specs.Outside.{Outflow, Rose, WritesAll}
use Rattle.braid_io.specs.declared.status.Status.{Status}
use Rattle.braid_io.specs.declared.status.Status.TheVariants.{Done, Bad, Usage, Outside, Memory, Cut}
use Rattle.braid_drill.specs.declared.words.Asked.{Asked}
use Rattle.braid_drill.specs.Forms.{IsForm, HasNoForm}
use Rattle.braid_lines.specs.Prints.{usage_line}
use Rattle.braid_drill.specs.Runs.{IsReport, DrillRuns}

-- words have one form at most
abbrev pub OneFormLaw : Type 0
OneFormLaw = (words : List (List ℕ)) (asked other : Asked) → IsForm words asked → IsForm words other → asked ≡ other

-- a drill whose words have the form is carried out: where no write failed, its lines were written under status Done, or
-- there was no memory
abbrev pub CompletesLaw : Type 0
CompletesLaw =
    (words : List (List ℕ)) (asked : Asked) (status : Status) (old new : Outflow) → IsForm words asked
    → DrillRuns words status old new → ¬ Rose old.faults new.faults
    → (status ≡ Memory) ⊎ ((status ≡ Done) × ((text : List ℕ) × IsReport asked.rounds text × WritesAll text old new))

-- other words are answered as such, where no write failed
abbrev pub RefusesLaw : Type 0
RefusesLaw =
    (words : List (List ℕ)) (status : Status) (old new : Outflow) → HasNoForm words → DrillRuns words status old new
    → ¬ Rose old.faults new.faults → (status ≡ Usage) × WritesAll usage_line old new

-- the status says what happened: Usage only for words of no form, Outside only where a write failed, and never Bad or
-- Cut
abbrev pub CausesLaw : Type 0
CausesLaw =
    (words : List (List ℕ)) (status : Status) (old new : Outflow) → DrillRuns words status old new
    → (status ≡ Usage → HasNoForm words) × (status ≡ Outside → Rose old.faults new.faults) × (status ≢ Bad)
    × (status ≢ Cut)

-- What a run of `drill` leaves, by its words.
use Rattle.std.specs.Prelude.{◌≡◌, ◌≤◌, ℕ, List, length}
use Rattle.braid_io.specs.Outside.{Outflow}
use Rattle.braid_io.specs.declared.status.Status.{Status}
use Rattle.braid_io.specs.declared.status.Status.TheVariants.{Done, Usage, Memory}
use Rattle.braid_lines.specs.Prints.{IsPrinted, usage_line}
use Rattle.braid_drill.specs.declared.words.Asked.{Asked}
use Rattle.braid_drill.specs.declared.report.Summary.{Summary}
use Rattle.braid_drill.specs.Forms.{IsForm, HasNoForm}
use Rattle.braid_drill.specs.Lines.{summary_text}

-- The lines of a drill of so many rounds. Which versions, unsent updates and digest they name is not said; of the four
-- replicas no more are equal than there are.
pub record IsReport (rounds : ℕ) (text : List ℕ) : Type 0 where
  pub summary : Summary
  pub few : summary.equal ≤ 4
  pub digest : length summary.digest ≡ 32
  pub spelled : text ≡ summary_text rounds summary

-- What a run leaves, in the order of the rows: its words have no form, and that is printed; they have, and the lines of
-- a drill with its rounds are printed; or they have, there was no memory, and nothing was written.
pub data DrillRuns (words : List (List ℕ)) (status : Status) (old new : Outflow) : Type 0 where
  no_form : HasNoForm words → IsPrinted usage_line Usage status old new → DrillRuns words status old new
  drilled : (asked : Asked) (text : List ℕ) → IsForm words asked → IsReport asked.rounds text
      → IsPrinted text Done status old new → DrillRuns words status old new
  no_memory : (asked : Asked) → IsForm words asked → status ≡ Memory → new ≡ old → DrillRuns words status old new

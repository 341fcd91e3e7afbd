-- What a run of `serve` leaves, by how far it came.
use Rattle.std.specs.Prelude.{◌≡◌, ℕ, ◌≤◌, ◌⊎◌, List, [], ◌∷◌, length, All, Option, Some, None}
use Rattle.braid_io.specs.Outside.{Outflow, Rose, WritesAll, WritesPart, with_last}
use Rattle.braid_io.specs.Bells.{Ringing}
use Rattle.braid_io.specs.Doors.{Doorway, Porting, IsNewPair}
use Rattle.braid_io.specs.declared.port.Asked.{Asked}
use Rattle.braid_io.specs.declared.status.Status.{Status}
use Rattle.braid_io.specs.declared.status.Status.TheVariants.{Done, Outside, Memory}
use Rattle.braid_lines.specs.Prints.{IsPrinted, EndsAsUsage}
use Rattle.braid_store.specs.declared.entry.Entry.{Entry}
use Rattle.braid_store.specs.Books.{IsLegalBook}
use Rattle.braid_session.specs.declared.worker.WorkerEnd.{WorkerEnd}
use Rattle.braid_session.specs.declared.worker.WorkerEnd.TheVariants as ends
use Rattle.braid_session.specs.declared.worker.WorkerNote.{WorkerNote}
use Rattle.braid_server.specs.declared.serve.Served.{Served}
use Rattle.braid_server.specs.declared.workers.Worked.{Worked}
use Rattle.braid_server.specs.Commands.{IsForm}
use Rattle.braid_server.specs.Workers.{HaveWorked, sessions_of}
use Rattle.braid_server.specs.Texts.{port_fault_line, serving_line, last_lines}

-- the status that the end of one worker asks for, where this one is due
abbrev pub with_end : WorkerEnd → Status → Status
with_end ends.DoorEnd status = status
with_end ends.DoorFault status = Outside
with_end ends.Worn status = status
with_end ends.Memory Outside = Outside
with_end ends.Memory Done = Memory
with_end ends.Memory other = other

-- the status of a run whose text was written: Outside where a door failed, else Memory where a worker had none, else
-- Done
abbrev pub status_of : List WorkerNote → Status
status_of [] = Done
status_of (note ∷ notes) = with_end note.end (status_of notes)

-- a run that ended before the port was open: there is no book, no worker and no door
pub record HasNone {D L : Type 0} (served : Served D L) : Type 0 where
  pub book : served.book ≡ None
  pub workers : served.workers ≡ []
  pub doors : served.doors.items ≡ []

-- A port gave new doors and bells, as it was asked to.
pub record Gives {D L : Type 0} (doorway : D → Doorway) (ringing : L → Ringing) (asked : Asked) (given : List (D × L))
    (before after : Porting) : Type 0 where
  pub many : length given ≡ asked.workers
  pub fresh : All (λ p. IsNewPair (doorway p.0) (ringing p.1)) given
  pub noted : after ≡ record before { asked = with_last before.asked asked }

-- A port could not be opened: its count of faults rose.
pub record FailsToOpen (asked : Asked) (before after : Porting) : Type 0 where
  pub noted : after.asked ≡ with_last before.asked asked
  pub never_falls : before.faults ≤ after.faults
  pub rose : Rose before.faults after.faults

-- How a run ended before its workers began, with its book: the line was not made, for want of memory; it was written in
-- part; it was written, and there was no memory for the hall; or none for passes and workers, and the book has no
-- entry.
pub data BeforeWork (line : List ℕ) (status : Status) (old new : Outflow) : Option (List Entry) → Type 0 where
  not_told : status ≡ Memory → new ≡ old → BeforeWork line status old new None
  cut_short : status ≡ Outside → WritesPart line old new → BeforeWork line status old new None
  without_hall : status ≡ Memory → WritesAll line old new → BeforeWork line status old new None
  without_workers : status ≡ Memory → WritesAll line old new → BeforeWork line status old new (Some [])

-- The last lines were written, under the status that the workers' ends ask for; or there was no memory for them.
abbrev pub PrintsLast : List Entry → List WorkerNote → Status → Outflow → Outflow → Type 0
PrintsLast book notes status old new =
    IsPrinted (last_lines (length book) (sessions_of notes)) (status_of notes) status old new
    ⊎ ((status ≡ Memory) × (new ≡ old))

-- What is left where a port gave these doors and bells: the run ended before its workers began, and they are as they
-- came; or the workers ran, on a book that is legal.
pub data ServesPairs {D L : Type 0} (doorway : D → Doorway) (ringing : L → Ringing) (asked : Asked)
    (given : List (D × L))
    (served : Served D L) (old new : Outflow) : Type 0 where
  no_work : served.workers ≡ [] → served.doors.items ≡ given
      → BeforeWork (serving_line asked.server) served.status old new served.book
      → ServesPairs doorway ringing asked given served old new
  work : (book : List Entry) (middle : Outflow) → served.book ≡ Some book → IsLegalBook book
      → HaveWorked doorway ringing given served.doors.items served.workers book
      → WritesAll (serving_line asked.server) old middle
      → PrintsLast book served.workers served.status middle new → ServesPairs doorway ringing asked given served old new

-- What a run left, by how far it came: its words are no form; there was no memory for the words, or for the port; the
-- port could not be opened; or it gave doors and bells.
pub data ServeRuns {D L : Type 0} (doorway : D → Doorway) (ringing : L → Ringing) (words : List (List ℕ))
    (served : Served D L)
    (before after : Porting) (old new : Outflow) : Type 0 where
  no_form : ((asked : Asked) → ¬ IsForm words asked) → HasNone served → after ≡ before
      → EndsAsUsage served.status old new
      → ServeRuns doorway ringing words served before after old new
  no_memory : HasNone served → served.status ≡ Memory → after ≡ before → new ≡ old
      → ServeRuns doorway ringing words served before after old new
  no_port : (asked : Asked) → IsForm words asked → HasNone served → FailsToOpen asked before after
      → IsPrinted port_fault_line Outside served.status old new
      → ServeRuns doorway ringing words served before after old new
  opened : (asked : Asked) (given : List (D × L)) → IsForm words asked → Gives doorway ringing asked given before after
      → ServesPairs doorway ringing asked given served old new
      → ServeRuns doorway ringing words served before after old new

-- What a run leaves, by what its workers left: the doors as they are, and where no worker ran, no note and status Memory.
abbrev pub FinishesWith : {D L : Type 0} → Option (List WorkerNote) → Worked D L → Served D L → Outflow → Outflow
    → Type 0
FinishesWith None worked served old new = (served.workers ≡ []) × (served.status ≡ Memory) × (new ≡ old)
FinishesWith (Some notes) worked served old new =
    (served.workers ≡ notes) × IsLegalBook worked.book × PrintsLast worked.book notes served.status old new

pub record Finishes {D L : Type 0} (worked : Worked D L) (served : Served D L) (old new : Outflow) : Type 0 where
  pub book : served.book ≡ Some worked.book
  pub doors : served.doors.items ≡ worked.doors.items
  pub ends : FinishesWith worked.notes worked served old new

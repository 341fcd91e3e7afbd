-- Laws of runs.
use Rattle.std.specs.Prelude.{◌≡◌, ◌≢◌, ℕ, ◌≤◌, ◌⊎◌, List, ◌++◌, length, Some, All}
use Rattle.std.specs.List.{AllByRecursion}
use Rattle.braid_io.specs.Outside.{Outflow, Rose, WritesAll}
use Rattle.braid_io.specs.Bells.{Ringing}
use Rattle.braid_io.specs.Doors.{Doorway, Porting}
use Rattle.braid_io.specs.declared.port.Asked.{Asked}
use Rattle.braid_io.specs.declared.status.Status.TheVariants.{Done, Memory}
use Rattle.braid_store.specs.declared.entry.Entry.{Entry}
use Rattle.braid_session.specs.declared.session.SessionEnd.TheVariants as ends
use Rattle.braid_session.specs.declared.session.SessionNote.{SessionNote}
use Rattle.braid_session.specs.declared.worker.WorkerEnd.TheVariants as worker_ends
use Rattle.braid_session.specs.declared.worker.WorkerNote.{WorkerNote}
use Rattle.braid_server.specs.declared.serve.Served.{Served}
use Rattle.braid_server.specs.Commands.{IsForm}
use Rattle.braid_server.specs.Workers.{HaveWorked, turns_of, sessions_of}
use Rattle.braid_server.specs.Texts.{serving_line, last_lines}
use Rattle.braid_server.specs.Runs.{ServeRuns}

-- no worker, and no session of one, was refused a turn
abbrev pub NoneRefused : List WorkerNote → Type 0
NoneRefused notes =
    AllByRecursion (λ (w : WorkerNote). (w.end ≢ worker_ends.Worn)
    × AllByRecursion (λ (n : SessionNote). n.end ≢ ends.Worn) w.sessions) notes

-- where all notes together have fewer than 2^63 marks, none was refused a turn
abbrev pub WornLate : {D L : Type 0} → (D → Doorway) → (L → Ringing) → Type 0
WornLate {D} {L} doorway ringing =
    (given after : List (D × L)) (notes : List WorkerNote) (book : List Entry)
    → HaveWorked doorway ringing given after notes book → ¬ (9223372036854775808 ≤ turns_of notes) → NoneRefused notes

-- no accept of any door failed
abbrev pub NoDoorFailed : {D L : Type 0} → (D → Doorway) → List (D × L) → Type 0
NoDoorFailed doorway doors = All (λ p. (doorway p.0).faults ≡ 0) doors

-- a run that is whole: it is Done, with its text
pub record IsWhole {D L : Type 0} (words : List (List ℕ)) (served : Served D L) (old new : Outflow) : Type 0 where
  pub done : served.status ≡ Done
  pub asked : Asked
  pub form : IsForm words asked
  pub book : List Entry
  pub closed : served.book ≡ Some book
  pub text : WritesAll (serving_line asked.server ++ last_lines (length book) (sessions_of served.workers)) old new

-- Words of a form are served: where neither port nor doors nor the output failed, the run is Done, with its whole text,
-- or there was no memory.
abbrev pub Completes : {D L : Type 0} → (D → Doorway) → (L → Ringing) → Type 0
Completes {D} {L} doorway ringing =
    (words : List (List ℕ)) (asked : Asked) (served : Served D L) (before after : Porting) (old new : Outflow)
    → IsForm words asked → ServeRuns doorway ringing words served before after old new
    → ¬ Rose before.faults after.faults → ¬ Rose old.faults new.faults → NoDoorFailed doorway served.doors.items
    → (served.status ≡ Memory) ⊎ IsWhole words served old new

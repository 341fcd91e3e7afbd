-- Workers that run beside one another on one book, and what they leave.
use Rattle.std.specs.Prelude.{◌≡◌, ℕ, ◌+◌, ◌<◌, ◌≤◌, ◌==◌, false, vec_capacity, Option, Some, None, List, [], ◌∷◌, length, map, filter}
use Rattle.std.specs.List.{AllByRecursion}
use Rattle.atomic_table.specs.Seated.{TableId}
use Rattle.braid_io.specs.Bells.{Ringing}
use Rattle.braid_io.specs.Doors.{Doorway}
use Rattle.braid_hall.specs.Passes.{PassView}
use Rattle.braid_hall.specs.Views.{total}
use Rattle.braid_store.specs.declared.entry.Entry.{Entry}
use Rattle.braid_session.specs.declared.session.SessionNote.{SessionNote}
use Rattle.braid_session.specs.declared.worker.WorkerNote.{WorkerNote}
use Rattle.braid_session.specs.Sessions.{entries_of}
use Rattle.braid_session.specs.Ends.{AreFound}
use Rattle.braid_session.specs.Watches.{IsHeard}
use Rattle.braid_session.specs.Orders.{serving_now}
use Rattle.braid_session.specs.Doors.{Session, FitsVisit, notes_of, marks_of, added_of, agains_of, HeardInTurn, visits_of, Visited, DoorFaultsOnlyAt, EndsWorker, ServesDoor}
use Rattle.braid_server.specs.declared.worker.Worker.{Worker}
use Rattle.braid_server.specs.declared.workers.Lists.{Lists}

-- a worker that may run: its pass comes from the hall and is in no turn
abbrev pub IsReady : {D L : Type 0} → TableId → Worker D L → Type 0
IsReady hall w = (w.pass.hall ≡ hall) × (w.pass.held ≡ false)

-- a worker ran: it served its door
abbrev pub RanDoor : {D L : Type 0} → (D → Doorway) → (L → Ringing) → Worker D L → Worker D L → Type 0
RanDoor doorway ringing v w =
    ServesDoor serving_now w.note v.pass w.pass (doorway v.door) (doorway w.door) (ringing v.bell) (ringing w.bell)

-- the doors and bells of workers
abbrev pub pairs_of : {D L : Type 0} → List (Worker D L) → List (D × L)
pairs_of {D} {L} ws = map (λ (w : Worker D L). (w.door, w.bell)) ws

-- the passes of workers
abbrev pub passes_of : {D L : Type 0} → List (Worker D L) → List (PassView Entry)
passes_of {D} {L} ws = map (λ (w : Worker D L). w.pass) ws

-- the notes of workers
abbrev pub worker_notes : {D L : Type 0} → List (Worker D L) → List WorkerNote
worker_notes {D} {L} ws = map (λ (w : Worker D L). w.note) ws

-- lists without items, each with room for so many
pub record HasRoom {D L : Type 0} (count : ℕ) (lists : Lists D L) : Type 0 where
  pub workers : (lists.workers.items ≡ []) × (count ≤ vec_capacity lists.workers)
  pub doors : (lists.doors.items ≡ []) × (count ≤ vec_capacity lists.doors)
  pub passes : (lists.passes.items ≡ []) × (count ≤ vec_capacity lists.passes)
  pub notes : (lists.notes.items ≡ []) × (count ≤ vec_capacity lists.notes)

-- how many turns the notes of workers have marks of
abbrev pub turns_of : List WorkerNote → ℕ
turns_of notes = total (λ (w : WorkerNote). total (λ (n : SessionNote). length n.marks.items) w.sessions) notes

-- how many sessions the notes of workers have
abbrev pub sessions_of : List WorkerNote → ℕ
sessions_of notes = total (λ (w : WorkerNote). length w.sessions) notes

-- One worker of a run, by its number, on the book that was closed; no look was above `look`: each of its sessions fits
-- that book; the book's entries of its number are just those of its sessions, in order; its marks never fall; its door
-- put back all links that it gave; its bell was rung for each entry, and answered as many Agains as its sessions heard, one
-- session after the other; and its end has its cause.
pub record WorksOn (book : List Entry) (look number : ℕ) (note : WorkerNote) (before after : Doorway)
    (bell rung : Ringing) : Type 0 where
  pub sessions : List Session
  pub pass : note.pass ≡ number
  pub noted : note.sessions ≡ notes_of sessions
  pub fit : AllByRecursion (FitsVisit serving_now number book look) sessions
  pub own : filter (λ (e : Entry). e.by == number) book ≡ entries_of (added_of sessions)
  pub found : AreFound 0 (marks_of sessions) (added_of sessions) (length book)
  pub rings : IsHeard (agains_of sessions) (length (added_of sessions)) bell rung
  pub in_turn : HeardInTurn bell.answers sessions rung.answers
  pub door : Visited (visits_of sessions) before after
  pub faults : DoorFaultsOnlyAt note.end before.faults after.faults
  pub ends : EndsWorker note.end sessions after

-- The workers of a run, numbered on from the number after n: each with its note, and with its door and bell before and
-- after.
abbrev pub WorkOn : {D L : Type 0} → (D → Doorway) → (L → Ringing) → List Entry → ℕ → ℕ → List (D × L) → List (D × L)
    → List WorkerNote → Type 0
WorkOn doorway ringing book look n [] [] [] = Unit {0}
WorkOn doorway ringing book look n [] [] (note ∷ notes) = ⊥
WorkOn doorway ringing book look n [] (pair ∷ after) notes = ⊥
WorkOn doorway ringing book look n (pair ∷ given) [] notes = ⊥
WorkOn doorway ringing book look n (pair ∷ given) (back ∷ after) [] = ⊥
WorkOn doorway ringing book look n (pair ∷ given) (back ∷ after) (note ∷ notes) =
    WorksOn book look (n + 1) note (doorway pair.0) (doorway back.0) (ringing pair.1) (ringing back.1)
    × WorkOn doorway ringing book look (n + 1) given after notes

-- What workers left that ran beside one another, and the book that was then closed: each entry of it has the number of
-- one of them. No look was above the number of marks of all notes.
pub record HaveWorked {D L : Type 0} (doorway : D → Doorway) (ringing : L → Ringing) (given after : List (D × L))
    (notes : List WorkerNote) (book : List Entry) : Type 0 where
  pub each : WorkOn doorway ringing book (turns_of notes) 0 given after notes
  pub numbers : AllByRecursion (λ (e : Entry). (0 < e.by) × (e.by ≤ length notes)) book

-- what is left of workers: its workers ran; or none did, the doors and bells are as they came, and the book has no entry
abbrev pub LeavesWork : {D L : Type 0} → (D → Doorway) → (L → Ringing) → List (D × L) → List (D × L)
    → Option (List WorkerNote) → List Entry → Type 0
LeavesWork doorway ringing given after None book = (after ≡ given) × (book ≡ [])
LeavesWork doorway ringing given after (Some notes) book = HaveWorked doorway ringing given after notes book

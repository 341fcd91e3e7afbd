-- What the sessions of a door leave, one after another: each link that came has its note and was put back.
use Rattle.std.specs.Prelude.{◌≡◌, ◌≢◌, ℕ, ◌≤◌, List, [], ◌∷◌, ◌++◌, length, map, flat_map, Option}
use Rattle.std.specs.Option.{option_map}
use Rattle.std.specs.List.{AllByRecursion}
use Rattle.braid_io.specs.Outside.{Intake, Outflow, Rose, IsNewLink, HasNone, joint_count}
use Rattle.braid_io.specs.Bells.{Ringing}
use Rattle.braid_io.specs.Doors.{Visit, Doorway}
use Rattle.braid_hall.specs.Passes.{PassView}
use Rattle.braid_hall.specs.Views.{total}
use Rattle.braid_store.specs.declared.entry.Entry.{Entry}
use Rattle.braid_session.specs.declared.serving.Serving.{Serving}
use Rattle.braid_session.specs.declared.session.SessionEnd.TheVariants as ends
use Rattle.braid_session.specs.declared.session.SessionNote.{SessionNote}
use Rattle.braid_session.specs.declared.worker.WorkerEnd.{WorkerEnd}
use Rattle.braid_session.specs.declared.worker.WorkerEnd.TheVariants.{DoorEnd, DoorFault, Worn, Memory}
use Rattle.braid_session.specs.declared.worker.WorkerNote.{WorkerNote}
use Rattle.braid_session.specs.Sessions.{Placed}
use Rattle.braid_session.specs.Ends.{Passed}
use Rattle.braid_session.specs.Watches.{BellUse, IsHeard, more_by}
use Rattle.braid_session.specs.Fits.{Fits}

-- one session at a door: its note, the entries that it added, at their places, what it heard of the bell, and its link as
-- it was put back
pub record Session : Type 0 where
  pub note : SessionNote
  pub entries : List Placed
  pub heard : BellUse
  pub visit : Visit

-- A session at a door fits a book, by who has the number `by`, where `look` is what was last seen as the next ticket (it matters
-- where a turn was refused, which ends the worker): it was on a new link, and none of its marks is above the book's length. It
-- then fits each longer book too.
pub record FitsVisit (s : Serving) (by : ℕ) (book : List Entry) (look : ℕ) (x : Session) : Type 0 where
  pub from : Intake
  pub before : Outflow
  pub fresh : IsNewLink from before
  pub fits : Fits s x.note by book look x.entries x.heard from x.visit.intake before x.visit.outflow
  pub within : AllByRecursion (λ n. n ≤ length book) x.note.marks.items

-- the notes of sessions
abbrev pub notes_of : List Session → List SessionNote
notes_of xs = map (λ (x : Session). x.note) xs

-- the marks of sessions together, in order
abbrev pub marks_of : List Session → List ℕ
marks_of xs = flat_map (λ (x : Session). x.note.marks.items) xs

-- the entries of sessions together, in order
abbrev pub added_of : List Session → List Placed
added_of xs = flat_map (λ (x : Session). x.entries) xs

-- how many Agains sessions heard together
abbrev pub agains_of : List Session → ℕ
agains_of xs = total (λ (x : Session). x.heard.agains) xs

-- sessions used a bell one after another, which had so many Agains left before them and behind them, where that is told
abbrev pub HeardInTurn : Option ℕ → List Session → Option ℕ → Type 0
HeardInTurn told [] end = end ≡ told
HeardInTurn told (x ∷ xs) end = (told ≡ more_by x.heard.agains x.heard.left) × HeardInTurn x.heard.left xs end

-- the links of sessions, as they were put back
abbrev pub visits_of : List Session → List Visit
visits_of xs = map (λ (x : Session). x.visit) xs

-- no session was refused a turn
abbrev pub NoneWorn : List Session → Type 0
NoneWorn xs = AllByRecursion (λ (x : Session). x.note.end ≢ ends.Worn) xs

-- more visits behind those that are told
abbrev pub with_visits : Option (List Visit) → List Visit → Option (List Visit)
with_visits told visits = option_map (λ (vs : List Visit). vs ++ visits) told

-- a count of failed reads with those of visits added, one after the other
abbrev pub read_faults_with : ℕ → List Visit → ℕ
read_faults_with n [] = n
read_faults_with n (v ∷ vs) = read_faults_with (joint_count n v.intake.faults) vs

-- the same of failed writes
abbrev pub write_faults_with : ℕ → List Visit → ℕ
write_faults_with n [] = n
write_faults_with n (v ∷ vs) = write_faults_with (joint_count n v.outflow.faults) vs

-- A door gave new links, one after another, and each was put back as a visit: these were all.
pub record Visited (visits : List Visit) (old new : Doorway) : Type 0 where
  pub served : new.served ≡ with_visits old.served visits
  pub left : old.left ≡ more_by (length visits) new.left
  pub up : new.up ≡ old.up
  pub link_read_faults : new.link_read_faults ≡ read_faults_with old.link_read_faults visits
  pub link_write_faults : new.link_write_faults ≡ write_faults_with old.link_write_faults visits

-- accepting failed only where the worker ended so
abbrev pub DoorFaultsOnlyAt : WorkerEnd → ℕ → ℕ → Type 0
DoorFaultsOnlyAt end old new = (end ≢ DoorFault → new ≡ old) × (end ≡ DoorFault → (old ≤ new) × Rose old new)

-- How each end of a worker comes about, with its sessions and what its door then tells: the door ended, with no connection
-- left; it failed; the last session, and no other, was refused a turn; or there was no memory.
abbrev pub EndsWorker : WorkerEnd → List Session → Doorway → Type 0
EndsWorker DoorEnd xs door = NoneWorn xs × HasNone door.left
EndsWorker DoorFault xs door = NoneWorn xs
EndsWorker Worn xs door = (front : List Session) × (last : Session) × (xs ≡ front ++ last ∷ []) × NoneWorn front × (last.note.end ≡ ends.Worn)
EndsWorker Memory xs door = NoneWorn xs

-- What a door's sessions read and wrote, what their pass gained, what they heard of the bell, and how the worker ended.
pub record ServesDoor (s : Serving) (note : WorkerNote) (p q : PassView Entry) (before after : Doorway) (bell rung : Ringing) : Type 0 where
  pub sessions : List Session
  pub pass : note.pass ≡ p.number
  pub noted : note.sessions ≡ notes_of sessions
  pub fit : AllByRecursion (FitsVisit s q.number q.seen q.look) sessions
  pub passed : Passed p q (marks_of sessions) (added_of sessions)
  pub rings : IsHeard (agains_of sessions) (length (added_of sessions)) bell rung
  pub in_turn : HeardInTurn bell.answers sessions rung.answers
  pub door : Visited (visits_of sessions) before after
  pub faults : DoorFaultsOnlyAt note.end before.faults after.faults
  pub ends : EndsWorker note.end sessions after

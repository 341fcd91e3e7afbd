-- What the functions of a door show one another.
use Rattle.std.specs.Prelude.{◌≡◌, ◌≢◌, ◌≤◌, List, [], ◌∷◌, ◌++◌, length, Option, Some, None}
use Rattle.std.specs.List.{AllByRecursion}
use Rattle.braid_io.specs.Outside.{Rose, HasNone}
use Rattle.braid_io.specs.Bells.{Ringing}
use Rattle.braid_io.specs.Doors.{Doorway}
use Rattle.braid_hall.specs.Passes.{PassView}
use Rattle.braid_store.specs.declared.entry.Entry.{Entry}
use Rattle.braid_session.specs.declared.serving.Serving.{Serving}
use Rattle.braid_session.specs.declared.session.SessionEnd.TheVariants as ends
use Rattle.braid_session.specs.declared.session.SessionNote.{SessionNote}
use Rattle.braid_session.specs.declared.worker.WorkerEnd.{WorkerEnd}
use Rattle.braid_session.specs.declared.worker.WorkerEnd.TheVariants.{DoorEnd, DoorFault, Worn, Memory}
use Rattle.braid_session.specs.Ends.{Passed}
use Rattle.braid_session.specs.Watches.{IsHeard}
use Rattle.braid_session.specs.Doors.{Session, FitsVisit, notes_of, marks_of, added_of, agains_of, HeardInTurn, visits_of, NoneWorn, Visited, DoorFaultsOnlyAt, EndsWorker}

-- one link came, was served and was put back
pub record ServesLink (s : Serving) (x : Session) (p q : PassView Entry) (notes more : List SessionNote) (old new : Doorway) (bell rung : Ringing) : Type 0 where
  pub fits : FitsVisit s q.number q.seen q.look x
  pub noted : more ≡ notes ++ x.note ∷ []
  pub passed : Passed p q x.note.marks.items x.entries
  pub rings : IsHeard x.heard.agains (length x.entries) bell rung
  pub left : x.heard.left ≡ rung.answers
  pub door : Visited (x.visit ∷ []) old new
  pub faults : new.faults ≡ old.faults

-- neither pass nor notes nor bell changed
pub record IsUnserved (p q : PassView Entry) (notes more : List SessionNote) (bell rung : Ringing) : Type 0 where
  pub pass : q ≡ p
  pub noted : more ≡ notes
  pub rings : rung ≡ bell

-- What one accept led to: a session, behind which more may follow; or the end of the worker.
abbrev pub Accepted : Serving → Option WorkerEnd → PassView Entry → PassView Entry → List SessionNote → List SessionNote → Doorway → Doorway → Ringing → Ringing → Type 0
Accepted s None p q notes more old new bell rung =
    (x : Session) × ServesLink s x p q notes more old new bell rung × (x.note.end ≢ ends.Worn)
Accepted s (Some Worn) p q notes more old new bell rung =
    (x : Session) × ServesLink s x p q notes more old new bell rung × (x.note.end ≡ ends.Worn)
Accepted s (Some DoorEnd) p q notes more old new bell rung = IsUnserved p q notes more bell rung × (new ≡ old) × HasNone new.left
Accepted s (Some DoorFault) p q notes more old new bell rung =
    IsUnserved p q notes more bell rung × (new ≡ record old { faults = new.faults }) × (old.faults ≤ new.faults) × Rose old.faults new.faults
Accepted s (Some Memory) p q notes more old new bell rung = IsUnserved p q notes more bell rung × (new ≡ old)

-- A worker that has come so far, and may go on: what its sessions left.
pub record HasServed (s : Serving) (notes : List SessionNote) (p q : PassView Entry) (before after : Doorway) (bell rung : Ringing) : Type 0 where
  pub sessions : List Session
  pub noted : notes ≡ notes_of sessions
  pub fit : AllByRecursion (FitsVisit s q.number q.seen q.look) sessions
  pub passed : Passed p q (marks_of sessions) (added_of sessions)
  pub rings : IsHeard (agains_of sessions) (length (added_of sessions)) bell rung
  pub in_turn : HeardInTurn bell.answers sessions rung.answers
  pub door : Visited (visits_of sessions) before after
  pub faults : after.faults ≡ before.faults
  pub none_worn : NoneWorn sessions

-- The same of a worker that ended.
pub record HasEnded (s : Serving) (end : WorkerEnd) (notes : List SessionNote) (p q : PassView Entry) (before after : Doorway) (bell rung : Ringing) : Type 0 where
  pub sessions : List Session
  pub noted : notes ≡ notes_of sessions
  pub fit : AllByRecursion (FitsVisit s q.number q.seen q.look) sessions
  pub passed : Passed p q (marks_of sessions) (added_of sessions)
  pub rings : IsHeard (agains_of sessions) (length (added_of sessions)) bell rung
  pub in_turn : HeardInTurn bell.answers sessions rung.answers
  pub door : Visited (visits_of sessions) before after
  pub faults : DoorFaultsOnlyAt end before.faults after.faults
  pub ends : EndsWorker end sessions after

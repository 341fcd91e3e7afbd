-- How a run ends.
use Rattle.std.proofs.Common.{◌≡◌, ℕ, List, [], inl, ap, sym, ◌∙◌, subst, length, Option, Some, None}
use Rattle.braid_io.specs.Outside.{Outflow, WritesAll}
use Rattle.braid_io.specs.Bells.{Ringing}
use Rattle.braid_io.specs.Doors.{Doorway}
use Rattle.braid_io.specs.declared.port.Asked.{Asked}
use Rattle.braid_io.specs.declared.status.Status.{Status}
use Rattle.braid_store.specs.declared.entry.Entry.{Entry}
use Rattle.braid_session.specs.declared.worker.WorkerNote.{WorkerNote}
use Rattle.braid_server.specs.declared.serve.Served.{Served}
use Rattle.braid_server.specs.declared.workers.Worked.{Worked}
use Rattle.braid_server.specs.Workers.{HaveWorked, LeavesWork, sessions_of}
use Rattle.braid_lines.specs.Prints.{IsPrinted}
use Rattle.braid_server.specs.Texts.{serving_line, last_lines}
use Rattle.braid_server.specs.Runs.{status_of, Finishes, FinishesWith, PrintsLast, BeforeWork, without_workers, ServesPairs, no_work, work}

-- what workers left decides what is left of the run
pub pairs_served : {D L : Type 0} (doorway : D → Doorway) (ringing : L → Ringing) (asked : Asked) (given : List (D × L)) (worked : Worked D L) (served : Served D L) (old middle new : Outflow)
    → WritesAll (serving_line asked.server) old middle → LeavesWork doorway ringing given worked.doors.items worked.notes worked.book → Finishes worked served middle new
    → ServesPairs doorway ringing asked given served old new
pairs_served doorway ringing asked given worked served old middle new wrote left f = go worked.notes left f.ends
  where
    go : (notes : Option (List WorkerNote)) → LeavesWork doorway ringing given worked.doors.items notes worked.book → FinishesWith notes worked served middle new
        → ServesPairs doorway ringing asked given served old new
    go None l e = no_work e.0 (f.doors ∙ l.0)
        (subst (λ (b : Option (List Entry)). BeforeWork (serving_line asked.server) served.status old new b) (sym (f.book ∙ ap Some l.1))
        (without_workers e.1 (subst (λ (o : Outflow). WritesAll (serving_line asked.server) old o) (sym e.2) wrote)))
    go (Some notes) l e = work worked.book middle f.book e.1
        (subst (λ (d : List _). HaveWorked doorway ringing given d served.workers worked.book) (sym f.doors)
        (subst (λ (n : List WorkerNote). HaveWorked doorway ringing given worked.doors.items n worked.book) (sym e.0) l))
        wrote (subst (λ (n : List WorkerNote). PrintsLast worked.book n served.status middle new) (sym e.0) e.2)

-- a run that ended before its workers began
pub ended_before : {D L : Type 0} (doorway : D → Doorway) (ringing : L → Ringing) (asked : Asked) (given : List (D × L)) (served : Served D L) (old new : Outflow) (book : Option (List Entry))
    → served.workers ≡ [] → served.doors.items ≡ given → served.book ≡ book → BeforeWork (serving_line asked.server) served.status old new book
    → ServesPairs doorway ringing asked given served old new
ended_before doorway ringing asked given served old new book workers doors is before =
    no_work workers doors (subst (λ (b : Option (List Entry)). BeforeWork (serving_line asked.server) served.status old new b) (sym is) before)

-- what was printed last
pub prints_last : (book : List Entry) (notes counted judged : List WorkerNote) (text lines : List ℕ) (versions sessions : ℕ) (own status : Status) (old new : Outflow)
    → text ≡ lines → lines ≡ last_lines versions sessions → versions ≡ length book → sessions ≡ sessions_of counted → counted ≡ notes → own ≡ status_of judged → judged ≡ notes
    → IsPrinted text own status old new → PrintsLast book notes status old new
prints_last book notes counted judged text lines versions sessions own status old new is lines_are versions_are sessions_are same own_is also p =
    inl (subst (λ (t : List ℕ). IsPrinted t (status_of notes) status old new)
    (is ∙ lines_are ∙ ap (λ (v : ℕ). last_lines v sessions) versions_are ∙ ap (last_lines (length book)) (sessions_are ∙ ap sessions_of same))
    (subst (λ (s : Status). IsPrinted text s status old new) (own_is ∙ ap status_of also) p))

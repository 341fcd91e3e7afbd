-- When a run is whole, and when a session is refused a turn.
use Rattle.std.proofs.Common.{◌≡◌, ◌≢◌, ℕ, ◌+◌, ◌≤◌, List, [], ◌∷◌, ◌++◌, ◌⊎◌, inl, inr, refl, ap, sym, ◌∙◌, subst, map, Some, Option, arith}
use Rattle.std.specs.List.{AllByRecursion}
use Rattle.braid_io.specs.Outside.{Outflow, Rose, WritesAll}
use Rattle.braid_io.specs.Bells.{Ringing}
use Rattle.braid_io.specs.Doors.{Doorway, IsNewPair}
use Rattle.braid_io.specs.declared.port.Asked.{Asked}
use Rattle.braid_io.specs.declared.status.Status.{Status}
use Rattle.braid_io.specs.declared.status.Status.TheVariants as statuses
use Rattle.braid_store.specs.declared.entry.Entry.{Entry}
use Rattle.braid_session.specs.declared.session.SessionEnd.{SessionEnd}
use Rattle.braid_session.specs.declared.session.SessionEnd.TheVariants as ends
use Rattle.braid_session.specs.declared.session.SessionNote.{SessionNote}
use Rattle.braid_session.specs.declared.worker.WorkerEnd.{WorkerEnd}
use Rattle.braid_session.specs.declared.worker.WorkerEnd.TheVariants as worker_ends
use Rattle.braid_session.specs.declared.worker.WorkerNote.{WorkerNote}
use Rattle.braid_session.specs.Ends.{Ends}
use Rattle.braid_session.specs.Watches.{EndsWatch, EndsWatching}
use Rattle.braid_session.specs.Fits.{EndsUnwatched}
use Rattle.braid_session.specs.Orders.{serving_now}
use Rattle.braid_session.specs.Doors.{Session, FitsVisit, EndsWorker}
use Rattle.braid_session.proofs.Goings.{writes_both}
use Rattle.braid_server.specs.Commands.{IsForm}
use Rattle.braid_server.specs.Workers.{WorkOn, turns_of}
use Rattle.braid_server.specs.Texts.{serving_line}
use Rattle.braid_server.specs.Runs.{PrintsLast, BeforeWork, not_told, cut_short, without_hall, without_workers, ServesPairs, no_work, work, ServeRuns, no_form, no_memory, no_port, opened, Gives, status_of, with_end}
use Rattle.braid_server.specs.Laws.{NoneRefused, WornLate, IsWhole, Completes}
use Rattle.braid_server.proofs.Lists.{all_each}

-- a session that was refused a turn looked at a late ticket
refused_late : (by : ℕ) (book : List Entry) (look : ℕ) (x : Session) → FitsVisit serving_now by book look x → x.note.end ≡ ends.Worn → 9223372036854775808 ≤ look
refused_late by book look x f is = go f.fits.ends
  where
    go : EndsUnwatched x.note.end serving_now by book look f.fits.done x.note.marks.items x.entries x.heard f.fits.begun x.visit.intake f.before x.visit.outflow
        ⊎ EndsWatching x.note.end serving_now by book look f.fits.done x.note.marks.items x.entries x.heard f.fits.begun f.before x.visit.outflow → 9223372036854775808 ≤ look
    go (inl w) = let e = subst (λ (z : SessionEnd). Ends z serving_now by book look f.fits.done x.note.marks.items x.entries x.visit.intake f.before x.visit.outflow) is w.ends in e.4
    go (inr w) = let e = subst (λ (z : SessionEnd). EndsWatch z serving_now by book look w.request w.taken x.heard f.fits.begun w.middle x.visit.outflow) is w.ends in e.5

none_of : (by : ℕ) (book : List Entry) (look : ℕ) (xs : List Session) → ¬ (9223372036854775808 ≤ look) → AllByRecursion (FitsVisit serving_now by book look) xs
    → AllByRecursion (λ (n : SessionNote). n.end ≢ ends.Worn) (map (λ (x : Session). x.note) xs)
none_of by book look [] not h = tt
none_of by book look (x ∷ xs) not h = ((λ is. not (refused_late by book look x h.0 is)), none_of by book look xs not h.1)

last_fits : (P : Session → Type 0) (front : List Session) (x : Session) → AllByRecursion P (front ++ x ∷ []) → P x
last_fits P [] x h = h.0
last_fits P (y ∷ ys) x h = last_fits P ys x h.1

-- a worker that was refused a turn had a session that was
worker_refused : (by : ℕ) (book : List Entry) (look : ℕ) (end : WorkerEnd) (xs : List Session) (door : Doorway) → AllByRecursion (FitsVisit serving_now by book look) xs
    → EndsWorker end xs door → end ≡ worker_ends.Worn → 9223372036854775808 ≤ look
worker_refused by book look end xs door fit ends is = go (subst (λ (e : WorkerEnd). EndsWorker e xs door) is ends)
  where
    go : EndsWorker worker_ends.Worn xs door → 9223372036854775808 ≤ look
    go w = refused_late by book look w.1 (last_fits (FitsVisit serving_now by book look) w.0 w.1 (subst (AllByRecursion (FitsVisit serving_now by book look)) w.2 fit)) w.4

module _ {D L : Type 0} (doorway : D → Doorway) (ringing : L → Ringing) where
  none_refused : (book : List Entry) (look n : ℕ) (given after : List (D × L)) (notes : List WorkerNote) → ¬ (9223372036854775808 ≤ look)
      → WorkOn doorway ringing book look n given after notes → NoneRefused notes
  none_refused book look n [] [] [] not h = tt
  none_refused book look n [] [] (note ∷ notes) not h = absurd h
  none_refused book look n [] (back ∷ after) notes not h = absurd h
  none_refused book look n (pair ∷ given) [] notes not h = absurd h
  none_refused book look n (pair ∷ given) (back ∷ after) [] not h = absurd h
  none_refused book look n (pair ∷ given) (back ∷ after) (note ∷ notes) not h = (
    (
      (λ is. not (worker_refused (n + 1) book look note.end h.0.sessions (doorway back.0) h.0.fit h.0.ends is)),
      subst (AllByRecursion (λ (m : SessionNote). m.end ≢ ends.Worn)) (sym h.0.noted) (none_of (n + 1) book look h.0.sessions not h.0.fit),
    ),
    none_refused book look (n + 1) given after notes not h.1,
  )

  pub worn_late : WornLate doorway ringing
  worn_late given after notes book h not = none_refused book (turns_of notes) 0 given after notes not h.each

  -- where no door failed, no worker ended so
  no_fault : (book : List Entry) (look n : ℕ) (given after : List (D × L)) (notes : List WorkerNote)
      → AllByRecursion (λ (p : D × L). IsNewPair (doorway p.0) (ringing p.1)) given → AllByRecursion (λ (p : D × L). (doorway p.0).faults ≡ 0) after
      → WorkOn doorway ringing book look n given after notes → AllByRecursion (λ (w : WorkerNote). w.end ≢ worker_ends.DoorFault) notes
  no_fault book look n [] [] [] new none h = tt
  no_fault book look n [] [] (note ∷ notes) new none h = absurd h
  no_fault book look n [] (back ∷ after) notes new none h = absurd h
  no_fault book look n (pair ∷ given) [] notes new none h = absurd h
  no_fault book look n (pair ∷ given) (back ∷ after) [] new none h = absurd h
  no_fault book look n (pair ∷ given) (back ∷ after) (note ∷ notes) new none h = (
    (λ is. stays (doorway pair.0).faults (doorway back.0).faults new.0.is_new_door.faults none.0 (h.0.faults.1 is).1),
    no_fault book look (n + 1) given after notes new.1 none.1 h.1,
  )
    where
      stays : (a b : ℕ) → a ≡ 0 → b ≡ 0 → Rose a b → ⊥
      stays a b e f (inl l) = omega (arith, e, f, l)
      stays a b e f (inr l) = omega (arith, f, l)

-- then the status is Done or Memory
no_outside : (notes : List WorkerNote) → AllByRecursion (λ (w : WorkerNote). w.end ≢ worker_ends.DoorFault) notes → (status_of notes ≡ statuses.Done) ⊎ (status_of notes ≡ statuses.Memory)
no_outside [] h = inl refl
no_outside (w ∷ ws) h = go w.end (status_of ws) h.0 (no_outside ws h.1)
  where
    go : (end : WorkerEnd) (s : Status) → end ≢ worker_ends.DoorFault → (s ≡ statuses.Done) ⊎ (s ≡ statuses.Memory) → (with_end end s ≡ statuses.Done) ⊎ (with_end end s ≡ statuses.Memory)
    go worker_ends.DoorEnd s n e = e
    go worker_ends.DoorFault s n e = absurd (n refl)
    go worker_ends.Worn s n e = e
    go worker_ends.Memory s n (inl e) = inr (ap (with_end worker_ends.Memory) e)
    go worker_ends.Memory s n (inr e) = inr (ap (with_end worker_ends.Memory) e)

module _ {D L : Type 0} (doorway : D → Doorway) (ringing : L → Ringing) where
  pub completes : Completes doorway ringing
  completes words asked served before after old new form runs port out doors = go runs
    where
      go : ServeRuns doorway ringing words served before after old new → (served.status ≡ statuses.Memory) ⊎ IsWhole words served old new
      go (no_form none x y z) = absurd (none asked form)
      go (no_memory x is y z) = inl is
      go (no_port other f x fails y) = absurd (port fails.rose)
      go (opened other given f gives x) = pairs other given f gives x
        where
          printed : (other : Asked) (book : List Entry) (middle : Outflow) → IsForm words other → served.book ≡ Some book → WritesAll (serving_line other.server) old middle
              → (status_of served.workers ≡ statuses.Done) ⊎ (status_of served.workers ≡ statuses.Memory)
              → PrintsLast book served.workers served.status middle new → (served.status ≡ statuses.Memory) ⊎ IsWhole words served old new
          printed other book middle f is wrote (inl done) (inl (inl p)) = inr (record {
            done = p.0 ∙ done;
            asked = other;
            form = f;
            book = book;
            closed = is;
            text = writes_both _ _ old middle new wrote p.1;
          })
          printed other book middle f is wrote (inr lack) (inl (inl p)) = inl (p.0 ∙ lack)
          printed other book middle f is wrote s (inl (inr p)) = absurd (out (subst (λ (n : ℕ). Rose n new.faults) wrote.faults p.1.rose))
          printed other book middle f is wrote s (inr p) = inl p.0

          before_work : (line : List ℕ) (book : Option (List Entry)) → BeforeWork line served.status old new book → served.status ≡ statuses.Memory
          before_work line _ (not_told is x) = is
          before_work line _ (cut_short is x) = absurd (out x.rose)
          before_work line _ (without_hall is x) = is
          before_work line _ (without_workers is x) = is

          pairs : (other : Asked) (given : List (D × L)) → IsForm words other → Gives doorway ringing other given before after → ServesPairs doorway ringing other given served old new
              → (served.status ≡ statuses.Memory) ⊎ IsWhole words served old new
          pairs other given f gives (no_work x y b) = inl (before_work (serving_line other.server) served.book b)
          pairs other given f gives (work book middle is legal h wrote p) =
              printed other book middle f is wrote
              (no_outside served.workers (no_fault doorway ringing book (turns_of served.workers) 0 given served.doors.items served.workers
              (all_each (λ (p : D × L). IsNewPair (doorway p.0) (ringing p.1)) given gives.fresh)
              (all_each (λ (p : D × L). (doorway p.0).faults ≡ 0) served.doors.items doors) h.each)) p

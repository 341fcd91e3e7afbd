-- Words that ask for nothing are told so, and no others are.
use Rattle.std.proofs.Common.{◌≡◌, ◌≢◌, ◌⊎◌, inl, inr, ℕ, List, [], ◌∷◌, Option, Some, None, length, sym, ap, subst, ◌∙◌}
use Rattle.braid_io.specs.Outside.{Intake, Outflow, Rose, WritesAll}
use Rattle.braid_io.specs.Bells.{Ringing}
use Rattle.braid_io.specs.Doors.{Doorway, Porting}
use Rattle.braid_io.specs.declared.port.Asked.{Asked}
use Rattle.braid_io.specs.declared.status.Status.{Status}
use Rattle.braid_io.specs.declared.status.Status.TheVariants.{Done, Bad, Usage, Outside, Memory, Cut}
use Rattle.braid_store.specs.declared.entry.Entry.{Entry}
use Rattle.braid_session.specs.declared.worker.WorkerEnd.{WorkerEnd}
use Rattle.braid_session.specs.declared.worker.WorkerEnd.TheVariants as ends
use Rattle.braid_session.specs.declared.worker.WorkerNote.{WorkerNote}
use Rattle.braid_check.specs.CheckTexts.{Ending, found, ended, failed, spent, stream, torn, IsCheckText}
use Rattle.braid_lines.specs.Prints.{IsPrinted, EndsAsUsage, usage_line}
use Rattle.braid_check.specs.Runs.{check_words, CheckRuns, LeavesAlone}
use Rattle.braid_server.specs.declared.serve.Served.{Served}
use Rattle.braid_server.specs.Commands as serving
use Rattle.braid_server.specs.Texts.{port_fault_line, serving_line, last_lines}
use Rattle.braid_server.specs.Workers.{sessions_of}
use Rattle.braid_server.specs.Runs.{with_end, status_of, BeforeWork, not_told, cut_short, without_hall, without_workers, ServesPairs, no_work, work, ServeRuns, no_form, no_memory, no_port, opened}
use Rattle.braid_client.specs.declared.command.Command.{Command}
use Rattle.braid_client.specs.declared.command.Command.TheVariants.{New, Edit, Set, Show, Sync, Follow}
use Rattle.braid_client.specs.Forms as asking
use Rattle.braid_client.specs.Runs.{Setting, ClientRuns}
use Rattle.braid_client.proofs.Causes as causes
use Rattle.braid_drill.specs.declared.words.Asked as drilled
use Rattle.braid_drill.specs.Forms as drilling
use Rattle.braid_drill.specs.Runs as drill_runs
use Rattle.braid_cli.specs.declared.table.Run.{Run}
use Rattle.braid_cli.specs.declared.table.Run.TheVariants.{Check, Serve, Client, Drill}
use Rattle.braid_cli.specs.Picks.{commands, run_in, run_of, Surroundings, setting_of, checks, serves, asks, drills, refuses}
use Rattle.braid_cli.specs.Refusals.{HasForm, check_form, serve_form, client_form, drill_form, OnlyUsage, EndsForNoForm, NoFormIsUsage}

-- the run that words of a form pick
check_run : (words : List (List ℕ)) → words ≡ check_words → run_of words ≡ Some Check
check_run words e = ap run_of e

serve_run : (words : List (List ℕ)) (asked : Asked) → serving.IsForm words asked → run_of words ≡ Some Serve
serve_run words asked f = ap run_of f.serve

own_run : (own : List ℕ) (rest : List (List ℕ)) (command : Command) → asking.Asks own rest command → run_in commands own ≡ Some Client
own_run own rest (New agent place) h = ap (run_in commands) h.0
own_run own rest (Edit start end text) h = ap (run_in commands) h.0
own_run own rest (Set text) h = ap (run_in commands) h.0
own_run own rest Show h = ap (run_in commands) h.0
own_run own rest Sync h = ap (run_in commands) h.0
own_run own rest (Follow count) h = ap (run_in commands) h.0

client_run : (words : List (List ℕ)) (name : List ℕ) (command : Command) → asking.IsForm words name command → run_of words ≡ Some Client
client_run words name command f = ap run_of f.split ∙ own_run f.own f.rest command f.asks

drill_run : (words : List (List ℕ)) (asked : drilled.Asked) → drilling.IsForm words asked → run_of words ≡ Some Drill
drill_run words asked f = ap run_of f.split

-- words pick one run
not_two : (words : List (List ℕ)) (r s : Run) → run_of words ≡ Some r → r ≢ s → run_of words ≡ Some s → ⊥
not_two words r s h n k = n (let e : Some r ≡ Some s = sym h ∙ k in cc)

not_none : (words : List (List ℕ)) (r : Run) → run_of words ≡ None → run_of words ≡ Some r → ⊥
not_none words r h k = let e : None ≡ Some r = sym h ∙ k in cc

-- words that have none of the forms
no_form_at : (words : List (List ℕ)) → words ≢ check_words
    → ((asked : Asked) → ¬ serving.IsForm words asked)
    → ((name : List ℕ) (command : Command) → ¬ asking.IsForm words name command)
    → ((asked : drilled.Asked) → ¬ drilling.IsForm words asked) → ¬ HasForm words
no_form_at words c s a d (check_form e) = c e
no_form_at words c s a d (serve_form asked f) = s asked f
no_form_at words c s a d (client_form name command f) = a name command f
no_form_at words c s a d (drill_form asked f) = d asked f

-- a text that was written under its own status, where the status is Usage
own_is_usage : (text : List ℕ) (own status : Status) (old new : Outflow) → IsPrinted text own status old new → status ≡ Usage → (own ≡ Usage) × WritesAll text old new
own_is_usage text own status old new (inl h) u = (sym h.0 ∙ u, h.1)
own_is_usage text own status old new (inr h) u = absurd (let z : Outside ≡ Usage = sym h.0 ∙ u in cc)

-- a check of a stream has another status
text_no_usage : (ending : Ending) (bytes text : List ℕ) → IsCheckText ending bytes Usage text → ⊥
text_no_usage found bytes text h = let z = h.0 in cc
text_no_usage ended bytes text (stream us accepted is e t) = cc
text_no_usage ended bytes text (torn nothing is e t) = cc
text_no_usage failed bytes text h = let z = h.1 in cc
text_no_usage spent bytes text h = let z = h.1 in cc

check_no_usage : (before after : Intake) (old new : Outflow) → CheckRuns Usage before after old new → ⊥
check_no_usage before after old new (inl h) = text_no_usage h.1.ending h.1.bytes h.0 h.1.reports
check_no_usage before after old new (inr h) = let z = h.0 in cc

-- so have workers
end_no_usage : (e : WorkerEnd) (s : Status) → s ≢ Usage → with_end e s ≢ Usage
end_no_usage ends.DoorEnd s n = n
end_no_usage ends.DoorFault s n = λ e. cc
end_no_usage ends.Worn s n = n
end_no_usage ends.Memory Done n = λ e. cc
end_no_usage ends.Memory Bad n = n
end_no_usage ends.Memory Usage n = n
end_no_usage ends.Memory Outside n = λ e. cc
end_no_usage ends.Memory Memory n = n
end_no_usage ends.Memory Cut n = n

notes_no_usage : (notes : List WorkerNote) → status_of notes ≢ Usage
notes_no_usage [] = λ e. cc
notes_no_usage (n ∷ notes) = end_no_usage n.end (status_of notes) (notes_no_usage notes)

-- and a server that was not begun
before_no_usage : (line : List ℕ) (status : Status) (old new : Outflow) (book : Option (List Entry)) → BeforeWork line status old new book → status ≢ Usage
before_no_usage line status old new _ (not_told s e) u = let z : Memory ≡ Usage = sym s ∙ u in cc
before_no_usage line status old new _ (cut_short s w) u = let z : Outside ≡ Usage = sym s ∙ u in cc
before_no_usage line status old new _ (without_hall s w) u = let z : Memory ≡ Usage = sym s ∙ u in cc
before_no_usage line status old new _ (without_workers s w) u = let z : Memory ≡ Usage = sym s ∙ u in cc

pairs_no_usage : {D L : Type 0} (doorway : D → Doorway) (ringing : L → Ringing) (asked : Asked) (given : List (D × L)) (served : Served D L) (old new : Outflow)
    → ServesPairs doorway ringing asked given served old new → served.status ≢ Usage
pairs_no_usage doorway ringing asked given served old new (no_work w d before) u = before_no_usage (serving_line asked.server) served.status old new served.book before u
pairs_no_usage doorway ringing asked given served old new (work book middle b l h w (inl p)) u =
    notes_no_usage served.workers (own_is_usage (last_lines (length book) (sessions_of served.workers)) (status_of served.workers) served.status middle new p u).0
pairs_no_usage doorway ringing asked given served old new (work book middle b l h w (inr m)) u = let z : Memory ≡ Usage = sym m.0 ∙ u in cc

-- a server with status Usage
serve_usage : {D L : Type 0} (doorway : D → Doorway) (ringing : L → Ringing) (words : List (List ℕ)) (served : Served D L) (before after : Porting) (old new : Outflow)
    → ServeRuns doorway ringing words served before after old new → served.status ≡ Usage
    → ((asked : Asked) → ¬ serving.IsForm words asked) × (after ≡ before) × WritesAll usage_line old new
serve_usage doorway ringing words served before after old new (no_form none empty same p) u = (none, same, (own_is_usage usage_line Usage served.status old new p u).1)
serve_usage doorway ringing words served before after old new (no_memory empty m same silent) u = absurd (let z : Memory ≡ Usage = sym m ∙ u in cc)
serve_usage doorway ringing words served before after old new (no_port asked is empty fails p) u =
    absurd (let z : Outside ≡ Usage = (own_is_usage port_fault_line Outside served.status old new p u).0 in cc)
serve_usage doorway ringing words served before after old new (opened asked given is gives pairs) u =
    absurd (pairs_no_usage doorway ringing asked given served old new pairs u)

-- a drill with status Usage
drill_usage : (words : List (List ℕ)) (status : Status) (old new : Outflow) → drill_runs.DrillRuns words status old new → status ≡ Usage
    → ((asked : drilled.Asked) → ¬ drilling.IsForm words asked) × WritesAll usage_line old new
drill_usage words status old new (drill_runs.no_form none p) u = (none, (own_is_usage usage_line Usage status old new p u).1)
drill_usage words status old new (drill_runs.drilled asked text is report p) u =
    absurd (let z : Done ≡ Usage = (own_is_usage text Done status old new p u).0 in cc)
drill_usage words status old new (drill_runs.no_memory asked is m same) u = absurd (let z : Memory ≡ Usage = sym m ∙ u in cc)

-- what a client's run leaves of the surroundings that it sees
seen_alone : (old new : Surroundings) → new ≡ record old { keeping = new.keeping; dialing = new.dialing; outflow = new.outflow }
    → setting_of new ≡ record (setting_of old) { outflow = new.outflow } → new ≡ record old { outflow = new.outflow }
seen_alone old new same seen =
    let keeps : new.keeping ≡ old.keeping = ap (λ (s : Setting). s.keeping) seen in
    let dials : new.dialing ≡ old.dialing = ap (λ (s : Setting). s.dialing) seen in
    same ∙ (λ i. record old { keeping = keeps i; dialing = dials i; outflow = new.outflow })

pub only_usage : {D L : Type 0} (doorway : D → Doorway) (ringing : L → Ringing) → OnlyUsage doorway ringing
only_usage doorway ringing words ran old new (checks picked unserved same runs succeeds) u =
    record {
      none = no_form_at words other
          (λ asked f. not_two words Check Serve picked (λ e. cc) (serve_run words asked f))
          (λ name command f. not_two words Check Client picked (λ e. cc) (client_run words name command f))
          (λ asked f. not_two words Check Drill picked (λ e. cc) (drill_run words asked f));
      untouched = same ∙ ap (λ (i : Intake). record old { intake = i; outflow = new.outflow }) alone.untouched;
      line = (own_is_usage usage_line Usage ran.status old.outflow new.outflow alone.line u).1;
    }
  where
    other : words ≢ check_words
    other e = check_no_usage old.intake new.intake old.outflow new.outflow
        (subst (λ (s : Status). CheckRuns s old.intake new.intake old.outflow new.outflow) u (runs.check e))

    alone : LeavesAlone ran.status old.intake new.intake old.outflow new.outflow
    alone = runs.others other
only_usage doorway ringing words ran old new (serves served picked there status same runs) u =
    record {
      none = no_form_at words
          (λ e. not_two words Serve Check picked (λ e. cc) (check_run words e))
          was.0
          (λ name command f. not_two words Serve Client picked (λ e. cc) (client_run words name command f))
          (λ asked f. not_two words Serve Drill picked (λ e. cc) (drill_run words asked f));
      untouched = same ∙ ap (λ (p : Porting). record old { porting = p; outflow = new.outflow }) was.1;
      line = was.2;
    }
  where
    was : ((asked : Asked) → ¬ serving.IsForm words asked) × (new.porting ≡ old.porting) × WritesAll usage_line old.outflow new.outflow
    was = serve_usage doorway ringing words served old.porting new.porting old.outflow new.outflow runs (sym status ∙ u)
only_usage doorway ringing words ran old new (asks picked unserved same runs) u =
    record {
      none = no_form_at words
          (λ e. not_two words Client Check picked (λ e. cc) (check_run words e))
          (λ asked f. not_two words Client Serve picked (λ e. cc) (serve_run words asked f))
          was.0
          (λ asked f. not_two words Client Drill picked (λ e. cc) (drill_run words asked f));
      untouched = seen_alone old new same was.1;
      line = was.2;
    }
  where
    was : asking.HasNoForm words × (setting_of new ≡ record (setting_of old) { outflow = new.outflow }) × WritesAll usage_line old.outflow new.outflow
    was = causes.only_usage words (setting_of old) (setting_of new)
        (subst (λ (s : Status). ClientRuns words s (setting_of old) (setting_of new)) u runs)
only_usage doorway ringing words ran old new (drills picked unserved same runs) u =
    record {
      none = no_form_at words
          (λ e. not_two words Drill Check picked (λ e. cc) (check_run words e))
          (λ asked f. not_two words Drill Serve picked (λ e. cc) (serve_run words asked f))
          (λ name command f. not_two words Drill Client picked (λ e. cc) (client_run words name command f))
          was.0;
      untouched = same;
      line = was.1;
    }
  where
    was : ((asked : drilled.Asked) → ¬ drilling.IsForm words asked) × WritesAll usage_line old.outflow new.outflow
    was = drill_usage words ran.status old.outflow new.outflow runs u
only_usage doorway ringing words ran old new (refuses picked unserved same runs) u =
    record {
      none = no_form_at words
          (λ e. not_none words Check picked (check_run words e))
          (λ asked f. not_none words Serve picked (serve_run words asked f))
          (λ name command f. not_none words Client picked (client_run words name command f))
          (λ asked f. not_none words Drill picked (drill_run words asked f));
      untouched = same;
      line = (own_is_usage usage_line Usage ran.status old.outflow new.outflow runs u).1;
    }

-- the line was written, or a front of it
ends_so : (status : Status) (old new : Surroundings) → EndsAsUsage status old.outflow new.outflow → EndsForNoForm status old new
ends_so status old new (inl h) = inl h.0
ends_so status old new (inr h) = inr (inl (h.0, h.1.rose))

-- a server whose words have no form
serve_refuses : {D L : Type 0} (doorway : D → Doorway) (ringing : L → Ringing) (words : List (List ℕ)) (served : Served D L) (status : Status) (old new : Surroundings)
    → ((asked : Asked) → ¬ serving.IsForm words asked) → status ≡ served.status
    → new ≡ record old { porting = new.porting; outflow = new.outflow }
    → ServeRuns doorway ringing words served old.porting new.porting old.outflow new.outflow
    → (new ≡ record old { outflow = new.outflow }) × EndsForNoForm status old new
serve_refuses doorway ringing words served status old new none s same (no_form not empty still p) = (
  same ∙ ap (λ (x : Porting). record old { porting = x; outflow = new.outflow }) still,
  ends_so status old new (subst (λ (x : Status). EndsAsUsage x old.outflow new.outflow) (sym s) p),
)
serve_refuses doorway ringing words served status old new none s same (no_memory empty m still silent) = (
  same ∙ ap (λ (x : Porting). record old { porting = x; outflow = new.outflow }) still,
  inr (inr (s ∙ m, same ∙ (λ i. record old { porting = still i; outflow = silent i }))),
)
serve_refuses doorway ringing words served status old new none s same (no_port asked is empty fails p) = absurd (none asked is)
serve_refuses doorway ringing words served status old new none s same (opened asked given is gives pairs) = absurd (none asked is)

-- a drill whose words have no form
drill_refuses : (words : List (List ℕ)) (status : Status) (old new : Surroundings)
    → ((asked : drilled.Asked) → ¬ drilling.IsForm words asked) → drill_runs.DrillRuns words status old.outflow new.outflow
    → EndsForNoForm status old new
drill_refuses words status old new none (drill_runs.no_form not p) = ends_so status old new p
drill_refuses words status old new none (drill_runs.drilled asked text is report p) = absurd (none asked is)
drill_refuses words status old new none (drill_runs.no_memory asked is m same) = absurd (none asked is)

pub no_form_is_usage : {D L : Type 0} (doorway : D → Doorway) (ringing : L → Ringing) → NoFormIsUsage doorway ringing
no_form_is_usage doorway ringing words ran old new none (checks picked unserved same runs succeeds) = (
  same ∙ ap (λ (i : Intake). record old { intake = i; outflow = new.outflow }) alone.untouched,
  ends_so ran.status old new alone.line,
)
  where
    alone : LeavesAlone ran.status old.intake new.intake old.outflow new.outflow
    alone = runs.others (λ e. none (check_form e))
no_form_is_usage doorway ringing words ran old new none (serves served picked there status same runs) =
    serve_refuses doorway ringing words served ran.status old new (λ asked f. none (serve_form asked f)) status same runs
no_form_is_usage doorway ringing words ran old new none (asks picked unserved same runs) =
    go (causes.no_form_is_usage words ran.status (setting_of old) (setting_of new) (λ name command f. none (client_form name command f)) runs)
  where
    go : (ran.status ≡ Usage)
        ⊎ (((ran.status ≡ Outside) × (setting_of new ≡ record (setting_of old) { outflow = new.outflow }) × Rose old.outflow.faults new.outflow.faults)
        ⊎ ((ran.status ≡ Memory) × (setting_of new ≡ setting_of old)))
        → (new ≡ record old { outflow = new.outflow }) × EndsForNoForm ran.status old new
    go (inl u) = ((only_usage doorway ringing words ran old new (asks picked unserved same runs) u).untouched, inl u)
    go (inr (inl h)) = (seen_alone old new same h.1, inr (inl (h.0, h.2)))
    go (inr (inr h)) =
        let prints : new.outflow ≡ old.outflow = ap (λ (s : Setting). s.outflow) h.1 in
        let rest : new ≡ record old { outflow = new.outflow } =
        seen_alone old new same (h.1 ∙ (λ i. record (setting_of old) { outflow = sym prints i })) in
        (rest, inr (inr (h.0, rest ∙ (λ i. record old { outflow = prints i }))))
no_form_is_usage doorway ringing words ran old new none (drills picked unserved same runs) =
    (same, drill_refuses words ran.status old new (λ asked f. none (drill_form asked f)) runs)
no_form_is_usage doorway ringing words ran old new none (refuses picked unserved same runs) =
    (same, ends_so ran.status old new runs)

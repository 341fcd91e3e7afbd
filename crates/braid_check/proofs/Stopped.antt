-- A history that is read update by update, and how its reading stops.
use Rattle.std.proofs.Common.{◌≡◌, ℕ, List, [], ◌∷◌, ◌++◌, refl, ap, sym, subst, ◌∙◌, arith, inl, inr}
use Rattle.braid_io.specs.Outside.{Intake, Moves}
use Rattle.braid_change.specs.Updates.{UpdateView}
use Rattle.braid_frame.specs.declared.fed.FrameFault.{FrameFault}
use Rattle.braid_stream.specs.declared.next.Next.{Next}
use Rattle.braid_stream.specs.declared.next.Next.TheVariants.{Update, End, Torn, Fault, ReadFault, Spent, Memory}
use Rattle.braid_stream.specs.declared.reading.Reading.{Reading}
use Rattle.braid_stream.specs.Readers.{HasTaken, GoesOn, Answers, IsCause}
use Rattle.braid_grammar.specs.Streams.{HaveUpdates}
use Rattle.braid_change.specs.Updates.{IsUpdate}
use Rattle.braid_grammar.proofs.OneUpdate.{spelled_is_update}
use Rattle.braid_stream.proofs.Moved.{moves_none, moves_more, moves_gives}
use Rattle.braid_stream.proofs.Caused.{cause_after}
use Rattle.braid_check.specs.declared.stop.Stop.{Stop}
use Rattle.braid_check.specs.declared.stop.Stop.TheVariants as stops
use Rattle.braid_text.specs.declared.accept.Accept.{Accept}
use Rattle.braid_check.specs.Accepted.{history_of, replica_answer, IsRefused}
use Rattle.braid_check.specs.Kept.{Keeps, StopsFor, ReadsHistory}
use Rattle.braid_check.specs.CheckTexts.{found, ended, failed, spent, fault, refusal, stream, torn, ShowNothing, text_at_stop, status_of, torn_text, history_text, refusal_text}
use Rattle.braid_io.specs.Outside.{Outflow, WritesAll}
use Rattle.braid_io.specs.declared.status.Status.{Status}
use Rattle.braid_lines.specs.Prints.{IsPrinted}
use Rattle.braid_check.specs.Runs.{GivesSome, Checked, CheckRuns}

-- as far as it was read: a history, by a reader that goes on
pub record ReadSoFar (reader : Reading) (H : List UpdateView) (before after : Intake) : Type 0 where
  pub updates : List UpdateView
  pub bytes : List ℕ
  pub moves : Moves bytes before after
  pub taken : HasTaken updates reader bytes
  pub going : GoesOn reader
  pub keeps : Keeps updates H

pub read_none : (reader : Reading) (H : List UpdateView) (at : Intake) → HasTaken [] reader [] → GoesOn reader → Keeps [] H → ReadSoFar reader H at at
read_none reader H at h g k = record { updates = []; bytes = []; moves = moves_none at; taken = h; going = g; keeps = k }

-- one more update
pub read_on : (old new : Reading) (H grown : List UpdateView) (u : UpdateView) (before middle after : Intake) → (s : ReadSoFar old H before middle) → Answers s.updates s.bytes (Update u) new middle after → Keeps (s.updates ++ u ∷ []) grown → ReadSoFar new grown before after
read_on old new H grown u before middle after s a k =
    record {
      updates = s.updates ++ u ∷ [];
      bytes = s.bytes ++ a.more;
      moves = moves_more s.bytes a.more before middle after s.moves a.cause.0;
      taken = a.leaves.1;
      going = a.leaves.0;
      keeps = k;
    }

-- the cause of an answer, in all bytes
whole_cause : (old new : Reading) (H : List UpdateView) (next : Next) (before middle after : Intake) → (s : ReadSoFar old H before middle) → (a : Answers s.updates s.bytes next new middle after) → IsCause s.updates (s.bytes ++ a.more) (s.bytes ++ a.more) before after next
whole_cause old new H next before middle after s a = cause_after s.updates s.bytes a.more (s.bytes ++ a.more) next before middle after s.moves a.cause

stopped : (old new : Reading) (H : List UpdateView) (next : Next) (stop : Stop) (before middle after : Intake) → (s : ReadSoFar old H before middle) → (a : Answers s.updates s.bytes next new middle after) → StopsFor s.updates (s.bytes ++ a.more) before after stop → ReadsHistory H stop before after
stopped old new H next stop before middle after s a f = record { updates = s.updates; bytes = s.bytes ++ a.more; keeps = s.keeps; stops = f }

pub stop_end : (old new : Reading) (H : List UpdateView) (before middle after : Intake) → (s : ReadSoFar old H before middle) → Answers s.updates s.bytes End new middle after → ReadsHistory H stops.End before after
stop_end old new H before middle after s a = stopped old new H End stops.End before middle after s a (whole_cause old new H End before middle after s a)

pub stop_torn : (old new : Reading) (H : List UpdateView) (at : ℕ) (before middle after : Intake) → (s : ReadSoFar old H before middle) → Answers s.updates s.bytes (Torn at) new middle after → ReadsHistory H (stops.Torn at) before after
stop_torn old new H at before middle after s a = stopped old new H (Torn at) (stops.Torn at) before middle after s a (whole_cause old new H (Torn at) before middle after s a)

pub stop_fault : (old new : Reading) (H : List UpdateView) (f : FrameFault) (before middle after : Intake) → (s : ReadSoFar old H before middle) → Answers s.updates s.bytes (Fault f) new middle after → ReadsHistory H (stops.Fault f) before after
stop_fault old new H f before middle after s a = stopped old new H (Fault f) (stops.Fault f) before middle after s a (whole_cause old new H (Fault f) before middle after s a)

pub stop_read_fault : (old new : Reading) (H : List UpdateView) (before middle after : Intake) → (s : ReadSoFar old H before middle) → Answers s.updates s.bytes ReadFault new middle after → ReadsHistory H stops.ReadFault before after
stop_read_fault old new H before middle after s a = stopped old new H ReadFault stops.ReadFault before middle after s a (whole_cause old new H ReadFault before middle after s a)

pub stop_spent : (old new : Reading) (H : List UpdateView) (before middle after : Intake) → (s : ReadSoFar old H before middle) → Answers s.updates s.bytes Spent new middle after → ReadsHistory H stops.Spent before after
stop_spent old new H before middle after s a = stopped old new H Spent stops.Spent before middle after s a (whole_cause old new H Spent before middle after s a)

-- an update that is refused
pub stop_refused : (old new : Reading) (H same : List UpdateView) (u : UpdateView) (answer : Accept) (before middle after : Intake) → (s : ReadSoFar old H before middle) → Answers s.updates s.bytes (Update u) new middle after → IsRefused s.updates u → answer ≡ replica_answer (history_of s.updates) u → Keeps s.updates same → ReadsHistory same (stops.Refused answer) before after
stop_refused old new H same u answer before middle after s a n e k =
    let c = whole_cause old new H (Update u) before middle after s a in
    record { updates = s.updates; bytes = s.bytes ++ a.more; keeps = k; stops = (c.0, record { update = u; begins = c.1; refused = n; told = e }, a.leaves.1.within) }

-- an update that a reader answers is one that the program can hold
pub update_is : (us : List UpdateView) (bytes : List ℕ) (u : UpdateView) (new : Reading) (before after : Intake) → Answers us bytes (Update u) new before after → IsUpdate u
update_is us bytes u new before after a = let e = a.cause.1.ends in spelled_is_update u e.last e.is_last

-- what was given where there was no memory
pub some_at_memory : (old new : Reading) (H : List UpdateView) (before middle after : Intake) → (s : ReadSoFar old H before middle) → Answers s.updates s.bytes Memory new middle after → GivesSome before after
some_at_memory old new H before middle after s a =
    let c = whole_cause old new H Memory before middle after s a in
    record { bytes = s.bytes ++ a.more; short = c.1; gives = moves_gives _ _ _ c.0 }

pub some_at_update : (old new : Reading) (H : List UpdateView) (u : UpdateView) (before middle after : Intake) → (s : ReadSoFar old H before middle) → Answers s.updates s.bytes (Update u) new middle after → GivesSome before after
some_at_update old new H u before middle after s a =
    let c = whole_cause old new H (Update u) before middle after s a in
    record { bytes = s.bytes ++ a.more; short = a.leaves.1.within; gives = moves_gives _ _ _ c.0 }

-- what was given where reading stopped
pub some_read : (H : List UpdateView) (stop : Stop) (before after : Intake) → ReadsHistory H stop before after → GivesSome before after
some_read H stop before after r = go stop r.stops
  where
    go : (stop : Stop) → StopsFor r.updates r.bytes before after stop → GivesSome before after
    go stops.End f = record { bytes = r.bytes; short = omega (arith, f.2); gives = moves_gives _ _ _ f.0.moves }
    go (stops.Torn at) f = record { bytes = r.bytes; short = omega (arith, f.4); gives = moves_gives _ _ _ f.0.moves }
    go (stops.Fault x) f = record { bytes = r.bytes; short = f.2; gives = moves_gives _ _ _ f.0 }
    go (stops.Refused answer) f = record { bytes = r.bytes; short = f.2; gives = moves_gives _ _ _ f.0 }
    go stops.ReadFault f = record { bytes = r.bytes; short = omega (arith, f.2); gives = f.0.gives }
    go stops.Spent f = record { bytes = r.bytes; short = omega (arith, f.2); gives = moves_gives _ _ _ f.0 }

-- the same by the names that a choice gives
pub read_as : (H own : List UpdateView) (stop cause : Stop) (before after : Intake) → H ≡ own → stop ≡ cause → ReadsHistory own cause before after → ReadsHistory H stop before after
read_as H own stop cause before after c s r = subst (λ (x : List UpdateView). ReadsHistory x stop before after) (sym c) (subst (λ (x : Stop). ReadsHistory own x before after) (sym s) r)

-- where reading stopped, what was read and why gives the status and the text
pub checked : (H : List UpdateView) (stop : Stop) (before after : Intake) (text : List ℕ) → ReadsHistory H stop before after → text ≡ text_at_stop H stop → Checked before after (status_of stop) text
checked H stop before after text r same = go stop r.stops same
  where
    nothing : HaveUpdates r.updates r.bytes → ShowNothing r.bytes
    nothing h = record { updates = r.updates; accepted = r.keeps.accepted; have = h }

    go : (stop : Stop) → StopsFor r.updates r.bytes before after stop → text ≡ text_at_stop H stop → Checked before after (status_of stop) text
    go stops.End f e = record { ending = ended; bytes = r.bytes; reads = (f.0, f.2); reports = stream r.updates r.keeps.accepted f.1 refl (e ∙ ap history_text r.keeps.history) }
    go (stops.Torn at) f e = record { ending = ended; bytes = r.bytes; reads = (f.0, f.4); reports = torn (nothing f.1) f.2 refl (e ∙ ap torn_text f.3) }
    go (stops.Fault x) f e = record { ending = found; bytes = r.bytes; reads = (f.0, f.2); reports = (refl, fault r.updates x r.keeps.accepted f.1 e) }
    go (stops.Refused answer) f e = let o = f.1 in record { ending = found; bytes = r.bytes; reads = (f.0, f.2); reports = (refl, refusal r.updates o.update o.refused o.begins (e ∙ ap refusal_text o.told)) }
    go stops.ReadFault f e = record { ending = failed; bytes = r.bytes; reads = (f.0, f.2); reports = (nothing f.1, refl, e) }
    go stops.Spent f e = record { ending = spent; bytes = r.bytes; reads = (f.0, f.2); reports = (nothing f.1, refl, e) }

-- a text that was written, under its own status
pub runs_whole : (stop : Stop) (status : Status) (text : List ℕ) (before after : Intake) (old new : Outflow) → status ≡ status_of stop → Checked before after (status_of stop) text → WritesAll text old new → CheckRuns status before after old new
runs_whole stop status text before after old new e c w = subst (λ (s : Status). CheckRuns s before after old new) (sym e) (go stop c)
  where
    go : (stop : Stop) → Checked before after (status_of stop) text → CheckRuns (status_of stop) before after old new
    go stops.End c = inl (text, c, w)
    go (stops.Torn at) c = inl (text, c, w)
    go (stops.Fault x) c = inl (text, c, w)
    go (stops.Refused answer) c = inl (text, c, w)
    go stops.ReadFault c = inl (text, c, w)
    go stops.Spent c = inl (text, c, w)

-- the same of a text that was printed, whole or in part
pub runs_printed : (stop : Stop) (own status : Status) (text : List ℕ) (before after : Intake) (old new : Outflow) → own ≡ status_of stop → Checked before after (status_of stop) text
    → IsPrinted text own status old new → CheckRuns status before after old new
runs_printed stop own status text before after old new e c (inl h) =
    subst (λ (s : Status). CheckRuns s before after old new) (sym h.0) (runs_whole stop own text before after old new e c h.1)
runs_printed stop own status text before after old new e c (inr h) =
    subst (λ (s : Status). CheckRuns s before after old new) (sym h.0) (inr (refl, (status_of stop, text, c, h.1)))

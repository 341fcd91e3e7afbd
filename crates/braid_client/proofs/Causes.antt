-- Why a run ends as it does.
use Rattle.std.proofs.Common.{◌≡◌, ◌≢◌, ◌⊎◌, inl, inr, ℕ, ◌≤◌, List, Result, Ok, Err, refl, sym, ap, subst, ◌∙◌}
use Rattle.braid_io.specs.Outside.{Outflow, Rose, WritesAll}
use Rattle.braid_io.specs.Keepers.{Keeping}
use Rattle.braid_io.specs.declared.status.Status.{Status}
use Rattle.braid_io.specs.declared.status.Status.TheVariants.{Done, Bad, Usage, Outside, Memory}
use Rattle.braid_change.specs.declared.change.Change.{Change}
use Rattle.braid_outbox.specs.Writes.{additions}
use Rattle.braid_sync.specs.declared.place.Place.{Place}
use Rattle.braid_sync.specs.declared.end.SyncEnd.{SyncEnd}
use Rattle.braid_sync.specs.declared.end.SyncEnd.TheVariants as ends
use Rattle.braid_sync.specs.Talks.{nothing_failed, dial_failed, read_failed, write_failed, print_failed, Failing}
use Rattle.braid_sync.specs.Syncs.{failing}
use Rattle.braid_sync.specs.Laws.{RoseBy}
use Rattle.braid_sync.proofs.LawCounts.{counts_rose}
use Rattle.braid_sync.proofs.LawEnds.{sync_prints}
use Rattle.braid_client.specs.declared.command.Command.{Command}
use Rattle.braid_client.specs.declared.command.Command.TheVariants.{New, Edit, Set, Show, Sync, Follow}
use Rattle.braid_client.specs.declared.fault.Fault.{Fault}
use Rattle.braid_client.specs.declared.fault.Fault.TheVariants as faults
use Rattle.braid_client.specs.declared.report.Report.{Report}
use Rattle.braid_lines.specs.Lines.{fault_line}
use Rattle.braid_client.specs.Texts.{fault_name, fault_status, end_text, end_status, new_text, wrote_text, show_text, synced_text, followed_text}
use Rattle.braid_lines.specs.Prints.{IsPrinted}
use Rattle.braid_client.specs.Runs.{Setting, done_with, LacksReplica, MakesState, new_unloaded, new_exists, new_unkept, new_made, new_unaided, WritesChange, write_lacking, write_refused, write_unkept, written, write_unaided, ShowsState, show_lacking, shown, show_unaided, RunsSync, sync_lacking, sync_unkept, sync_ended, sync_unbegun, sync_unaided, RunsFollow, follow_lacking, follow_unkept, follow_unprinted, follow_ended, follow_unbegun, follow_unaided, CarriesOut, CarriesOutWords, Faults, GivesUp, Finishes}
use Rattle.braid_client.specs.Laws.{SomeRose, OutsideRose, LoadFaultRose, SaveFaultRose, OnlyUsage, NoFormIsUsage, KeepsNone}
use Rattle.braid_client.proofs.Counts.{rose_after, rose_before, carried_as, part_rose, words_up, finishes_up}
use Rattle.braid_client.proofs.OneTalk.{out_line}

-- what a fault tells of what is kept: a count rose, or nothing changed
abbrev pub FaultTells : Fault → Keeping → Keeping → Type 0
FaultTells faults.LoadFault old new = Rose old.load_faults new.load_faults
FaultTells faults.SaveFault old new = Rose old.save_faults new.save_faults
FaultTells faults.Usage old new = ⊥
FaultTells fault old new = new ≡ old

-- the same of what a command has to report
abbrev pub Tells : Result Report Fault → Setting → Setting → Type 0
Tells (Ok report) old new = (report.status ≡ Outside → SomeRose old new) × (report.status ≡ Usage → ⊥) × (report.status ≡ Memory → ⊥)
Tells (Err fault) old new = FaultTells fault old.keeping new.keeping

lacks_tells : (name : List ℕ) (fault : Fault) (old new : Keeping) → LacksReplica name fault old new → FaultTells fault old new
lacks_tells name faults.Usage old new h = h
lacks_tells name faults.NoState old new h = h.1
lacks_tells name faults.Exists old new h = absurd h
lacks_tells name (faults.BadState at) old new h = h.1.1
lacks_tells name (faults.BadEntry n) old new h = h.2.1
lacks_tells name (faults.Write f) old new h = absurd h
lacks_tells name faults.LoadFault old new h = h.2
lacks_tells name faults.SaveFault old new h = absurd h
lacks_tells name faults.Memory old new h = absurd h

-- a report under status Done
done_tells : (report : Report) (old new : Setting) → report.status ≡ Done → Tells (Ok report) old new
done_tells report old new e = (
  (λ o. absurd (let z : Done ≡ Outside = sym e ∙ o in cc)),
  (λ u. let z : Done ≡ Usage = sym e ∙ u in cc),
  (λ m. let z : Done ≡ Memory = sym e ∙ m in cc),
)

makes_tells : (name : List ℕ) (place : Place) (agent : List ℕ) (old new : Setting) (x : Result Report Fault) → MakesState name place agent old.keeping new.keeping x → Tells x old new
makes_tells name place agent old new _ (new_unloaded h) = h.2
makes_tells name place agent old new _ (new_exists bytes h) = h.1
makes_tells name place agent old new _ (new_unkept h k) = k.3
makes_tells name place agent old new _ (new_made h k) = done_tells (done_with (new_text agent)) old new refl
makes_tells name place agent old new _ (new_unaided e) = e

writes_tells : (name : List ℕ) (change : Change) (old new : Setting) (x : Result Report Fault) → WritesChange name change old.keeping new.keeping x → Tells x old new
writes_tells name change old new _ (write_lacking fault h) = lacks_tells name fault old.keeping new.keeping h
writes_tells name change old new _ (write_refused place r fault h n w e) = e
writes_tells name change old new _ (write_unkept place r h w k) = k.3
writes_tells name change old new _ (written place r h w k) = done_tells (done_with (wrote_text (additions r change))) old new refl
writes_tells name change old new _ (write_unaided e) = e

shows_tells : (name : List ℕ) (old new : Setting) (x : Result Report Fault) → ShowsState name old.keeping new.keeping x → Tells x old new
shows_tells name old new _ (show_lacking fault h) = lacks_tells name fault old.keeping new.keeping h
shows_tells name old new _ (shown place r h e) = done_tells (done_with (show_text place.path r)) old new refl
shows_tells name old new _ (show_unaided e) = e

-- an end that had status Outside is one at which a call failed
end_fails : (end : SyncEnd) → end_status end ≡ Outside → (failing end ≡ nothing_failed) → ⊥
end_fails ends.DialFault e f = cc
end_fails ends.ReadFault e f = cc
end_fails ends.WriteFault e f = cc
end_fails ends.OutFault e f = cc
end_fails ends.Done e f = cc
end_fails ends.Cut e f = cc
end_fails (ends.Peer status) e f = cc
end_fails ends.Spent e f = cc
end_fails ends.Memory e f = cc
end_fails (ends.BadHead x) e f = cc
end_fails ends.NoCurrent e f = cc
end_fails ends.BadCurrent e f = cc
end_fails ends.OtherMergeType e f = cc
end_fails (ends.BadStream x) e f = cc
end_fails (ends.Clash v) e f = cc
end_fails (ends.UnknownParent v) e f = cc
end_fails (ends.OutOfRange n l) e f = cc
end_fails (ends.Full w l) e f = cc

end_usage : (end : SyncEnd) → end_status end ≡ Usage → ⊥
end_usage ends.DialFault e = cc
end_usage ends.ReadFault e = cc
end_usage ends.WriteFault e = cc
end_usage ends.OutFault e = cc
end_usage ends.Done e = cc
end_usage ends.Cut e = cc
end_usage (ends.Peer status) e = cc
end_usage ends.Spent e = cc
end_usage ends.Memory e = cc
end_usage (ends.BadHead x) e = cc
end_usage ends.NoCurrent e = cc
end_usage ends.BadCurrent e = cc
end_usage ends.OtherMergeType e = cc
end_usage (ends.BadStream x) e = cc
end_usage (ends.Clash v) e = cc
end_usage (ends.UnknownParent v) e = cc
end_usage (ends.OutOfRange n l) e = cc
end_usage (ends.Full w l) e = cc

end_memory : (end : SyncEnd) → end ≢ ends.Memory → end_status end ≡ Memory → ⊥
end_memory ends.DialFault n e = cc
end_memory ends.ReadFault n e = cc
end_memory ends.WriteFault n e = cc
end_memory ends.OutFault n e = cc
end_memory ends.Done n e = cc
end_memory ends.Cut n e = cc
end_memory (ends.Peer status) n e = cc
end_memory ends.Spent n e = cc
end_memory ends.Memory n e = n refl
end_memory (ends.BadHead x) n e = cc
end_memory ends.NoCurrent n e = cc
end_memory ends.BadCurrent n e = cc
end_memory ends.OtherMergeType n e = cc
end_memory (ends.BadStream x) n e = cc
end_memory (ends.Clash v) n e = cc
end_memory (ends.UnknownParent v) n e = cc
end_memory (ends.OutOfRange n1 l) n e = cc
end_memory (ends.Full w l) n e = cc

-- a count that belongs to the call that failed rose
some_rose : (f : Failing) (old new : Setting) → RoseBy f old.dialing new.dialing → (f ≡ nothing_failed → ⊥) → (f ≡ print_failed → SomeRose old new) → SomeRose old new
some_rose nothing_failed old new h n p = absurd (n refl)
some_rose dial_failed old new h n p = inr (inr (inl h.0))
some_rose read_failed old new h n p = inr (inr (inr (inl h.1)))
some_rose write_failed old new h n p = inr (inr (inr (inr (inl h.2))))
some_rose print_failed old new h n p = p refl

-- a report of an end
ended_tells : (text : List ℕ) (end : SyncEnd) (old new : Setting) → end ≢ ends.Memory → RoseBy (failing end) old.dialing new.dialing → (failing end ≡ print_failed → SomeRose old new) → Tells (Ok (record { text = text; status = end_status end })) old new
ended_tells text end old new n rose print = (
  (λ e. some_rose (failing end) old new rose (end_fails end e) print),
  end_usage end,
  end_memory end n,
)

syncs_tells : (name : List ℕ) (old new : Setting) (x : Result Report Fault) → RunsSync name old.keeping new.keeping old.dialing new.dialing x → Tells x old new
syncs_tells name old new _ (sync_lacking fault h d) = lacks_tells name fault old.keeping new.keeping h
syncs_tells name old new _ (sync_unkept place q end h n k) = k.3
syncs_tells name old new _ (sync_ended place q end h n k) =
    let s = h.syncs in
    ended_tells (end_text (synced_text q) end) end old new n (counts_rose (failing end) s.talks old.dialing new.dialing s.gains s.failed) (λ p. absurd (sync_prints place h.replica q s.saids end s.text p))
syncs_tells name old new _ (sync_unbegun e d) = e
syncs_tells name old new _ (sync_unaided place q end h e) = e

follows_tells : (name : List ℕ) (count : ℕ) (old new : Setting) (x : Result Report Fault) → RunsFollow name count old.keeping new.keeping old.dialing new.dialing old.outflow new.outflow x → Tells x old new
follows_tells name count old new _ (follow_lacking fault h d p) = lacks_tells name fault old.keeping new.keeping h
follows_tells name count old new _ (follow_unkept place q followed h n o k) = k.3
follows_tells name count old new _ (follow_unprinted place q followed h o k) = ((λ e. inr (inl k.3)), (λ e. cc), (λ e. cc))
follows_tells name count old new _ (follow_ended place q followed h n k) =
    let s = h.follows in
    ended_tells (end_text (followed_text followed.lines) followed.end) followed.end old new n (counts_rose (failing followed.end) s.talks old.dialing new.dialing s.gains s.failed)
    (λ p. inr (inr (inr (inr (inr (part_rose s.lines s.line old.outflow new.outflow s.printed (out_line place count h.replica s.saids s.lines followed.lines s.line q followed.end s.text p)))))))
follows_tells name count old new _ (follow_unbegun e d p) = e
follows_tells name count old new _ (follow_unaided place q followed h e) = e

pub carries_tells : (name : List ℕ) (command : Command) (x : Result Report Fault) (old new : Setting) → CarriesOut name command x old new → Tells x old new
carries_tells name (New agent place) x old new h = makes_tells name place agent old new x h.1
carries_tells name (Edit start end text) x old new h = writes_tells name _ old new x h.1
carries_tells name (Set text) x old new h = writes_tells name _ old new x h.1
carries_tells name Show x old new h = shows_tells name old new x h.1
carries_tells name Sync x old new h = syncs_tells name old new x h.1
carries_tells name (Follow count) x old new h = follows_tells name count old new x h

-- what a run that ends with Outside needs to know of that
abbrev Outer : Result Report Fault → Setting → Setting → Type 0
Outer (Ok report) old new = report.status ≡ Outside → SomeRose old new
Outer (Err faults.LoadFault) old new = SomeRose old new
Outer (Err faults.SaveFault) old new = SomeRose old new
Outer (Err fault) old new = Unit {0}

outer_from : (x : Result Report Fault) (old new : Setting) → Tells x old new → Outer x old new
outer_from (Ok report) old new t = t.0
outer_from (Err faults.LoadFault) old new t = inl t
outer_from (Err faults.SaveFault) old new t = inr (inl t)
outer_from (Err faults.Usage) old new t = tt
outer_from (Err faults.NoState) old new t = tt
outer_from (Err faults.Exists) old new t = tt
outer_from (Err (faults.BadState at)) old new t = tt
outer_from (Err (faults.BadEntry n)) old new t = tt
outer_from (Err (faults.Write f)) old new t = tt
outer_from (Err faults.Memory) old new t = tt

words_outer : (words : List (List ℕ)) (x : Result Report Fault) (old new : Setting) → CarriesOutWords words old new x → Outer x old new
words_outer words x old new h = elim (carried_as words old new x h) [
  | inl k ↦ subst (λ (z : Result Report Fault). Outer z old new) (sym k.0) tt
  | inr (inl k) ↦ subst (λ (z : Result Report Fault). Outer z old new) (sym k.0) tt
  | inr (inr k) ↦ outer_from x old new (carries_tells k.0 k.1 x old new k.3)
]

some_up : (old new : Setting) (before : Outflow) → old.outflow.faults ≤ before.faults → before.faults ≤ new.outflow.faults → SomeRose old (record new { outflow = before }) → SomeRose old new
some_up old new before l m (inl h) = inl h
some_up old new before l m (inr (inl h)) = inr (inl h)
some_up old new before l m (inr (inr (inl h))) = inr (inr (inl h))
some_up old new before l m (inr (inr (inr (inl h)))) = inr (inr (inr (inl h)))
some_up old new before l m (inr (inr (inr (inr (inl h))))) = inr (inr (inr (inr (inl h))))
some_up old new before l m (inr (inr (inr (inr (inr h))))) = inr (inr (inr (inr (inr (rose_before old.outflow.faults before.faults new.outflow.faults l m h)))))

pub outside_rose : OutsideRose
outside_rose words old new run = go run.result (words_outer words run.result old mid run.carries) run.finishes
  where
    mid : Setting
    mid = record new { outflow = run.before }

    low : old.outflow.faults ≤ run.before.faults
    low = words_up words old mid run.result run.carries

    up : SomeRose old mid → SomeRose old new
    up h = some_up old new run.before low (finishes_up run.result Outside run.before new.outflow run.finishes) h

    behind : Rose run.before.faults new.outflow.faults → SomeRose old new
    behind h = inr (inr (inr (inr (inr (rose_after old.outflow.faults run.before.faults new.outflow.faults low h)))))

    part : (text : List ℕ) (own : Status) → own ≢ Outside → IsPrinted text own Outside run.before new.outflow → SomeRose old new
    part text own n (inl h) = absurd (n (sym h.0))
    part text own n (inr h) = behind h.1.rose

    told : (fault : Fault) → fault_status fault ≢ Outside → Faults fault Outside run.before new.outflow ⊎ GivesUp Outside run.before new.outflow → SomeRose old new
    told fault n (inl h) = part _ (fault_status fault) n h
    told fault n (inr h) = let z = h.0 in cc

    go : (x : Result Report Fault) → Outer x old mid → Finishes x Outside run.before new.outflow → SomeRose old new
    go (Ok report) t (inl h) = up (t (sym h.0))
    go (Ok report) t (inr h) = behind h.1.rose
    go (Err faults.LoadFault) t h = up t
    go (Err faults.SaveFault) t h = up t
    go (Err faults.Usage) t h = part _ Usage (λ e. cc) h
    go (Err faults.NoState) t h = part _ Bad (λ e. cc) h
    go (Err faults.Exists) t h = part _ Bad (λ e. cc) h
    go (Err (faults.BadState at)) t h = told (faults.BadState at) (λ e. cc) h
    go (Err (faults.BadEntry n)) t h = told (faults.BadEntry n) (λ e. cc) h
    go (Err (faults.Write f)) t h = told (faults.Write f) (λ e. cc) h
    go (Err faults.Memory) t h = absurd (let z = h.0 in cc)

told_load : (words : List (List ℕ)) (old new : Setting) → CarriesOutWords words old new (Err faults.LoadFault) → Rose old.keeping.load_faults new.keeping.load_faults
told_load words old new h = elim (carried_as words old new (Err faults.LoadFault) h) [
  | inl k ↦ absurd (let z = k.0 in cc)
  | inr (inl k) ↦ absurd (let z = k.0 in cc)
  | inr (inr k) ↦ carries_tells k.0 k.1 (Err faults.LoadFault) old new k.3
]

told_save : (words : List (List ℕ)) (old new : Setting) → CarriesOutWords words old new (Err faults.SaveFault) → Rose old.keeping.save_faults new.keeping.save_faults
told_save words old new h = elim (carried_as words old new (Err faults.SaveFault) h) [
  | inl k ↦ absurd (let z = k.0 in cc)
  | inr (inl k) ↦ absurd (let z = k.0 in cc)
  | inr (inr k) ↦ carries_tells k.0 k.1 (Err faults.SaveFault) old new k.3
]

pub load_fault_rose : LoadFaultRose
load_fault_rose words status old new run e = told_load words old (record new { outflow = run.before }) (subst (CarriesOutWords words old (record new { outflow = run.before })) e run.carries)

pub save_fault_rose : SaveFaultRose
save_fault_rose words status old new run e = told_save words old (record new { outflow = run.before }) (subst (CarriesOutWords words old (record new { outflow = run.before })) e run.carries)

-- words of no form, told in one line
usage_was : (x : Result Report Fault) (before after : Outflow) → ((report : Report) → x ≡ Ok report → report.status ≡ Usage → ⊥) → Finishes x Usage before after → (x ≡ Err faults.Usage) × WritesAll (fault_line (fault_name faults.Usage)) before after
usage_was (Ok report) before after n (inl h) = absurd (n report refl (sym h.0))
usage_was (Ok report) before after n (inr h) = absurd (let z = h.0 in cc)
usage_was (Err faults.Usage) before after n (inl h) = (refl, h.1)
usage_was (Err faults.Usage) before after n (inr h) = absurd (let z = h.0 in cc)
usage_was (Err faults.NoState) before after n h = absurd (elim h [ inl k ↦ (let z = k.0 in cc) | inr k ↦ (let z = k.0 in cc) ])
usage_was (Err faults.Exists) before after n h = absurd (elim h [ inl k ↦ (let z = k.0 in cc) | inr k ↦ (let z = k.0 in cc) ])
usage_was (Err (faults.BadState at)) before after n h = absurd (elim h [ inl (inl k) ↦ (let z = k.0 in cc) | inl (inr k) ↦ (let z = k.0 in cc) | inr k ↦ (let z = k.0 in cc) ])
usage_was (Err (faults.BadEntry m)) before after n h = absurd (elim h [ inl (inl k) ↦ (let z = k.0 in cc) | inl (inr k) ↦ (let z = k.0 in cc) | inr k ↦ (let z = k.0 in cc) ])
usage_was (Err (faults.Write f)) before after n h = absurd (elim h [ inl (inl k) ↦ (let z = k.0 in cc) | inl (inr k) ↦ (let z = k.0 in cc) | inr k ↦ (let z = k.0 in cc) ])
usage_was (Err faults.LoadFault) before after n h = absurd (elim h [ inl k ↦ (let z = k.0 in cc) | inr k ↦ (let z = k.0 in cc) ])
usage_was (Err faults.SaveFault) before after n h = absurd (elim h [ inl k ↦ (let z = k.0 in cc) | inr k ↦ (let z = k.0 in cc) ])
usage_was (Err faults.Memory) before after n h = absurd (let z = h.0 in cc)

-- a result is one alone
not_both : (x : Result Report Fault) (report : Report) (f : Fault) → x ≡ Ok report → x ≡ Err f → ⊥
not_both x report f e k = cc

one_fault : (x : Result Report Fault) → x ≡ Err faults.Usage → x ≡ Err faults.Memory → ⊥
one_fault x e k = cc

no_usage : (words : List (List ℕ)) (x : Result Report Fault) (old new : Setting) → CarriesOutWords words old new x → (report : Report) → x ≡ Ok report → report.status ≡ Usage → ⊥
no_usage words x old new h report e u = elim (carried_as words old new x h) [
  | inl k ↦ not_both x report faults.Usage e k.0
  | inr (inl k) ↦ not_both x report faults.Memory e k.0
  | inr (inr k) ↦ (subst (λ (z : Result Report Fault). Tells z old new) e (carries_tells k.0 k.1 x old new k.3)).1 u
]

pub only_usage : OnlyUsage
only_usage words old new run = elim (carried_as words old mid run.result run.carries) [
  | inl k ↦ (
    k.1,
    ap (λ (s : Setting). record s { outflow = new.outflow }) k.2,
    subst (λ (o : Outflow). WritesAll (fault_line (fault_name faults.Usage)) o new.outflow) (ap (λ (s : Setting). s.outflow) k.2) was.1,
  )
  | inr (inl k) ↦ absurd (one_fault run.result was.0 k.0)
  | inr (inr k) ↦ absurd (subst (λ (z : Result Report Fault). Tells z old mid) was.0 (carries_tells k.0 k.1 run.result old mid k.3))
]
  where
    mid : Setting
    mid = record new { outflow = run.before }

    was : (run.result ≡ Err faults.Usage) × WritesAll (fault_line (fault_name faults.Usage)) run.before new.outflow
    was = usage_was run.result run.before new.outflow (no_usage words run.result old mid run.carries) run.finishes

pub no_form_is_usage : NoFormIsUsage
no_form_is_usage words status old new none run = elim (carried_as words old mid run.result run.carries) [
  | inl k ↦ line (ap (λ (s : Setting). record s { outflow = new.outflow }) k.2) (ap (λ (s : Setting). s.outflow) k.2) (subst (λ (z : Result Report Fault). Finishes z status run.before new.outflow) k.0 run.finishes)
  | inr (inl k) ↦ (let h = subst (λ (z : Result Report Fault). Finishes z status run.before new.outflow) k.0 run.finishes in inr (inr (h.0, ap (λ (o : Outflow). record new { outflow = o }) h.1 ∙ k.1)))
  | inr (inr k) ↦ absurd (none k.0 k.1 k.2)
]
  where
    mid : Setting
    mid = record new { outflow = run.before }

    line : new ≡ record old { outflow = new.outflow } → run.before ≡ old.outflow → Faults faults.Usage status run.before new.outflow
        → (status ≡ Usage) ⊎ (((status ≡ Outside) × (new ≡ record old { outflow = new.outflow }) × Rose old.outflow.faults new.outflow.faults) ⊎ ((status ≡ Memory) × (new ≡ old)))
    line rest e (inl h) = inl h.0
    line rest e (inr h) = inr (inl (h.0, rest, subst (λ (o : Outflow). Rose o.faults new.outflow.faults) e h.1.rose))

pub keeps_none : KeepsNone
keeps_none words old new run = elim (carried_as words old mid run.result run.carries) [
  | inl k ↦ ap (λ (s : Setting). s.keeping) k.2
  | inr (inl k) ↦ ap (λ (s : Setting). s.keeping) k.1
  | inr (inr k) ↦ go run.result (carries_tells k.0 k.1 run.result old mid k.3) run.finishes
]
  where
    mid : Setting
    mid = record new { outflow = run.before }

    go : (x : Result Report Fault) → Tells x old mid → Finishes x Memory run.before new.outflow → new.keeping ≡ old.keeping
    go (Ok report) t (inl h) = absurd (t.2 (sym h.0))
    go (Ok report) t (inr h) = absurd (let z = h.0 in cc)
    go (Err faults.Usage) t h = absurd t
    go (Err faults.NoState) t h = t
    go (Err faults.Exists) t h = t
    go (Err (faults.BadState at)) t h = t
    go (Err (faults.BadEntry n)) t h = t
    go (Err (faults.Write f)) t h = t
    go (Err faults.LoadFault) t h = absurd (elim h [ inl k ↦ (let z = k.0 in cc) | inr k ↦ (let z = k.0 in cc) ])
    go (Err faults.SaveFault) t h = absurd (elim h [ inl k ↦ (let z = k.0 in cc) | inr k ↦ (let z = k.0 in cc) ])
    go (Err faults.Memory) t h = t

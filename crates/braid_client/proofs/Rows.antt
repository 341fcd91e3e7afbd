-- What each command leaves, by how its steps went.
use Rattle.std.proofs.Common.{◌≡◌, ◌≢◌, ℕ, List, true, Ok, Err, refl, sym, ap, subst, ◌∙◌}
use Rattle.braid_io.specs.Outside.{Outflow}
use Rattle.braid_io.specs.Dialers.{Dialing}
use Rattle.braid_io.specs.Keepers.{Keeping, Loads}
use Rattle.braid_io.specs.declared.keeper.Loaded.TheVariants as loads
use Rattle.braid_change.specs.declared.change.Change.{Change}
use Rattle.braid_text.specs.Rooms.{replica_limits}
use Rattle.braid_outbox.specs.Replicas.{ReplicaView}
use Rattle.braid_outbox.specs.Writes.{additions, is_written, write}
use Rattle.braid_sync.specs.declared.place.Place.{Place}
use Rattle.braid_sync.specs.declared.end.SyncEnd.{SyncEnd}
use Rattle.braid_sync.specs.declared.end.SyncEnd.TheVariants as ends
use Rattle.braid_sync.specs.declared.following.Followed.{Followed}
use Rattle.braid_sync.specs.Syncs.{Syncs}
use Rattle.braid_sync.specs.Follows.{Follows}
use Rattle.braid_client.specs.declared.fault.Fault.{Fault}
use Rattle.braid_client.specs.declared.fault.Fault.TheVariants as faults
use Rattle.braid_client.specs.declared.keeping.Kept.{Kept}
use Rattle.braid_client.specs.declared.report.Report.{Report}
use Rattle.braid_client.specs.Texts.{new_text, wrote_text, show_text, synced_text, followed_text}
use Rattle.braid_client.specs.Runs.{first_of, LacksReplica, KeepsState, FailsToKeep, done_with, ended_with, MakesState, new_unloaded, new_exists, new_unkept, new_made, new_unaided, WritesChange, write_lacking, write_refused, write_unkept, written, write_unaided, ShowsState, show_lacking, shown, show_unaided, RunsSync, sync_lacking, sync_unkept, sync_ended, sync_unbegun, sync_unaided, RunsFollow, follow_lacking, follow_unkept, follow_unprinted, follow_ended, follow_unbegun, follow_unaided}
use Rattle.braid_client.specs.Steps.{GivesNothing, LoadsKept, KeepsAs, IsUnwritten}

-- `new`
pub make_lost : (name : List ℕ) (place : Place) (agent : List ℕ) (fault : Fault) (old new : Keeping) → GivesNothing name (Err fault) old new → MakesState name place agent old new (Err fault)
make_lost name place agent faults.Usage old new h = absurd h
make_lost name place agent faults.NoState old new h = absurd h
make_lost name place agent faults.Exists old new h = new_exists h.0 h.1
make_lost name place agent (faults.BadState at) old new h = absurd h
make_lost name place agent (faults.BadEntry n) old new h = absurd h
make_lost name place agent (faults.Write f) old new h = absurd h
make_lost name place agent faults.LoadFault old new h = new_unloaded h
make_lost name place agent faults.SaveFault old new h = absurd h
make_lost name place agent faults.Memory old new h = new_unaided h

pub make_unkept : (name : List ℕ) (place : Place) (agent : List ℕ) (r : ReplicaView) (fault : Fault) (old mid new : Keeping) → Loads name loads.Nothing old mid → r ≡ first_of agent → KeepsAs name place r (Err fault) mid new → MakesState name place agent old new (Err fault)
make_unkept name place agent r fault old mid new l e h = go fault (subst (λ (k : Keeping). KeepsAs name place (first_of agent) (Err fault) k new) l.1 (subst (λ (q : ReplicaView). KeepsAs name place q (Err fault) mid new) e h))
  where
    go : (f : Fault) → KeepsAs name place (first_of agent) (Err f) old new → MakesState name place agent old new (Err f)
    go faults.Usage k = absurd k
    go faults.NoState k = absurd k
    go faults.Exists k = absurd k
    go (faults.BadState at) k = absurd k
    go (faults.BadEntry n) k = absurd k
    go (faults.Write f) k = absurd k
    go faults.LoadFault k = absurd k
    go faults.SaveFault k = new_unkept l.0 k
    go faults.Memory k = new_unaided k

pub make_kept : (name : List ℕ) (place : Place) (agent text : List ℕ) (r : ReplicaView) (old mid new : Keeping) → Loads name loads.Nothing old mid → r ≡ first_of agent → text ≡ new_text agent → KeepsState name place r mid new → MakesState name place agent old new (Ok (done_with text))
make_kept name place agent text r old mid new l e t h =
    subst (λ (s : List ℕ). MakesState name place agent old new (Ok (done_with s))) (sym t)
    (new_made l.0 (subst (λ (k : Keeping). KeepsState name place (first_of agent) k new) l.1 (subst (λ (q : ReplicaView). KeepsState name place q mid new) e h)))

-- a state that was not loaded, but for want of memory
pub data NotLoaded (name : List ℕ) (old new : Keeping) : Fault → Type 0 where
  lacking : (fault : Fault) → LacksReplica name fault old new → NotLoaded name old new fault
  unaided : new ≡ old → NotLoaded name old new faults.Memory

pub not_loaded : (name : List ℕ) (fault : Fault) (old new : Keeping) → LoadsKept name (Err fault) old new → NotLoaded name old new fault
not_loaded name faults.Usage old new h = lacking faults.Usage h
not_loaded name faults.NoState old new h = lacking faults.NoState h
not_loaded name faults.Exists old new h = lacking faults.Exists h
not_loaded name (faults.BadState at) old new h = lacking (faults.BadState at) h
not_loaded name (faults.BadEntry n) old new h = lacking (faults.BadEntry n) h
not_loaded name (faults.Write f) old new h = lacking (faults.Write f) h
not_loaded name faults.LoadFault old new h = lacking faults.LoadFault h
not_loaded name faults.SaveFault old new h = lacking faults.SaveFault h
not_loaded name faults.Memory old new h = unaided h

-- a state that was not kept
pub data NotKept (name : List ℕ) (place : Place) (r : ReplicaView) (old new : Keeping) : Fault → Type 0 where
  unkept : FailsToKeep name place r old new → NotKept name place r old new faults.SaveFault
  no_room : new ≡ old → NotKept name place r old new faults.Memory

pub not_kept : (name : List ℕ) (place : Place) (r : ReplicaView) (fault : Fault) (old mid new : Keeping) → mid ≡ old → KeepsAs name place r (Err fault) mid new → NotKept name place r old new fault
not_kept name place r fault old mid new e h = go fault (subst (λ (k : Keeping). KeepsAs name place r (Err fault) k new) e h)
  where
    go : (f : Fault) → KeepsAs name place r (Err f) old new → NotKept name place r old new f
    go faults.Usage k = absurd k
    go faults.NoState k = absurd k
    go faults.Exists k = absurd k
    go (faults.BadState at) k = absurd k
    go (faults.BadEntry n) k = absurd k
    go (faults.Write f) k = absurd k
    go faults.LoadFault k = absurd k
    go faults.SaveFault k = unkept k
    go faults.Memory k = no_room k

pub kept_from : (name : List ℕ) (place : Place) (r : ReplicaView) (old mid new : Keeping) → mid ≡ old → KeepsState name place r mid new → KeepsState name place r old new
kept_from name place r old mid new e h = subst (λ (k : Keeping). KeepsState name place r k new) e h

-- `edit` and `set`
pub write_lost : (name : List ℕ) (change : Change) (fault : Fault) (old new : Keeping) → LoadsKept name (Err fault) old new → WritesChange name change old new (Err fault)
write_lost name change fault old new h = go fault (not_loaded name fault old new h)
  where
    go : (f : Fault) → NotLoaded name old new f → WritesChange name change old new (Err f)
    go _ (lacking f k) = write_lacking f k
    go _ (unaided e) = write_unaided e

pub write_not : (name : List ℕ) (change : Change) (kept : Kept) (fault : Fault) (old new : Keeping) → LoadsKept name (Ok kept) old new → IsUnwritten kept.replica change fault → WritesChange name change old new (Err fault)
write_not name change kept faults.Usage old new l h = absurd h
write_not name change kept faults.NoState old new l h = absurd h
write_not name change kept faults.Exists old new l h = absurd h
write_not name change kept (faults.BadState at) old new l h = absurd h
write_not name change kept (faults.BadEntry n) old new l h = absurd h
write_not name change kept (faults.Write f) old new l h = write_refused kept.place kept.replica f l.1 h.0 h.1 l.2
write_not name change kept faults.LoadFault old new l h = absurd h
write_not name change kept faults.SaveFault old new l h = absurd h
write_not name change kept faults.Memory old new l h = write_unaided l.2

pub write_not_kept : (name : List ℕ) (change : Change) (kept : Kept) (place : Place) (q : ReplicaView) (fault : Fault) (old mid new : Keeping) → LoadsKept name (Ok kept) old mid → is_written replica_limits kept.replica change ≡ true → place ≡ kept.place → q ≡ write replica_limits kept.replica change
    → KeepsAs name place q (Err fault) mid new → WritesChange name change old new (Err fault)
write_not_kept name change kept place q fault old mid new l due p e h =
    go fault (not_kept name kept.place (write replica_limits kept.replica change) fault old mid new l.2 (subst (λ (x : Place). KeepsAs name x (write replica_limits kept.replica change) (Err fault) mid new) p (subst (λ (x : ReplicaView). KeepsAs name place x (Err fault) mid new) e h)))
  where
    go : (f : Fault) → NotKept name kept.place (write replica_limits kept.replica change) old new f → WritesChange name change old new (Err f)
    go _ (unkept k) = write_unkept kept.place kept.replica l.1 due k
    go _ (no_room k) = write_unaided k

pub write_kept : (name : List ℕ) (change : Change) (kept : Kept) (place : Place) (q : ReplicaView) (text : List ℕ) (old mid new : Keeping) → LoadsKept name (Ok kept) old mid → is_written replica_limits kept.replica change ≡ true → place ≡ kept.place → q ≡ write replica_limits kept.replica change
    → text ≡ wrote_text (additions kept.replica change) → KeepsState name place q mid new → WritesChange name change old new (Ok (done_with text))
write_kept name change kept place q text old mid new l due p e t h =
    subst (λ (s : List ℕ). WritesChange name change old new (Ok (done_with s))) (sym t)
    (written kept.place kept.replica l.1 due (kept_from name kept.place (write replica_limits kept.replica change) old mid new l.2
    (subst (λ (x : Place). KeepsState name x (write replica_limits kept.replica change) mid new) p (subst (λ (x : ReplicaView). KeepsState name place x mid new) e h))))

-- `show`
pub show_lost : (name : List ℕ) (fault : Fault) (old new : Keeping) → LoadsKept name (Err fault) old new → ShowsState name old new (Err fault)
show_lost name fault old new h = go fault (not_loaded name fault old new h)
  where
    go : (f : Fault) → NotLoaded name old new f → ShowsState name old new (Err f)
    go _ (lacking f k) = show_lacking f k
    go _ (unaided e) = show_unaided e

pub show_done : (name : List ℕ) (kept : Kept) (text : List ℕ) (old new : Keeping) → LoadsKept name (Ok kept) old new → text ≡ show_text kept.place.path kept.replica → ShowsState name old new (Ok (done_with text))
show_done name kept text old new l t = subst (λ (s : List ℕ). ShowsState name old new (Ok (done_with s))) (sym t) (shown kept.place kept.replica l.1 l.2)

-- `sync`
module _ (name : List ℕ) (old mid new : Keeping) (dialing dialed : Dialing) where
  pub sync_lost : (fault : Fault) → LoadsKept name (Err fault) old new → RunsSync name old new dialing dialing (Err fault)
  sync_lost fault h = go fault (not_loaded name fault old new h)
    where
      go : (f : Fault) → NotLoaded name old new f → RunsSync name old new dialing dialing (Err f)
      go _ (lacking f k) = sync_lacking f k refl
      go _ (unaided e) = sync_unbegun e refl

  pub sync_without : (kept : Kept) (q : ReplicaView) (end : SyncEnd) → LoadsKept name (Ok kept) old new → Syncs kept.place kept.replica q end dialing dialed → RunsSync name old new dialing dialed (Err faults.Memory)
  sync_without kept q end l s = sync_unaided kept.place q end (record { replica = kept.replica; has = l.1; syncs = s }) l.2

  pub sync_not_kept : (kept : Kept) (q : ReplicaView) (end : SyncEnd) (fault : Fault) → LoadsKept name (Ok kept) old mid → Syncs kept.place kept.replica q end dialing dialed → end ≢ ends.Memory → KeepsAs name kept.place q (Err fault) mid new → RunsSync name old new dialing dialed (Err fault)
  sync_not_kept kept q end fault l s n h = go fault (not_kept name kept.place q fault old mid new l.2 h)
    where
      go : (f : Fault) → NotKept name kept.place q old new f → RunsSync name old new dialing dialed (Err f)
      go _ (unkept k) = sync_unkept kept.place q end (record { replica = kept.replica; has = l.1; syncs = s }) n k
      go _ (no_room k) = sync_unaided kept.place q end (record { replica = kept.replica; has = l.1; syncs = s }) k

  pub sync_kept : (kept : Kept) (q : ReplicaView) (end : SyncEnd) (report : Report) → LoadsKept name (Ok kept) old mid → Syncs kept.place kept.replica q end dialing dialed → end ≢ ends.Memory → report ≡ ended_with (synced_text q) end → KeepsState name kept.place q mid new
      → RunsSync name old new dialing dialed (Ok report)
  sync_kept kept q end report l s n e h =
      subst (λ (x : Report). RunsSync name old new dialing dialed (Ok x)) (sym e)
      (sync_ended kept.place q end (record { replica = kept.replica; has = l.1; syncs = s }) n (kept_from name kept.place q old mid new l.2 h))

-- `follow`
module _ (name : List ℕ) (count : ℕ) (old mid new : Keeping) (dialing dialed : Dialing) (out printed : Outflow) where
  pub follow_lost : (fault : Fault) → LoadsKept name (Err fault) old new → RunsFollow name count old new dialing dialing out out (Err fault)
  follow_lost fault h = go fault (not_loaded name fault old new h)
    where
      go : (f : Fault) → NotLoaded name old new f → RunsFollow name count old new dialing dialing out out (Err f)
      go _ (lacking f k) = follow_lacking f k refl refl
      go _ (unaided e) = follow_unbegun e refl refl

  pub follow_without : (kept : Kept) (q : ReplicaView) (followed : Followed) → LoadsKept name (Ok kept) old new → Follows kept.place count kept.replica q followed dialing dialed out printed → RunsFollow name count old new dialing dialed out printed (Err faults.Memory)
  follow_without kept q followed l s = follow_unaided kept.place q followed (record { replica = kept.replica; has = l.1; follows = s }) l.2

  pub follow_not_kept : (kept : Kept) (q : ReplicaView) (followed : Followed) (fault : Fault) → LoadsKept name (Ok kept) old mid → Follows kept.place count kept.replica q followed dialing dialed out printed → followed.end ≢ ends.Memory → (fault ≡ faults.SaveFault → followed.end ≢ ends.OutFault)
      → KeepsAs name kept.place q (Err fault) mid new → RunsFollow name count old new dialing dialed out printed (Err fault)
  follow_not_kept kept q followed fault l s n o h = go fault o (not_kept name kept.place q fault old mid new l.2 h)
    where
      go : (f : Fault) → (f ≡ faults.SaveFault → followed.end ≢ ends.OutFault) → NotKept name kept.place q old new f → RunsFollow name count old new dialing dialed out printed (Err f)
      go _ p (unkept k) = follow_unkept kept.place q followed (record { replica = kept.replica; has = l.1; follows = s }) n (p refl) k
      go _ p (no_room k) = follow_unaided kept.place q followed (record { replica = kept.replica; has = l.1; follows = s }) k

  pub follow_not_printed : (kept : Kept) (q : ReplicaView) (followed : Followed) (report : Report) → LoadsKept name (Ok kept) old mid → Follows kept.place count kept.replica q followed dialing dialed out printed → followed.end ≡ ends.OutFault
      → report ≡ ended_with (followed_text followed.lines) followed.end → KeepsAs name kept.place q (Err faults.SaveFault) mid new → RunsFollow name count old new dialing dialed out printed (Ok report)
  follow_not_printed kept q followed report l s o e h =
      subst (λ (x : Report). RunsFollow name count old new dialing dialed out printed (Ok x)) (sym (e ∙ ap (ended_with (followed_text followed.lines)) o))
      (follow_unprinted kept.place q followed (record { replica = kept.replica; has = l.1; follows = s }) o (subst (λ (k : Keeping). FailsToKeep name kept.place q k new) l.2 h))

  pub follow_kept : (kept : Kept) (q : ReplicaView) (followed : Followed) (report : Report) → LoadsKept name (Ok kept) old mid → Follows kept.place count kept.replica q followed dialing dialed out printed → followed.end ≢ ends.Memory → report ≡ ended_with (followed_text followed.lines) followed.end
      → KeepsState name kept.place q mid new → RunsFollow name count old new dialing dialed out printed (Ok report)
  follow_kept kept q followed report l s n e h =
      subst (λ (x : Report). RunsFollow name count old new dialing dialed out printed (Ok x)) (sym e)
      (follow_ended kept.place q followed (record { replica = kept.replica; has = l.1; follows = s }) n (kept_from name kept.place q old mid new l.2 h))

-- What each of the client's commands keeps, sends and prints, by its words, what is kept, and what its links give.
use Rattle.std.specs.Prelude.{◌≡◌, ◌≢◌, ◌⊎◌, ℕ, List, [], ◌∷◌, Some, None, true, Result, Ok, Err}
use Rattle.braid_io.specs.Outside.{Outflow}
use Rattle.braid_io.specs.Dialers.{Dialing}
use Rattle.braid_io.specs.Keepers.{Keeping, Holds, Loads, Saves}
use Rattle.braid_io.specs.declared.keeper.Loaded.TheVariants as loads
use Rattle.braid_io.specs.declared.keeper.Saved.TheVariants as saves
use Rattle.braid_io.specs.declared.status.Status.{Status}
use Rattle.braid_io.specs.declared.status.Status.TheVariants as statuses
use Rattle.braid_lines.specs.Prints.{IsPrinted}
use Rattle.braid_change.specs.declared.patch.Patch.{Patch}
use Rattle.braid_change.specs.declared.change.Change.{Change}
use Rattle.braid_change.specs.declared.change.Change.TheVariants.{Body, Patches}
use Rattle.braid_outbox.specs.declared.faults.WriteFault.{WriteFault}
use Rattle.braid_outbox.specs.declared.faults.WriteFault.TheVariants as writes
use Rattle.braid_outbox.specs.declared.faults.BadReplica.TheVariants.{Entry}
use Rattle.braid_text.specs.Rooms.{replica_limits}
use Rattle.braid_outbox.specs.Replicas.{ReplicaView}
use Rattle.braid_outbox.specs.Writes.{additions, is_written, write, IsWriteFault}
use Rattle.braid_outbox.specs.Made.{MakesReplica, IsBadReplica}
use Rattle.braid_state.specs.declared.state.State.{State}
use Rattle.braid_state.specs.declared.state.StateFault.TheVariants.{BadState}
use Rattle.braid_state.specs.States.{SpellsState, state_text}
use Rattle.braid_state.specs.StateFaults.{IsStateFault}
use Rattle.braid_sync.specs.declared.place.Place.{Place}
use Rattle.braid_sync.specs.declared.end.SyncEnd.{SyncEnd}
use Rattle.braid_sync.specs.declared.end.SyncEnd.TheVariants as ends
use Rattle.braid_sync.specs.declared.following.Followed.{Followed}
use Rattle.braid_client.specs.declared.command.Command.{Command}
use Rattle.braid_client.specs.declared.command.Command.TheVariants.{New, Edit, Set, Show, Sync, Follow}
use Rattle.braid_client.specs.declared.fault.Fault.{Fault}
use Rattle.braid_client.specs.declared.fault.Fault.TheVariants as faults
use Rattle.braid_client.specs.declared.report.Report.{Report}
use Rattle.braid_sync.specs.Syncs.{Syncs}
use Rattle.braid_sync.specs.Follows.{Follows}
use Rattle.braid_client.specs.Forms.{IsForm, HasNoForm}
use Rattle.braid_lines.specs.Lines.{fault_line}
use Rattle.braid_client.specs.Texts.{fault_name, fault_status, end_text, end_status, new_text, wrote_text, show_text, synced_text, followed_text}

-- the state of a replica for a text at a place
abbrev pub state_of : Place → ReplicaView → State
state_of place r =
    record { agent = r.agent; server = place.server; path = place.path; confirmed = r.confirmed; unsent = r.unsent }

-- a replica without updates
abbrev pub first_of : List ℕ → ReplicaView
first_of agent = record { agent = agent; confirmed = []; unsent = [] }

-- what is kept under the name spells the state of a replica for a text at a place
pub record HasReplica (name : List ℕ) (place : Place) (r : ReplicaView) (told : Keeping) : Type 0 where
  pub bytes : List ℕ
  pub held : Holds told.kept name (Some bytes)
  pub spelled : SpellsState (state_of place r) bytes
  pub replica : MakesReplica r.confirmed r.unsent

-- why nothing kept under the name gives a replica: the load failed; nothing is kept; it spells no state; its updates
-- make none
abbrev pub LacksReplica : List ℕ → Fault → Keeping → Keeping → Type 0
LacksReplica name faults.LoadFault old new = Loads name loads.Failed old new
LacksReplica name faults.NoState old new = Loads name loads.Nothing old new
LacksReplica name (faults.BadState at) old new =
    (bytes : List ℕ) × Loads name (loads.Bytes bytes) old new × IsStateFault bytes (BadState at)
LacksReplica name (faults.BadEntry n) old new =
    (bytes : List ℕ) × (s : State) × Loads name (loads.Bytes bytes) old new × SpellsState s bytes
    × IsBadReplica s.confirmed s.unsent (Entry n)
LacksReplica name fault old new = ⊥

-- the state of a replica is kept under the name
abbrev pub KeepsState : List ℕ → Place → ReplicaView → Keeping → Keeping → Type 0
KeepsState name place r old new = Saves name (state_text (state_of place r)) saves.Done old new

-- it could not be kept
abbrev pub FailsToKeep : List ℕ → Place → ReplicaView → Keeping → Keeping → Type 0
FailsToKeep name place r old new = Saves name (state_text (state_of place r)) saves.Failed old new

-- a text to print, under status Done
abbrev pub done_with : List ℕ → Report
done_with text = record { text = text; status = statuses.Done }

-- what an end has to print, where this is printed at Done, and its status
abbrev pub ended_with : List ℕ → SyncEnd → Report
ended_with done end = record { text = end_text done end; status = end_status end }

-- `new`. In the order of the rows: the load failed; something is kept; the state could not be kept; it is kept; or
-- there was no memory, and nothing changed.
pub data MakesState (name : List ℕ) (place : Place) (agent : List ℕ) (old new : Keeping) :
    Result Report Fault → Type 0 where
  new_unloaded : Loads name loads.Failed old new → MakesState name place agent old new (Err faults.LoadFault)
  new_exists : (bytes : List ℕ) → Loads name (loads.Bytes bytes) old new
      → MakesState name place agent old new (Err faults.Exists)
  new_unkept : Holds old.kept name None → FailsToKeep name place (first_of agent) old new
      → MakesState name place agent old new (Err faults.SaveFault)
  new_made : Holds old.kept name None → KeepsState name place (first_of agent) old new
      → MakesState name place agent old new (Ok (done_with (new_text agent)))
  new_unaided : new ≡ old → MakesState name place agent old new (Err faults.Memory)

-- `edit` and `set`: this change. In the order of the rows: there is no replica; the change is not written; the state
-- could not be kept; it is kept with the change, which the pure merges that it takes stand before; or there was no
-- memory.
pub data WritesChange (name : List ℕ) (change : Change) (old new : Keeping) : Result Report Fault → Type 0 where
  write_lacking : (fault : Fault) → LacksReplica name fault old new → WritesChange name change old new (Err fault)
  write_refused : (place : Place) (r : ReplicaView) (fault : WriteFault) → HasReplica name place r old
      → fault ≢ writes.Memory → IsWriteFault replica_limits r change fault → new ≡ old
      → WritesChange name change old new (Err (faults.Write fault))
  write_unkept : (place : Place) (r : ReplicaView) → HasReplica name place r old
      → is_written replica_limits r change ≡ true → FailsToKeep name place (write replica_limits r change) old new
      → WritesChange name change old new (Err faults.SaveFault)
  written : (place : Place) (r : ReplicaView) → HasReplica name place r old
      → is_written replica_limits r change ≡ true → KeepsState name place (write replica_limits r change) old new
      → WritesChange name change old new (Ok (done_with (wrote_text (additions r change))))
  write_unaided : new ≡ old → WritesChange name change old new (Err faults.Memory)

-- `show`. In the order of the rows: there is no replica; it is shown; or there was no memory.
pub data ShowsState (name : List ℕ) (old new : Keeping) : Result Report Fault → Type 0 where
  show_lacking : (fault : Fault) → LacksReplica name fault old new → ShowsState name old new (Err fault)
  shown : (place : Place) (r : ReplicaView) → HasReplica name place r old → new ≡ old
      → ShowsState name old new (Ok (done_with (show_text place.path r)))
  show_unaided : new ≡ old → ShowsState name old new (Err faults.Memory)

-- a sync over a dialer of the replica that is kept, which leaves it as q
pub record SyncsKept (name : List ℕ) (old : Keeping) (place : Place) (q : ReplicaView) (end : SyncEnd)
    (dialing dialed : Dialing) : Type 0 where
  pub replica : ReplicaView
  pub has : HasReplica name place replica old
  pub syncs : Syncs place replica q end dialing dialed

-- `sync`. In the order of the rows: there is no replica, and no link is dialled; a sync came to an end, and what it
-- left could not be kept, or is kept; there was no memory before the sync; or there was none in it or behind it, and
-- nothing is kept.
pub data RunsSync (name : List ℕ) (old new : Keeping) (dialing dialed : Dialing) : Result Report Fault → Type 0 where
  sync_lacking : (fault : Fault) → LacksReplica name fault old new → dialed ≡ dialing
      → RunsSync name old new dialing dialed (Err fault)
  sync_unkept : (place : Place) (q : ReplicaView) (end : SyncEnd) → SyncsKept name old place q end dialing dialed
      → end ≢ ends.Memory → FailsToKeep name place q old new
      → RunsSync name old new dialing dialed (Err faults.SaveFault)
  sync_ended : (place : Place) (q : ReplicaView) (end : SyncEnd) → SyncsKept name old place q end dialing dialed
      → end ≢ ends.Memory → KeepsState name place q old new
      → RunsSync name old new dialing dialed (Ok (ended_with (synced_text q) end))
  sync_unbegun : new ≡ old → dialed ≡ dialing → RunsSync name old new dialing dialed (Err faults.Memory)
  sync_unaided : (place : Place) (q : ReplicaView) (end : SyncEnd) → SyncsKept name old place q end dialing dialed
      → new ≡ old → RunsSync name old new dialing dialed (Err faults.Memory)

-- a follow over a dialer of the replica that is kept, which leaves it as q and prints its lines
pub record FollowsKept (name : List ℕ) (count : ℕ) (old : Keeping) (place : Place) (q : ReplicaView)
    (followed : Followed) (dialing dialed : Dialing) (out printed : Outflow) : Type 0 where
  pub replica : ReplicaView
  pub has : HasReplica name place replica old
  pub follows : Follows place count replica q followed dialing dialed out printed

-- `follow`, of at most so many updates. In the order of the rows: there is no replica, no link is dialled and nothing
-- printed; a follow came to an end, and what it left could not be kept; the same where a line could not be written,
-- behind which nothing more is printed; what it left is kept, at whichever end; there was no memory before the follow;
-- or there was none in it or behind it, and nothing is kept.
pub data RunsFollow (name : List ℕ) (count : ℕ) (old new : Keeping) (dialing dialed : Dialing) (out printed : Outflow) :
    Result Report Fault → Type 0 where
  follow_lacking : (fault : Fault) → LacksReplica name fault old new → dialed ≡ dialing → printed ≡ out
      → RunsFollow name count old new dialing dialed out printed (Err fault)
  follow_unkept : (place : Place) (q : ReplicaView) (followed : Followed)
      → FollowsKept name count old place q followed dialing dialed out printed
      → followed.end ≢ ends.Memory → followed.end ≢ ends.OutFault → FailsToKeep name place q old new
      → RunsFollow name count old new dialing dialed out printed (Err faults.SaveFault)
  follow_unprinted : (place : Place) (q : ReplicaView) (followed : Followed)
      → FollowsKept name count old place q followed dialing dialed out printed
      → followed.end ≡ ends.OutFault → FailsToKeep name place q old new
      → RunsFollow name count old new dialing dialed out printed (Ok (ended_with [] ends.OutFault))
  follow_ended : (place : Place) (q : ReplicaView) (followed : Followed)
      → FollowsKept name count old place q followed dialing dialed out printed
      → followed.end ≢ ends.Memory → KeepsState name place q old new
      → RunsFollow name count old new dialing dialed out printed
      (Ok (ended_with (followed_text followed.lines) followed.end))
  follow_unbegun : new ≡ old → dialed ≡ dialing → printed ≡ out
      → RunsFollow name count old new dialing dialed out printed (Err faults.Memory)
  follow_unaided : (place : Place) (q : ReplicaView) (followed : Followed)
      → FollowsKept name count old place q followed dialing dialed out printed
      → new ≡ old → RunsFollow name count old new dialing dialed out printed (Err faults.Memory)

-- what a command sees of the outside: what is kept, the links, and what is printed
pub record Setting : Type 0 where
  pub keeping : Keeping
  pub dialing : Dialing
  pub outflow : Outflow

-- a setting of these three
abbrev pub setting : Keeping → Dialing → Outflow → Setting
setting keeping dialing outflow = record { keeping = keeping; dialing = dialing; outflow = outflow }

-- but for what is kept, all stays as it was
abbrev pub OnlyKeeps : Setting → Setting → Type 0
OnlyKeeps old new = new ≡ record old { keeping = new.keeping }

-- nothing is printed
abbrev pub IsSilent : Setting → Setting → Type 0
IsSilent old new = new.outflow ≡ old.outflow

-- a text in place of a range
abbrev pub range_patch : ℕ → ℕ → List ℕ → Patch
range_patch start end text = record { start = start; end = end; text = text }

-- the change of a command that replaces a range of the text
abbrev pub range_change : ℕ → ℕ → List ℕ → Change
range_change start end text = Patches (range_patch start end text ∷ [])

-- what a command leaves before it reports, and what it has to report
abbrev pub CarriesOut : List ℕ → Command → Result Report Fault → Setting → Setting → Type 0
CarriesOut name (New agent place) result old new =
    OnlyKeeps old new × MakesState name place agent old.keeping new.keeping result
CarriesOut name (Edit start end text) result old new =
    OnlyKeeps old new × WritesChange name (range_change start end text) old.keeping new.keeping result
CarriesOut name (Set text) result old new =
    OnlyKeeps old new × WritesChange name (Body text) old.keeping new.keeping result
CarriesOut name Show result old new = OnlyKeeps old new × ShowsState name old.keeping new.keeping result
CarriesOut name Sync result old new =
    IsSilent old new × RunsSync name old.keeping new.keeping old.dialing new.dialing result
CarriesOut name (Follow count) result old new =
    RunsFollow name count old.keeping new.keeping old.dialing new.dialing old.outflow new.outflow result

-- The same of words. In the order of the rows: they have no form, and nothing is touched; there was no memory for them;
-- or they have one, and its command is carried out.
pub data CarriesOutWords (words : List (List ℕ)) (old new : Setting) : Result Report Fault → Type 0 where
  words_no_form : HasNoForm words → new ≡ old → CarriesOutWords words old new (Err faults.Usage)
  words_unaided : new ≡ old → CarriesOutWords words old new (Err faults.Memory)
  words_formed : (name : List ℕ) (command : Command) (result : Result Report Fault) → IsForm words name command
      → CarriesOut name command result old new → CarriesOutWords words old new result

-- a fault's line was written, or a front of it
abbrev pub Faults : Fault → Status → Outflow → Outflow → Type 0
Faults fault status old new = IsPrinted (fault_line (fault_name fault)) (fault_status fault) status old new

-- there was no memory, and nothing more is printed
abbrev pub GivesUp : Status → Outflow → Outflow → Type 0
GivesUp status old new = (status ≡ statuses.Memory) × (new ≡ old)

-- What is printed at last: the text of a success or of an end, or the line of a fault. There may be no memory for a
-- line that has a number or a name in it.
abbrev pub Finishes : Result Report Fault → Status → Outflow → Outflow → Type 0
Finishes (Ok report) status old new = IsPrinted report.text report.status status old new
Finishes (Err (faults.BadState at)) status old new = Faults (faults.BadState at) status old new ⊎ GivesUp status old new
Finishes (Err (faults.BadEntry n)) status old new = Faults (faults.BadEntry n) status old new ⊎ GivesUp status old new
Finishes (Err (faults.Write fault)) status old new = Faults (faults.Write fault) status old new ⊎ GivesUp status old new
Finishes (Err faults.Memory) status old new = GivesUp status old new
Finishes (Err fault) status old new = Faults fault status old new

-- A run of the client on these words: the command is carried out, what it changes is kept, and at last it reports.
pub record ClientRuns (words : List (List ℕ)) (status : Status) (old new : Setting) : Type 0 where
  pub result : Result Report Fault
  pub before : Outflow
  pub carries : CarriesOutWords words old (record new { outflow = before }) result
  pub finishes : Finishes result status before new.outflow

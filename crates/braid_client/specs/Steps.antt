-- What the functions of the commands show one another.
use Rattle.std.specs.Prelude.{◌≡◌, ◌≢◌, ℕ, List, [], Option, Some, None, Result, Ok, Err, codes}
use Rattle.braid_io.specs.Keepers.{Keeping, Loads}
use Rattle.braid_io.specs.declared.keeper.Loaded.TheVariants as loads
use Rattle.braid_change.specs.Texts.{IsTextOf}
use Rattle.braid_change.specs.declared.change.Change.{Change}
use Rattle.braid_outbox.specs.declared.faults.WriteFault.TheVariants as writes
use Rattle.braid_outbox.specs.declared.faults.BadReplica.TheVariants.{Entry}
use Rattle.braid_text.specs.Rooms.{replica_limits}
use Rattle.braid_outbox.specs.Replicas.{ReplicaView}
use Rattle.braid_outbox.specs.Writes.{IsWriteFault}
use Rattle.braid_outbox.specs.Made.{MakesReplica, IsBadReplica}
use Rattle.braid_state.specs.declared.state.State.{State}
use Rattle.braid_state.specs.declared.state.StateFault.TheVariants.{BadState}
use Rattle.braid_state.specs.States.{SpellsState}
use Rattle.braid_state.specs.StateFaults.{IsStateFault}
use Rattle.braid_sync.specs.declared.place.Place.{Place}
use Rattle.braid_sync.specs.declared.end.SyncEnd.{SyncEnd}
use Rattle.braid_sync.specs.declared.end.SyncEnd.TheVariants as ends
use Rattle.braid_client.specs.declared.command.Command.{Command}
use Rattle.braid_client.specs.declared.command.Command.TheVariants.{New}
use Rattle.braid_client.specs.declared.fault.Fault.{Fault}
use Rattle.braid_client.specs.declared.fault.Fault.TheVariants as faults
use Rattle.braid_client.specs.declared.keeping.Kept.{Kept}
use Rattle.braid_sync.specs.Opening.{IsPlace}
use Rattle.braid_client.specs.Forms.{Asks, HasNoForm}
use Rattle.braid_lines.specs.Lines.{fault_line}
use Rattle.braid_client.specs.Texts.{fault_name}
use Rattle.braid_client.specs.Runs.{state_of, HasReplica, LacksReplica, KeepsState, FailsToKeep}

-- what words ask for was found, or they ask for nothing
abbrev pub FindsCommand : List ℕ → List (List ℕ) → Option Command → Type 0
FindsCommand own rest None = (command : Command) → ¬ Asks own rest command
FindsCommand own rest (Some command) = Asks own rest command

-- a command that makes a state is for a text at a place
abbrev pub IsPlaced : Command → Type 0
IsPlaced (New agent place) = IsPlace place
IsPlaced command = Unit {0}

-- why words were not read
abbrev pub IsWordsFault : List (List ℕ) → Fault → Type 0
IsWordsFault words faults.Usage = HasNoForm words
IsWordsFault words faults.Memory = Unit {0}
IsWordsFault words fault = ⊥

-- the word is no UTF-8
abbrev pub SpellsNoText : List ℕ → Type 0
SpellsNoText word = (text : List ℕ) → ¬ IsTextOf text word

-- the line of a fault that has no number and no name in it
abbrev pub plain_line : Fault → Option (List ℕ)
plain_line faults.Usage = Some (fault_line (fault_name faults.Usage))
plain_line faults.NoState = Some (fault_line (fault_name faults.NoState))
plain_line faults.Exists = Some (fault_line (fault_name faults.Exists))
plain_line faults.LoadFault = Some (fault_line (fault_name faults.LoadFault))
plain_line faults.SaveFault = Some (fault_line (fault_name faults.SaveFault))
plain_line (faults.BadState at) = None
plain_line (faults.BadEntry n) = None
plain_line (faults.Write fault) = None
plain_line faults.Memory = None

-- a fault that has a number or a name in its line
abbrev pub HasDetail : Fault → Type 0
HasDetail (faults.BadState at) = Unit {0}
HasDetail (faults.BadEntry n) = Unit {0}
HasDetail (faults.Write fault) = Unit {0}
HasDetail fault = ⊥

-- the name of an end that is one word
abbrev pub single_name : SyncEnd → List ℕ
single_name ends.Cut = codes "Cut"
single_name ends.NoCurrent = codes "NoCurrent"
single_name ends.BadCurrent = codes "BadCurrent"
single_name ends.OtherMergeType = codes "OtherMergeType"
single_name ends.DialFault = codes "DialFault"
single_name ends.ReadFault = codes "ReadFault"
single_name ends.WriteFault = codes "WriteFault"
single_name ends.Spent = codes "Spent"
single_name end = []

-- a load that was to give bytes
abbrev pub GivesBytes : List ℕ → Result (List ℕ) Fault → Keeping → Keeping → Type 0
GivesBytes name (Ok bytes) old new = Loads name (loads.Bytes bytes) old new
GivesBytes name (Err faults.NoState) old new = Loads name loads.Nothing old new
GivesBytes name (Err faults.LoadFault) old new = Loads name loads.Failed old new
GivesBytes name (Err faults.Memory) old new = new ≡ old
GivesBytes name (Err fault) old new = ⊥

-- a load that was to give nothing
abbrev pub GivesNothing : List ℕ → Result (Unit {0}) Fault → Keeping → Keeping → Type 0
GivesNothing name (Ok x) old new = Loads name loads.Nothing old new
GivesNothing name (Err faults.Exists) old new = (bytes : List ℕ) × Loads name (loads.Bytes bytes) old new
GivesNothing name (Err faults.LoadFault) old new = Loads name loads.Failed old new
GivesNothing name (Err faults.Memory) old new = new ≡ old
GivesNothing name (Err fault) old new = ⊥

-- bytes spell the state of a replica
pub record SpellsKept (kept : Kept) (bytes : List ℕ) : Type 0 where
  pub placed : IsPlace kept.place
  pub spelled : SpellsState (state_of kept.place kept.replica) bytes
  pub replica : MakesReplica kept.replica.confirmed kept.replica.unsent

-- why bytes spell that of none
abbrev pub IsUnusable : List ℕ → Fault → Type 0
IsUnusable bytes (faults.BadState at) = IsStateFault bytes (BadState at)
IsUnusable bytes (faults.BadEntry n) = (s : State) × SpellsState s bytes × IsBadReplica s.confirmed s.unsent (Entry n)
IsUnusable bytes faults.Memory = Unit {0}
IsUnusable bytes fault = ⊥

-- a state, and its replica
pub record IsKeptOf (s : State) (kept : Kept) : Type 0 where
  pub state : state_of kept.place kept.replica ≡ s
  pub replica : MakesReplica s.confirmed s.unsent

-- why a state has none
abbrev pub IsNoReplica : State → Fault → Type 0
IsNoReplica s (faults.BadEntry n) = IsBadReplica s.confirmed s.unsent (Entry n)
IsNoReplica s faults.Memory = Unit {0}
IsNoReplica s fault = ⊥

-- a state was loaded with its replica, or there is none
abbrev pub LoadsKept : List ℕ → Result Kept Fault → Keeping → Keeping → Type 0
LoadsKept name (Ok kept) old new = IsPlace kept.place × HasReplica name kept.place kept.replica old × (new ≡ old)
LoadsKept name (Err faults.Memory) old new = new ≡ old
LoadsKept name (Err fault) old new = LacksReplica name fault old new

-- a state was kept, or not
abbrev pub KeepsAs : List ℕ → Place → ReplicaView → Result (Unit {0}) Fault → Keeping → Keeping → Type 0
KeepsAs name place r (Ok x) old new = KeepsState name place r old new
KeepsAs name place r (Err faults.SaveFault) old new = FailsToKeep name place r old new
KeepsAs name place r (Err faults.Memory) old new = new ≡ old
KeepsAs name place r (Err fault) old new = ⊥

-- why a change is not written
abbrev pub IsUnwritten : ReplicaView → Change → Fault → Type 0
IsUnwritten r change (faults.Write fault) = (fault ≢ writes.Memory) × IsWriteFault replica_limits r change fault
IsUnwritten r change faults.Memory = Unit {0}
IsUnwritten r change fault = ⊥

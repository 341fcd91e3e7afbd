-- What holds of every run of the client: why it ends as it does, and that one with nothing in its way is done.
use Rattle.std.specs.Prelude.{◌≡◌, ◌≢◌, ◌⊎◌, ℕ, List, ◌++◌, Option, Some, None, IsSome, Err, true}
use Rattle.std.specs.List.{AllByRecursion}
use Rattle.std.specs.FinMap as map
use Rattle.braid_io.specs.Outside.{Outflow, Rose, WritesAll}
use Rattle.braid_io.specs.Dialers.{Talk, Dialing}
use Rattle.braid_io.specs.Keepers.{Kept}
use Rattle.braid_io.specs.declared.status.Status.{Status}
use Rattle.braid_io.specs.declared.status.Status.TheVariants.{Done, Usage, Outside, Memory}
use Rattle.braid_change.specs.Updates.{UpdateView}
use Rattle.braid_change.specs.declared.change.Change.{Change}
use Rattle.braid_change.specs.declared.change.Change.TheVariants.{Body}
use Rattle.braid_text.specs.Rooms.{replica_limits}
use Rattle.braid_outbox.specs.Replicas.{ReplicaView}
use Rattle.braid_outbox.specs.Writes.{is_written}
use Rattle.braid_outbox.specs.Made.{MakesReplica}
use Rattle.braid_state.specs.States.{SpellsState}
use Rattle.braid_sync.specs.declared.place.Place.{Place}
use Rattle.braid_sync.specs.declared.end.SyncEnd.{SyncEnd}
use Rattle.braid_sync.specs.declared.end.SyncEnd.TheVariants as ends
use Rattle.braid_sync.specs.declared.following.Followed.{Followed}
use Rattle.braid_client.specs.declared.command.Command.{Command}
use Rattle.braid_client.specs.declared.command.Command.TheVariants.{New, Edit, Set, Show, Sync, Follow}
use Rattle.braid_client.specs.declared.fault.Fault.TheVariants as faults
use Rattle.braid_sync.specs.Syncs.{Syncs}
use Rattle.braid_sync.specs.Follows.{Follows}
use Rattle.braid_sync.specs.Learning.{Learns}
use Rattle.braid_sync.specs.Laws.{IsSubscriptionOf, GainedOne, NoneFailed}
use Rattle.braid_client.specs.Forms.{IsForm, HasNoForm}
use Rattle.braid_lines.specs.Lines.{fault_line}
use Rattle.braid_client.specs.Texts.{fault_name}
use Rattle.braid_client.specs.Runs.{Setting, ClientRuns, state_of, range_change}

-- Words are a form of one command at most.
abbrev pub OneForm : Type 0
OneForm =
    (words : List (List ℕ)) (name other : List ℕ) (command wish : Command)
    → IsForm words name command → IsForm words other wish → (name ≡ other) × (command ≡ wish)

-- a count of faults of the keeper, of the dialer, of its links or of the output rose
abbrev pub SomeRose : Setting → Setting → Type 0
SomeRose old new =
    Rose old.keeping.load_faults new.keeping.load_faults
    ⊎ (Rose old.keeping.save_faults new.keeping.save_faults
    ⊎ (Rose old.dialing.faults new.dialing.faults
    ⊎ (Rose old.dialing.link_read_faults new.dialing.link_read_faults
    ⊎ (Rose old.dialing.link_write_faults new.dialing.link_write_faults
    ⊎ Rose old.outflow.faults new.outflow.faults))))

-- A run ends with status Outside only where one of them rose.
abbrev pub OutsideRose : Type 0
OutsideRose = (words : List (List ℕ)) (old new : Setting) → ClientRuns words Outside old new → SomeRose old new

-- A run reports that a load failed only where the keeper's own count rose.
abbrev pub LoadFaultRose : Type 0
LoadFaultRose =
    (words : List (List ℕ)) (status : Status) (old new : Setting) (run : ClientRuns words status old new)
    → run.result ≡ Err faults.LoadFault → Rose old.keeping.load_faults new.keeping.load_faults

-- The same of a save.
abbrev pub SaveFaultRose : Type 0
SaveFaultRose =
    (words : List (List ℕ)) (status : Status) (old new : Setting) (run : ClientRuns words status old new)
    → run.result ≡ Err faults.SaveFault → Rose old.keeping.save_faults new.keeping.save_faults

-- A run ends with status Usage only where the words are a form of no command and the line that says so was written;
-- nothing else is touched.
abbrev pub OnlyUsage : Type 0
OnlyUsage =
    (words : List (List ℕ)) (old new : Setting) → ClientRuns words Usage old new
    → HasNoForm words × (new ≡ record old { outflow = new.outflow })
    × WritesAll (fault_line (fault_name faults.Usage)) old.outflow new.outflow

-- Such words end so, but where the line could not be written whole, or there was no memory for the words.
abbrev pub NoFormIsUsage : Type 0
NoFormIsUsage =
    (words : List (List ℕ)) (status : Status) (old new : Setting) → HasNoForm words → ClientRuns words status old new
    → (status ≡ Usage)
    ⊎ (((status ≡ Outside) × (new ≡ record old { outflow = new.outflow }) × Rose old.outflow.faults new.outflow.faults)
    ⊎ ((status ≡ Memory) × (new ≡ old)))

-- Where there was no memory, nothing is kept.
abbrev pub KeepsNone : Type 0
KeepsNone =
    (words : List (List ℕ)) (old new : Setting) → ClientRuns words Memory old new → new.keeping ≡ old.keeping

-- a link that was hung up tells what was said on it, and what it had left
pub record IsTelling (talk : Talk) : Type 0 where
  pub sent : IsSome talk.outflow.written
  pub given : IsSome talk.intake.taken
  pub left : IsSome talk.intake.left

-- a dialer gained talks that tell this
pub record GainsTelling (old new : Dialing) : Type 0 where
  pub before : List Talk
  pub talks : List Talk
  pub old_are : old.talks ≡ Some before
  pub new_are : new.talks ≡ Some (before ++ talks)
  pub telling : AllByRecursion IsTelling talks

-- the links of a command that has some tell what was said on them
abbrev pub TellsLinks : Command → Dialing → Dialing → Type 0
TellsLinks Sync old new = GainsTelling old new
TellsLinks (Follow count) old new = GainsTelling old new
TellsLinks command old new = Unit {0}

-- The words, what is kept, and what was said on the links decide the status, what is then kept, and what is printed,
-- where no count of faults rose and memory was there.
abbrev pub OneRun : Type 0
OneRun =
    (words : List (List ℕ)) (kept : Kept) (status other : Status) (old new next : Setting)
    → old.keeping.kept ≡ Some kept
    → ((name : List ℕ) (command : Command) → IsForm words name command → TellsLinks command old.dialing new.dialing)
    → next.dialing ≡ new.dialing
    → ClientRuns words status old new → ClientRuns words other old next
    → ¬ SomeRose old new → ¬ SomeRose old next → status ≢ Memory → other ≢ Memory → (status ≡ other) × (new ≡ next)

-- what is kept under a name spells the state of a replica for a text at a place
pub record IsReplicaOf (place : Place) (r : ReplicaView) (found : Option (List ℕ)) : Type 0 where
  pub bytes : List ℕ
  pub there : found ≡ Some bytes
  pub spelled : SpellsState (state_of place r) bytes
  pub replica : MakesReplica r.confirmed r.unsent

-- it does, and the change is written
abbrev pub CanWrite : Change → Option (List ℕ) → Type 0
CanWrite change found =
    (place : Place) × (r : ReplicaView) × IsReplicaOf place r found × (is_written replica_limits r change ≡ true)

-- a sync or a follow that ended so is done, or had no memory
abbrev pub IsWell : SyncEnd → Type 0
IsWell end = (end ≡ ends.Done) ⊎ (end ≡ ends.Memory)

-- Nothing is in the way of a command: `new` finds nothing under the name; the others find a replica; the change of
-- `edit` or `set` is written; and what was said on the links of `sync` or `follow` gives no other end, where each line of
-- `follow` is printed.
abbrev pub IsFree : Command → Option (List ℕ) → Setting → Setting → Type 0
IsFree (New agent place) found old new = found ≡ None
IsFree (Edit start end text) found old new = CanWrite (range_change start end text) found
IsFree (Set text) found old new = CanWrite (Body text) found
IsFree Show found old new = (place : Place) × (r : ReplicaView) × IsReplicaOf place r found
IsFree Sync found old new =
    (place : Place) × (r : ReplicaView) × IsReplicaOf place r found
    × ((q : ReplicaView) (end : SyncEnd) → Syncs place r q end old.dialing new.dialing → IsWell end)
IsFree (Follow count) found old new =
    (place : Place) × (r : ReplicaView) × IsReplicaOf place r found
    × ((q : ReplicaView) (followed : Followed) (printed : Outflow)
    → Follows place count r q followed old.dialing new.dialing old.outflow printed
    → ¬ Rose old.outflow.faults printed.faults → IsWell followed.end)

-- A command with nothing in its way, of a keeper that tells what it keeps, is done where no count of faults rose, or
-- there was no memory.
abbrev pub Completes : Type 0
Completes =
    (words : List (List ℕ)) (name : List ℕ) (command : Command) (kept : Kept) (status : Status) (old new : Setting)
    → IsForm words name command → old.keeping.kept ≡ Some kept → IsFree command (map.get kept name) old new
    → ClientRuns words status old new → ¬ SomeRose old new → (status ≡ Done) ⊎ (status ≡ Memory)

-- Nothing is in the way of a `follow` whose link has the whole reply of a subscription to give, none of whose updates is
-- refused, where no count of the dialer rose.
abbrev pub FollowIsFree : Type 0
FollowIsFree =
    (place : Place) (count : ℕ) (r m : ReplicaView) (found : Option (List ℕ)) (old new : Setting) (bytes : List ℕ)
    (V : List (List ℕ)) (us : List UpdateView)
    → IsReplicaOf place r found → GainedOne bytes old.dialing new.dialing
    → NoneFailed old.dialing new.dialing old.outflow old.outflow → IsSubscriptionOf V us bytes → Learns r us m
    → IsFree (Follow count) found old new

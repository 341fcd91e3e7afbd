-- Each link that a command dialled was hung up.
use Rattle.std.proofs.Common.{◌≡◌, inl, inr, ℕ, List, Result, ap}
use Rattle.braid_io.specs.Outside.{Outflow}
use Rattle.braid_io.specs.Dialers.{Dialing}
use Rattle.braid_io.specs.Keepers.{Keeping}
use Rattle.braid_client.specs.declared.command.Command.{Command}
use Rattle.braid_client.specs.declared.command.Command.TheVariants.{New, Edit, Set, Show, Sync, Follow}
use Rattle.braid_client.specs.declared.fault.Fault.{Fault}
use Rattle.braid_client.specs.declared.report.Report.{Report}
use Rattle.braid_client.specs.Runs.{Setting, OnlyKeeps, RunsSync, sync_lacking, sync_unkept, sync_ended, sync_unbegun, sync_unaided, RunsFollow, follow_lacking, follow_unkept, follow_unprinted, follow_ended, follow_unbegun, follow_unaided, CarriesOut, CarriesOutWords}
use Rattle.braid_client.proofs.Counts.{carried_as}

abbrev AreUp : Dialing → Dialing → Type 0
AreUp old new = new.servers ≡ old.servers

same_up : (old new : Dialing) → new ≡ old → AreUp old new
same_up old new e = ap (λ (d : Dialing). d.servers) e

sync_up : (name : List ℕ) (old new : Keeping) (dialing dialed : Dialing) (x : Result Report Fault) → RunsSync name old new dialing dialed x → AreUp dialing dialed
sync_up name old new dialing dialed _ (sync_lacking fault h d) = same_up dialing dialed d
sync_up name old new dialing dialed _ (sync_unkept place q end h n k) = h.syncs.gains.hung_up
sync_up name old new dialing dialed _ (sync_ended place q end h n k) = h.syncs.gains.hung_up
sync_up name old new dialing dialed _ (sync_unbegun e d) = same_up dialing dialed d
sync_up name old new dialing dialed _ (sync_unaided place q end h e) = h.syncs.gains.hung_up

follow_up : (name : List ℕ) (count : ℕ) (old new : Keeping) (dialing dialed : Dialing) (out printed : Outflow) (x : Result Report Fault) → RunsFollow name count old new dialing dialed out printed x → AreUp dialing dialed
follow_up name count old new dialing dialed out printed _ (follow_lacking fault h d p) = same_up dialing dialed d
follow_up name count old new dialing dialed out printed _ (follow_unkept place q followed h n o k) = h.follows.gains.hung_up
follow_up name count old new dialing dialed out printed _ (follow_unprinted place q followed h o k) = h.follows.gains.hung_up
follow_up name count old new dialing dialed out printed _ (follow_ended place q followed h n k) = h.follows.gains.hung_up
follow_up name count old new dialing dialed out printed _ (follow_unbegun e d p) = same_up dialing dialed d
follow_up name count old new dialing dialed out printed _ (follow_unaided place q followed h e) = h.follows.gains.hung_up

kept_up : (old new : Setting) → OnlyKeeps old new → AreUp old.dialing new.dialing
kept_up old new h = ap (λ (s : Setting). s.dialing.servers) h

command_up : (name : List ℕ) (command : Command) (x : Result Report Fault) (old new : Setting) → CarriesOut name command x old new → AreUp old.dialing new.dialing
command_up name (New agent place) x old new h = kept_up old new h.0
command_up name (Edit start end text) x old new h = kept_up old new h.0
command_up name (Set text) x old new h = kept_up old new h.0
command_up name Show x old new h = kept_up old new h.0
command_up name Sync x old new h = sync_up name old.keeping new.keeping old.dialing new.dialing x h.1
command_up name (Follow count) x old new h = follow_up name count old.keeping new.keeping old.dialing new.dialing old.outflow new.outflow x h

pub words_hung_up : (words : List (List ℕ)) (x : Result Report Fault) (old new : Setting) → CarriesOutWords words old new x → AreUp old.dialing new.dialing
words_hung_up words x old new h = elim (carried_as words old new x h) [
  | inl k ↦ ap (λ (s : Setting). s.dialing.servers) k.2
  | inr (inl k) ↦ ap (λ (s : Setting). s.dialing.servers) k.1
  | inr (inr k) ↦ command_up k.0 k.1 x old new k.3
]

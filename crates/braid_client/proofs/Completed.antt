-- A command with nothing in its way is done, or there was no memory.
use Rattle.std.proofs.Common.{◌≡◌, ◌≢◌, ◌⊎◌, inl, inr, ℕ, List, [], ◌∷◌, Option, Some, None, Result, Ok, Err, refl, sym, ap, subst, ◌∙◌}
use Rattle.std.specs.FinMap as map
use Rattle.braid_io.specs.Outside.{Outflow, Rose}
use Rattle.braid_io.specs.Keepers.{Kept}
use Rattle.braid_io.specs.declared.status.Status.{Status}
use Rattle.braid_io.specs.declared.status.Status.TheVariants.{Done, Memory}
use Rattle.braid_change.specs.declared.change.Change.{Change}
use Rattle.braid_text.specs.Rooms.{replica_limits}
use Rattle.braid_outbox.specs.Replicas.{ReplicaView}
use Rattle.braid_outbox.specs.Writes.{IsWriteFault}
use Rattle.braid_sync.specs.declared.place.Place.{Place}
use Rattle.braid_sync.specs.declared.end.SyncEnd.{SyncEnd}
use Rattle.braid_sync.specs.declared.end.SyncEnd.TheVariants as ends
use Rattle.braid_sync.specs.declared.following.Followed.{Followed}
use Rattle.braid_sync.specs.Syncs.{Syncs}
use Rattle.braid_sync.specs.Follows.{Follows, Prints}
use Rattle.braid_sync.proofs.LawDialled.{dialled_completes}
use Rattle.braid_client.specs.declared.command.Command.{Command}
use Rattle.braid_client.specs.declared.command.Command.TheVariants.{New, Edit, Set, Show, Sync, Follow}
use Rattle.braid_client.specs.declared.fault.Fault.TheVariants as faults
use Rattle.braid_client.specs.declared.fault.Fault.{Fault}
use Rattle.braid_client.specs.declared.report.Report.{Report}
use Rattle.braid_client.specs.Forms.{IsForm}
use Rattle.braid_client.specs.Texts.{end_status}
use Rattle.braid_client.specs.Runs.{Setting, MakesState, new_unloaded, new_exists, new_unkept, new_made, new_unaided, WritesChange, write_lacking, write_refused, write_unkept, written, write_unaided, ShowsState, show_lacking, shown, show_unaided, RunsSync, sync_lacking, sync_unkept, sync_ended, sync_unbegun, sync_unaided, RunsFollow, follow_lacking, follow_unkept, follow_unprinted, follow_ended, follow_unbegun, follow_unaided, CarriesOut, Finishes}
use Rattle.braid_client.specs.Laws.{SomeRose, IsReplicaOf, CanWrite, IsWell, IsFree, Completes, FollowIsFree}
use Rattle.braid_client.proofs.Unwritten.{written_faultless}
use Rattle.braid_client.proofs.Found.{held_is, has_or_lacks, has_one, has_found, lacks_found}
use Rattle.braid_client.proofs.OneForm.{one_form}
use Rattle.braid_client.proofs.Counts.{carried_as, part_rose, no_load, no_save, no_print}
use Rattle.braid_client.proofs.OneRun.{calm_before, calm_behind}

-- it is done, or there was no memory
abbrev IsGood : Result Report Fault → Type 0
IsGood x = (x ≡ Err faults.Memory) ⊎ ((report : Report) × (x ≡ Ok report) × (report.status ≡ Done))

good_end : (x : Result Report Fault) (status : Status) (before after : Outflow) → IsGood x → (Rose before.faults after.faults → ⊥) → Finishes x status before after → (status ≡ Done) ⊎ (status ≡ Memory)
good_end x status before after (inl e) n h = inr (subst (λ (z : Result Report Fault). Finishes z status before after) e h).0
good_end x status before after (inr (report, e, d)) n h = elim (subst (λ (z : Result Report Fault). Finishes z status before after) e h) [
  | inl k ↦ inl (k.0 ∙ d)
  | inr k ↦ absurd (n k.1.rose)
]

-- an end that is well
well_done : (end : SyncEnd) → IsWell end → end ≢ ends.Memory → end_status end ≡ Done
well_done end (inl e) n = ap end_status e
well_done end (inr e) n = absurd (n e)

module _ (name : List ℕ) (kept : Kept) (old new : Setting) (told : old.keeping.kept ≡ Some kept) (calm : SomeRose old new → ⊥) where
  good_new : (place : Place) (agent : List ℕ) (x : Result Report Fault) → map.get kept name ≡ None → MakesState name place agent old.keeping new.keeping x → IsGood x
  good_new place agent _ free (new_unloaded h) = absurd (no_load old new calm h.2)
  good_new place agent _ free (new_exists bytes h) = absurd (let z : None ≡ Some bytes = sym free ∙ held_is old.keeping.kept kept name (Some bytes) told h.0 in cc)
  good_new place agent _ free (new_unkept h k) = absurd (no_save old new calm k.3)
  good_new place agent _ free (new_made h k) = inr (_, refl, refl)
  good_new place agent _ free (new_unaided e) = inl refl

  good_write : (change : Change) (x : Result Report Fault) → CanWrite change (map.get kept name) → WritesChange name change old.keeping new.keeping x → IsGood x
  good_write change _ free (write_lacking fault h) = absurd (has_or_lacks (map.get kept name) free.0 free.1 fault free.2 (lacks_found name fault old.keeping new.keeping kept told (no_load old new calm) h).0)
  good_write change _ free (write_refused place r fault h n w e) =
      let same : r ≡ free.1 = (has_one (map.get kept name) place free.0 r free.1 (has_found name place r old.keeping kept told h) free.2).1 in
      absurd (written_faultless replica_limits free.1 change fault free.3 n (subst (λ (z : ReplicaView). IsWriteFault replica_limits z change fault) same w))
  good_write change _ free (write_unkept place r h w k) = absurd (no_save old new calm k.3)
  good_write change _ free (written place r h w k) = inr (_, refl, refl)
  good_write change _ free (write_unaided e) = inl refl

  good_show : (x : Result Report Fault) → (place : Place) × (r : ReplicaView) × IsReplicaOf place r (map.get kept name) → ShowsState name old.keeping new.keeping x → IsGood x
  good_show _ free (show_lacking fault h) = absurd (has_or_lacks (map.get kept name) free.0 free.1 fault free.2 (lacks_found name fault old.keeping new.keeping kept told (no_load old new calm) h).0)
  good_show _ free (shown place r h e) = inr (_, refl, refl)
  good_show _ free (show_unaided e) = inl refl

  good_sync : (x : Result Report Fault) (place : Place) (r : ReplicaView) → IsReplicaOf place r (map.get kept name) → ((q : ReplicaView) (end : SyncEnd) → Syncs place r q end old.dialing new.dialing → IsWell end)
      → RunsSync name old.keeping new.keeping old.dialing new.dialing x → IsGood x
  good_sync _ place r has free (sync_lacking fault h d) = absurd (has_or_lacks (map.get kept name) place r fault has (lacks_found name fault old.keeping new.keeping kept told (no_load old new calm) h).0)
  good_sync _ place r has free (sync_unkept there q end h n k) = absurd (no_save old new calm k.3)
  good_sync _ place r has free (sync_ended there q end h n k) =
      let same = has_one (map.get kept name) there place h.replica r (has_found name there h.replica old.keeping kept told h.has) has in
      let here : there ≡ place = same.0 in
      let replica : h.replica ≡ r = same.1 in
      let moved : Syncs place r q end old.dialing new.dialing =
      subst (λ (z : Place). Syncs z r q end old.dialing new.dialing) here (subst (λ (z : ReplicaView). Syncs there z q end old.dialing new.dialing) replica h.syncs) in
      inr (_, refl, well_done end (free q end moved) n)
  good_sync _ place r has free (sync_unbegun e d) = inl refl
  good_sync _ place r has free (sync_unaided there q end h e) = inl refl

  good_follow : (count : ℕ) (printed : Outflow) (x : Result Report Fault) (place : Place) (r : ReplicaView) → IsReplicaOf place r (map.get kept name)
      → ((q : ReplicaView) (followed : Followed) (printed : Outflow) → Follows place count r q followed old.dialing new.dialing old.outflow printed → (Rose old.outflow.faults printed.faults → ⊥) → IsWell followed.end) → (Rose old.outflow.faults printed.faults → ⊥)
      → RunsFollow name count old.keeping new.keeping old.dialing new.dialing old.outflow printed x → IsGood x
  good_follow count printed _ place r has free quiet (follow_lacking fault h d p) = absurd (has_or_lacks (map.get kept name) place r fault has (lacks_found name fault old.keeping new.keeping kept told (no_load old new calm) h).0)
  good_follow count printed _ place r has free quiet (follow_unkept there q followed h n o k) = absurd (no_save old new calm k.3)
  good_follow count printed _ place r has free quiet (follow_unprinted there q followed h o k) = absurd (no_save old new calm k.3)
  good_follow count printed _ place r has free quiet (follow_ended there q followed h n k) =
      let same = has_one (map.get kept name) there place h.replica r (has_found name there h.replica old.keeping kept told h.has) has in
      let here : there ≡ place = same.0 in
      let replica : h.replica ≡ r = same.1 in
      let moved : Follows place count r q followed old.dialing new.dialing old.outflow printed =
      subst (λ (z : Place). Follows z count r q followed old.dialing new.dialing old.outflow printed) here (subst (λ (z : ReplicaView). Follows there count z q followed old.dialing new.dialing old.outflow printed) replica h.follows) in
      inr (_, refl, well_done followed.end (free q followed printed moved quiet) n)
  good_follow count printed _ place r has free quiet (follow_unbegun e d p) = inl refl
  good_follow count printed _ place r has free quiet (follow_unaided there q followed h e) = inl refl

good_command : (name : List ℕ) (command : Command) (kept : Kept) (old mid : Setting) (x : Result Report Fault) → old.keeping.kept ≡ Some kept → (SomeRose old mid → ⊥) → IsFree command (map.get kept name) old mid → CarriesOut name command x old mid → IsGood x
good_command name (New agent place) kept old mid x told calm free h = good_new name kept old mid told calm place agent x free h.1
good_command name (Edit start end text) kept old mid x told calm free h = good_write name kept old mid told calm _ x free h.1
good_command name (Set text) kept old mid x told calm free h = good_write name kept old mid told calm _ x free h.1
good_command name Show kept old mid x told calm free h = good_show name kept old mid told calm x free h.1
good_command name Sync kept old mid x told calm free h = good_sync name kept old mid told calm x free.0 free.1 free.2 free.3 h.1
good_command name (Follow count) kept old mid x told calm free h = good_follow name kept old mid told calm count mid.outflow x free.0 free.1 free.2 free.3 (no_print old mid calm) h

-- what is in a command's way does not hang on what is printed at last
free_before : (command : Command) (found : Option (List ℕ)) (old new : Setting) (before : Outflow) → IsFree command found old new → IsFree command found old (record new { outflow = before })
free_before (New agent place) found old new before h = h
free_before (Edit start end text) found old new before h = h
free_before (Set text) found old new before h = h
free_before Show found old new before h = h
free_before Sync found old new before h = h
free_before (Follow count) found old new before h = h

pub completes : Completes
completes words name command kept status old new form told free run calm = elim (carried_as words old mid run.result run.carries) [
  | inl k ↦ absurd (k.1 name command form)
  | inr (inl k) ↦ good_end run.result status run.before new.outflow (inl k.0) behind run.finishes
  | inr (inr k) ↦ good_end run.result status run.before new.outflow (carried k.0 k.1 k.2 k.3) behind run.finishes
]
  where
    mid : Setting
    mid = record new { outflow = run.before }

    behind : Rose run.before.faults new.outflow.faults → ⊥
    behind = calm_behind words status old new run calm

    carried : (other : List ℕ) (wish : Command) → IsForm words other wish → CarriesOut other wish run.result old mid → IsGood run.result
    carried other wish f h =
        let one = one_form words other name wish command f form in
        let named : other ≡ name = one.0 in
        let same : wish ≡ command = one.1 in
        let moved : CarriesOut name command run.result old mid =
        subst (λ (z : List ℕ). CarriesOut z command run.result old mid) named (subst (λ (z : Command). CarriesOut other z run.result old mid) same h) in
        good_command name command kept old mid run.result told (calm_before words status old new run calm) (free_before command (map.get kept name) old new run.before free) moved

-- lines of which none failed leave the output's count
lines_stay : (lines line : List ℕ) (old new : Outflow) → Prints lines line old new → (Rose old.faults new.faults → ⊥) → new.faults ≡ old.faults
lines_stay lines [] old new p n = p.faults
lines_stay lines (b ∷ line) old new p n = absurd (n (part_rose lines (b ∷ line) old new p (λ e. cc)))

pub follow_is_free : FollowIsFree
follow_is_free place count r m found old new bytes V us has gained none is learns = (place, r, has, well)
  where
    well : (q : ReplicaView) (followed : Followed) (printed : Outflow) → Follows place count r q followed old.dialing new.dialing old.outflow printed → (Rose old.outflow.faults printed.faults → ⊥) → IsWell followed.end
    well q followed printed f n = dialled_completes place count r q m followed old.dialing new.dialing old.outflow printed bytes V us f gained
        (record { dials = none.dials; reads = none.reads; writes = none.writes; prints = lines_stay f.lines f.line old.outflow printed f.printed n; below = none.below }) is learns

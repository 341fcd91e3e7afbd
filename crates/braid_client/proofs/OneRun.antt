-- The words, what is kept, and what was said on the links decide a run in which no call failed and memory was there.
use Rattle.std.proofs.Common.{◌≡◌, ◌≢◌, ◌⊎◌, inl, inr, ℕ, List, [], ◌∷◌, true, Option, Some, None, Result, Ok, Err, refl, sym, ap, subst, ◌∙◌}
use Rattle.std.specs.FinMap as map
use Rattle.std.specs.Str.{all_scalars}
use Rattle.std.specs.Io.KnownBytes.{append_known}
use Rattle.braid_io.specs.Outside.{Outflow, Rose, WritesAll}
use Rattle.braid_io.specs.Dialers.{Dialing}
use Rattle.braid_io.specs.Keepers.{Kept, Keeping}
use Rattle.braid_io.specs.declared.status.Status.{Status}
use Rattle.braid_io.specs.declared.status.Status.TheVariants as statuses
use Rattle.braid_change.specs.Changes.{AreScalars}
use Rattle.braid_change.specs.declared.change.Change.{Change}
use Rattle.braid_change.specs.declared.change.Change.TheVariants.{Body}
use Rattle.braid_text.specs.Rooms.{replica_limits}
use Rattle.braid_outbox.specs.declared.faults.WriteFault.{WriteFault}
use Rattle.braid_outbox.specs.declared.faults.WriteFault.TheVariants as writes
use Rattle.braid_outbox.specs.Replicas.{ReplicaView}
use Rattle.braid_outbox.specs.Writes.{additions, is_written, write, IsWriteFault}
use Rattle.braid_sync.specs.declared.place.Place.{Place}
use Rattle.braid_sync.specs.declared.end.SyncEnd.{SyncEnd}
use Rattle.braid_sync.specs.declared.end.SyncEnd.TheVariants as ends
use Rattle.braid_sync.specs.declared.following.Followed.{Followed}
use Rattle.braid_sync.specs.Syncs.{Syncs}
use Rattle.braid_sync.specs.Follows.{Follows, Prints}
use Rattle.braid_client.specs.declared.command.Command.{Command}
use Rattle.braid_client.specs.declared.command.Command.TheVariants.{New, Edit, Set, Show, Sync, Follow}
use Rattle.braid_client.specs.declared.fault.Fault.{Fault}
use Rattle.braid_client.specs.declared.fault.Fault.TheVariants as faults
use Rattle.braid_client.specs.declared.report.Report.{Report}
use Rattle.braid_client.specs.Forms.{Asks, IsForm}
use Rattle.braid_client.specs.Texts.{new_text, wrote_text, show_text, synced_text, followed_text}
use Rattle.braid_lines.specs.Prints.{IsPrinted}
use Rattle.braid_client.specs.Runs.{Setting, first_of, KeepsState, done_with, ended_with, MakesState, new_unloaded, new_exists, new_unkept, new_made, new_unaided, WritesChange, write_lacking, write_refused, write_unkept, written, write_unaided, ShowsState, show_lacking, shown, show_unaided, RunsSync, sync_lacking, sync_unkept, sync_ended, sync_unbegun, sync_unaided, RunsFollow, follow_lacking, follow_unkept, follow_unprinted, follow_ended, follow_unbegun, follow_unaided, range_change, CarriesOut, CarriesOutWords, Faults, GivesUp, Finishes, ClientRuns}
use Rattle.braid_client.specs.Laws.{SomeRose, IsReplicaOf, GainsTelling, TellsLinks, OneRun}
use Rattle.braid_client.proofs.Unwritten.{one_unwritten, written_faultless}
use Rattle.braid_client.proofs.Found.{Lacks, held_is, lacks_one, has_or_lacks, has_one, has_found, lacks_found}
use Rattle.braid_client.proofs.OneForm.{one_form}
use Rattle.braid_client.proofs.Counts.{rose_after, rose_before, carried_as, whole_prints, part_rose, words_up, finishes_up, no_load, no_save, no_dial, no_read, no_write, no_print}
use Rattle.braid_client.proofs.OneTalk.{one_synced, one_followed}

abbrev pub NoMemory : Result Report Fault → Type 0
NoMemory x = x ≡ Err faults.Memory → ⊥

none_some : {X : Type 0} (o : Option X) (x : X) → o ≡ None → o ≡ Some x → ⊥
none_some o x n s = let z : None ≡ Some x = sym n ∙ s in cc

-- what holds of `new`
module _ (name : List ℕ) (place : Place) (agent : List ℕ) (kept : Kept) (old : Keeping) (told : old.kept ≡ Some kept) where
  abbrev Made : Keeping → Result Report Fault → Type 0
  Made new x =
      ((bytes : List ℕ) × (map.get kept name ≡ Some bytes) × (x ≡ Err faults.Exists) × (new ≡ old))
      ⊎ ((map.get kept name ≡ None) × (x ≡ Ok (done_with (new_text agent))) × KeepsState name place (first_of agent) old new)

  pub made_as : (new : Keeping) (x : Result Report Fault) → (Rose old.load_faults new.load_faults → ⊥) → (Rose old.save_faults new.save_faults → ⊥) → NoMemory x → MakesState name place agent old new x → Made new x
  made_as new _ l s m (new_unloaded h) = absurd (l h.2)
  made_as new _ l s m (new_exists bytes h) = inl (bytes, held_is old.kept kept name (Some bytes) told h.0, refl, h.1)
  made_as new _ l s m (new_unkept h k) = absurd (s k.3)
  made_as new _ l s m (new_made h k) = inr (held_is old.kept kept name None told h, refl, k)
  made_as new _ l s m (new_unaided e) = absurd (m refl)

  pub made_one : (new next : Keeping) (x y : Result Report Fault) → Made new x → Made next y → (x ≡ y) × (new ≡ next)
  made_one new next x y (inl h) (inl k) = (h.2 ∙ sym k.2, h.3 ∙ sym k.3)
  made_one new next x y (inl h) (inr k) = absurd (none_some (map.get kept name) h.0 k.0 h.1)
  made_one new next x y (inr h) (inl k) = absurd (none_some (map.get kept name) k.0 h.0 k.1)
  made_one new next x y (inr h) (inr k) = (h.1 ∙ sym k.1, h.2 ∙ sym k.2)

-- of `edit` and `set`
module _ (name : List ℕ) (change : Change) (kept : Kept) (old : Keeping) (told : old.kept ≡ Some kept) where
  abbrev WrittenAs : Keeping → Result Report Fault → Type 0
  WrittenAs new x =
      ((fault : Fault) × Lacks (map.get kept name) fault × (x ≡ Err fault) × (new ≡ old))
      ⊎ (((place : Place) × (r : ReplicaView) × (fault : WriteFault) × IsReplicaOf place r (map.get kept name) × (fault ≢ writes.Memory)
      × IsWriteFault replica_limits r change fault × (x ≡ Err (faults.Write fault)) × (new ≡ old))
      ⊎ ((place : Place) × (r : ReplicaView) × IsReplicaOf place r (map.get kept name) × (is_written replica_limits r change ≡ true)
      × (x ≡ Ok (done_with (wrote_text (additions r change)))) × KeepsState name place (write replica_limits r change) old new))

  pub written_as : (new : Keeping) (x : Result Report Fault) → (Rose old.load_faults new.load_faults → ⊥) → (Rose old.save_faults new.save_faults → ⊥) → NoMemory x → WritesChange name change old new x → WrittenAs new x
  written_as new _ l s m (write_lacking fault h) = let k = lacks_found name fault old new kept told l h in inl (fault, k.0, refl, k.1)
  written_as new _ l s m (write_refused place r fault h n w e) = inr (inl (place, r, fault, has_found name place r old kept told h, n, w, refl, e))
  written_as new _ l s m (write_unkept place r h w k) = absurd (s k.3)
  written_as new _ l s m (written place r h w k) = inr (inr (place, r, has_found name place r old kept told h, w, refl, k))
  written_as new _ l s m (write_unaided e) = absurd (m refl)

  pub written_one : (new next : Keeping) (x y : Result Report Fault) → AreScalars change → WrittenAs new x → WrittenAs next y → (x ≡ y) × (new ≡ next)
  written_one new next x y c (inl (f, h, e, n)) (inl (g, k, d, m)) = (e ∙ ap (λ (z : Fault). Err z) (lacks_one (map.get kept name) f g h k) ∙ sym d, n ∙ sym m)
  written_one new next x y c (inl (f, h, e, n)) (inr (inl (place, r, g, k, o, w, d, m))) = absurd (has_or_lacks (map.get kept name) place r f k h)
  written_one new next x y c (inl (f, h, e, n)) (inr (inr (place, r, k, w, d, m))) = absurd (has_or_lacks (map.get kept name) place r f k h)
  written_one new next x y c (inr (inl (place, r, f, h, o, w, e, n))) (inl (g, k, d, m)) = absurd (has_or_lacks (map.get kept name) place r g h k)
  written_one new next x y c (inr (inl (place, r, f, h, o, w, e, n))) (inr (inl (there, q, g, k, p, v, d, m))) =
      let same : r ≡ q = (has_one (map.get kept name) place there r q h k).1 in
      let fault : f ≡ g = one_unwritten replica_limits q change f g c o p (subst (λ (z : ReplicaView). IsWriteFault replica_limits z change f) same w) v in
      (e ∙ ap (λ (z : WriteFault). Err (faults.Write z)) fault ∙ sym d, n ∙ sym m)
  written_one new next x y c (inr (inl (place, r, f, h, o, w, e, n))) (inr (inr (there, q, k, v, d, m))) =
      let same : r ≡ q = (has_one (map.get kept name) place there r q h k).1 in
      absurd (written_faultless replica_limits q change f v o (subst (λ (z : ReplicaView). IsWriteFault replica_limits z change f) same w))
  written_one new next x y c (inr (inr (place, r, h, w, e, n))) (inl (g, k, d, m)) = absurd (has_or_lacks (map.get kept name) place r g h k)
  written_one new next x y c (inr (inr (place, r, h, w, e, n))) (inr (inl (there, q, g, k, p, v, d, m))) =
      let same : q ≡ r = (has_one (map.get kept name) there place q r k h).1 in
      absurd (written_faultless replica_limits r change g w p (subst (λ (z : ReplicaView). IsWriteFault replica_limits z change g) same v))
  written_one new next x y c (inr (inr (place, r, h, w, e, n))) (inr (inr (there, q, k, v, d, m))) =
      let same = has_one (map.get kept name) place there r q h k in
      let here : place ≡ there = same.0 in
      let replica : r ≡ q = same.1 in
      let moved : KeepsState name there (write replica_limits q change) old new =
      subst (λ (z : Place). KeepsState name z (write replica_limits q change) old new) here (subst (λ (z : ReplicaView). KeepsState name place (write replica_limits z change) old new) replica n) in
      (e ∙ ap (λ (z : ReplicaView). Ok (done_with (wrote_text (additions z change)))) replica ∙ sym d, moved ∙ sym m)

-- of `show`
module _ (name : List ℕ) (kept : Kept) (old : Keeping) (told : old.kept ≡ Some kept) where
  abbrev ShownAs : Keeping → Result Report Fault → Type 0
  ShownAs new x =
      ((fault : Fault) × Lacks (map.get kept name) fault × (x ≡ Err fault) × (new ≡ old))
      ⊎ ((place : Place) × (r : ReplicaView) × IsReplicaOf place r (map.get kept name) × (x ≡ Ok (done_with (show_text place.path r))) × (new ≡ old))

  pub shown_as : (new : Keeping) (x : Result Report Fault) → (Rose old.load_faults new.load_faults → ⊥) → NoMemory x → ShowsState name old new x → ShownAs new x
  shown_as new _ l m (show_lacking fault h) = let k = lacks_found name fault old new kept told l h in inl (fault, k.0, refl, k.1)
  shown_as new _ l m (shown place r h e) = inr (place, r, has_found name place r old kept told h, refl, e)
  shown_as new _ l m (show_unaided e) = absurd (m refl)

  pub shown_one : (new next : Keeping) (x y : Result Report Fault) → ShownAs new x → ShownAs next y → (x ≡ y) × (new ≡ next)
  shown_one new next x y (inl (f, h, e, n)) (inl (g, k, d, m)) = (e ∙ ap (λ (z : Fault). Err z) (lacks_one (map.get kept name) f g h k) ∙ sym d, n ∙ sym m)
  shown_one new next x y (inl (f, h, e, n)) (inr (place, r, k, d, m)) = absurd (has_or_lacks (map.get kept name) place r f k h)
  shown_one new next x y (inr (place, r, h, e, n)) (inl (g, k, d, m)) = absurd (has_or_lacks (map.get kept name) place r g h k)
  shown_one new next x y (inr (place, r, h, e, n)) (inr (there, q, k, d, m)) =
      let same = has_one (map.get kept name) place there r q h k in
      let here : place ≡ there = same.0 in
      let replica : r ≡ q = same.1 in
      let text : show_text place.path r ≡ show_text there.path q = λ i. show_text (here i).path (replica i) in
      (e ∙ ap (λ (z : List ℕ). Ok (done_with z)) text ∙ sym d, n ∙ sym m)

-- of `sync`
module _ (name : List ℕ) (kept : Kept) (old : Keeping) (told : old.kept ≡ Some kept) (dialing dialed : Dialing) where
  abbrev SyncedAs : Keeping → Result Report Fault → Type 0
  SyncedAs new x =
      ((fault : Fault) × Lacks (map.get kept name) fault × (x ≡ Err fault) × (new ≡ old))
      ⊎ ((place : Place) × (r : ReplicaView) × (q : ReplicaView) × (end : SyncEnd) × IsReplicaOf place r (map.get kept name) × Syncs place r q end dialing dialed × (end ≢ ends.Memory)
      × (x ≡ Ok (ended_with (synced_text q) end)) × KeepsState name place q old new)

  pub synced_as : (new : Keeping) (x : Result Report Fault) → (Rose old.load_faults new.load_faults → ⊥) → (Rose old.save_faults new.save_faults → ⊥) → NoMemory x → RunsSync name old new dialing dialed x → SyncedAs new x
  synced_as new _ l s m (sync_lacking fault h d) = let k = lacks_found name fault old new kept told l h in inl (fault, k.0, refl, k.1)
  synced_as new _ l s m (sync_unkept place q end h n k) = absurd (s k.3)
  synced_as new _ l s m (sync_ended place q end h n k) = inr (place, h.replica, q, end, has_found name place h.replica old kept told h.has, h.syncs, n, refl, k)
  synced_as new _ l s m (sync_unbegun e d) = absurd (m refl)
  synced_as new _ l s m (sync_unaided place q end h e) = absurd (m refl)

  pub synced_one : (new next : Keeping) (x y : Result Report Fault) → GainsTelling dialing dialed → (Rose dialing.faults dialed.faults → ⊥) → (Rose dialing.link_read_faults dialed.link_read_faults → ⊥) → (Rose dialing.link_write_faults dialed.link_write_faults → ⊥)
      → SyncedAs new x → SyncedAs next y → (x ≡ y) × (new ≡ next)
  synced_one new next x y g a b c (inl (f, h, e, n)) (inl (o, k, d, m)) = (e ∙ ap (λ (z : Fault). Err z) (lacks_one (map.get kept name) f o h k) ∙ sym d, n ∙ sym m)
  synced_one new next x y g a b c (inl (f, h, e, n)) (inr (place, r, q, end, k, s, o, d, m)) = absurd (has_or_lacks (map.get kept name) place r f k h)
  synced_one new next x y g a b c (inr (place, r, q, end, h, s, o, e, n)) (inl (f, k, d, m)) = absurd (has_or_lacks (map.get kept name) place r f h k)
  synced_one new next x y g a b c (inr (place, r, q, end, h, s, o, e, n)) (inr (there, p, w, stop, k, t, u, d, m)) =
      let same = has_one (map.get kept name) place there r p h k in
      let here : place ≡ there = same.0 in
      let replica : r ≡ p = same.1 in
      let moved : Syncs there p q end dialing dialed = subst (λ (z : Place). Syncs z p q end dialing dialed) here (subst (λ (z : ReplicaView). Syncs place z q end dialing dialed) replica s) in
      let law = one_synced there p q w end stop dialing dialed g a b c moved t o u in
      let left : q ≡ w = law.0 in
      let ended : end ≡ stop = law.1 in
      let report : ended_with (synced_text q) end ≡ ended_with (synced_text w) stop = λ i. ended_with (synced_text (left i)) (ended i) in
      let keeps : KeepsState name there w old new = subst (λ (z : Place). KeepsState name z w old new) here (subst (λ (z : ReplicaView). KeepsState name place z old new) left n) in
      (e ∙ ap (λ (z : Report). Ok z) report ∙ sym d, keeps ∙ sym m)

-- of `follow`
module _ (name : List ℕ) (count : ℕ) (kept : Kept) (old : Keeping) (told : old.kept ≡ Some kept) (dialing dialed : Dialing) (out : Outflow) where
  abbrev FollowedAs : Keeping → Outflow → Result Report Fault → Type 0
  FollowedAs new printed x =
      ((fault : Fault) × Lacks (map.get kept name) fault × (x ≡ Err fault) × (new ≡ old) × (printed ≡ out))
      ⊎ ((place : Place) × (r : ReplicaView) × (q : ReplicaView) × (followed : Followed) × IsReplicaOf place r (map.get kept name) × Follows place count r q followed dialing dialed out printed × (followed.end ≢ ends.Memory)
      × (x ≡ Ok (ended_with (followed_text followed.lines) followed.end)) × KeepsState name place q old new)

  pub followed_as : (new : Keeping) (printed : Outflow) (x : Result Report Fault) → (Rose old.load_faults new.load_faults → ⊥) → (Rose old.save_faults new.save_faults → ⊥) → NoMemory x → RunsFollow name count old new dialing dialed out printed x → FollowedAs new printed x
  followed_as new printed _ l s m (follow_lacking fault h d p) = let k = lacks_found name fault old new kept told l h in inl (fault, k.0, refl, k.1, p)
  followed_as new printed _ l s m (follow_unkept place q followed h n o k) = absurd (s k.3)
  followed_as new printed _ l s m (follow_unprinted place q followed h o k) = absurd (s k.3)
  followed_as new printed _ l s m (follow_ended place q followed h n k) = inr (place, h.replica, q, followed, has_found name place h.replica old kept told h.has, h.follows, n, refl, k)
  followed_as new printed _ l s m (follow_unbegun e d p) = absurd (m refl)
  followed_as new printed _ l s m (follow_unaided place q followed h e) = absurd (m refl)

  -- lines that were written whole leave one output
  whole_one : (lines texts line text : List ℕ) (a b : Outflow) → Prints lines line out a → Prints texts text out b → (Rose out.faults a.faults → ⊥) → (Rose out.faults b.faults → ⊥) → lines ≡ texts → a ≡ b
  whole_one lines texts line text a b p q n m e =
      let first : WritesAll lines out a = whole_prints lines line out a p (none lines line a p n) in
      let second : WritesAll texts out b = whole_prints texts text out b q (none texts text b q m) in
      let put : a.written ≡ b.written = first.written ∙ ap (append_known out.written) e ∙ sym second.written in
      let stayed : a.faults ≡ b.faults = first.faults ∙ sym second.faults in
      λ i. record { written = put i; faults = stayed i }
    where
      none : (lines line : List ℕ) (c : Outflow) → Prints lines line out c → (Rose out.faults c.faults → ⊥) → line ≡ []
      none lines [] c p n = refl
      none lines (x ∷ line) c p n = absurd (n (part_rose lines (x ∷ line) out c p (λ z. cc)))

  pub followed_one : (new next : Keeping) (a b : Outflow) (x y : Result Report Fault) → GainsTelling dialing dialed → (Rose dialing.faults dialed.faults → ⊥) → (Rose dialing.link_read_faults dialed.link_read_faults → ⊥) → (Rose dialing.link_write_faults dialed.link_write_faults → ⊥)
      → (Rose out.faults a.faults → ⊥) → (Rose out.faults b.faults → ⊥) → FollowedAs new a x → FollowedAs next b y → (x ≡ y) × (new ≡ next) × (a ≡ b)
  followed_one new next a b x y g i j l v w (inl (f, h, e, n, p)) (inl (o, k, d, m, q)) = (e ∙ ap (λ (z : Fault). Err z) (lacks_one (map.get kept name) f o h k) ∙ sym d, n ∙ sym m, p ∙ sym q)
  followed_one new next a b x y g i j l v w (inl (f, h, e, n, p)) (inr (place, r, q, followed, k, s, o, d, m)) = absurd (has_or_lacks (map.get kept name) place r f k h)
  followed_one new next a b x y g i j l v w (inr (place, r, q, followed, h, s, o, e, n)) (inl (f, k, d, m, p)) = absurd (has_or_lacks (map.get kept name) place r f h k)
  followed_one new next a b x y g i j l v w (inr (place, r, q, followed, h, s, o, e, n)) (inr (there, p, z, other, k, t, u, d, m)) =
      let same = has_one (map.get kept name) place there r p h k in
      let here : place ≡ there = same.0 in
      let replica : r ≡ p = same.1 in
      let moved : Follows there count p q followed dialing dialed out a =
      subst (λ (c : Place). Follows c count p q followed dialing dialed out a) here (subst (λ (c : ReplicaView). Follows place count c q followed dialing dialed out a) replica s) in
      let law = one_followed there count p q z followed other dialing dialed out a b g i j l v w moved t o u in
      let left : q ≡ z = law.replica in
      let ended : followed ≡ other = law.end in
      let report : ended_with (followed_text followed.lines) followed.end ≡ ended_with (followed_text other.lines) other.end =
      λ c. ended_with (followed_text (ended c).lines) (ended c).end in
      let keeps : KeepsState name there z old new = subst (λ (c : Place). KeepsState name c z old new) here (subst (λ (c : ReplicaView). KeepsState name place c old new) left n) in
      let printed : a ≡ b = whole_one moved.lines t.lines moved.line t.line a b moved.printed t.printed v w law.lines_are in
      (e ∙ ap (λ (c : Report). Ok c) report ∙ sym d, keeps ∙ sym m, printed)

-- two settings with the same parts
parts_one : (a b : Setting) → a.keeping ≡ b.keeping → a.dialing ≡ b.dialing → a.outflow ≡ b.outflow → a ≡ b
parts_one a b k d o = λ i. record { keeping = k i; dialing = d i; outflow = o i }

only_keeps_one : (old a b : Setting) → a ≡ record old { keeping = a.keeping } → b ≡ record old { keeping = b.keeping } → a.keeping ≡ b.keeping → a ≡ b
only_keeps_one old a b h k e = h ∙ ap (λ (z : Keeping). record old { keeping = z }) e ∙ sym k

range_scalars : (start end : ℕ) (text : List ℕ) → all_scalars text ≡ true → AreScalars (range_change start end text)
range_scalars start end text h = (h, tt)

-- a command that is carried out twice
command_one : (own : List ℕ) (rest : List (List ℕ)) (name : List ℕ) (command : Command) (kept : Kept) (old a b : Setting) (x y : Result Report Fault) → Asks own rest command → old.keeping.kept ≡ Some kept → TellsLinks command old.dialing a.dialing → b.dialing ≡ a.dialing
    → (SomeRose old a → ⊥) → (SomeRose old b → ⊥) → NoMemory x → NoMemory y → CarriesOut name command x old a → CarriesOut name command y old b → (x ≡ y) × (a ≡ b)
command_one own rest name (New agent place) kept old a b x y asks told g d c e n m h k =
    let one = made_one name place agent kept old.keeping told a.keeping b.keeping x y
    (made_as name place agent kept old.keeping told a.keeping x (no_load old a c) (no_save old a c) n h.1)
    (made_as name place agent kept old.keeping told b.keeping y (no_load old b e) (no_save old b e) m k.1) in
    (one.0, only_keeps_one old a b h.0 k.0 one.1)
command_one own rest name (Edit start end text) kept old a b x y asks told g d c e n m h k =
    let change = range_change start end text in
    let one = written_one name change kept old.keeping told a.keeping b.keeping x y (range_scalars start end text asks.1.8.scalar)
    (written_as name change kept old.keeping told a.keeping x (no_load old a c) (no_save old a c) n h.1)
    (written_as name change kept old.keeping told b.keeping y (no_load old b e) (no_save old b e) m k.1) in
    (one.0, only_keeps_one old a b h.0 k.0 one.1)
command_one own rest name (Set text) kept old a b x y asks told g d c e n m h k =
    let one = written_one name (Body text) kept old.keeping told a.keeping b.keeping x y asks.1.2.scalar
    (written_as name (Body text) kept old.keeping told a.keeping x (no_load old a c) (no_save old a c) n h.1)
    (written_as name (Body text) kept old.keeping told b.keeping y (no_load old b e) (no_save old b e) m k.1) in
    (one.0, only_keeps_one old a b h.0 k.0 one.1)
command_one own rest name Show kept old a b x y asks told g d c e n m h k =
    let one = shown_one name kept old.keeping told a.keeping b.keeping x y
    (shown_as name kept old.keeping told a.keeping x (no_load old a c) n h.1)
    (shown_as name kept old.keeping told b.keeping y (no_load old b e) m k.1) in
    (one.0, only_keeps_one old a b h.0 k.0 one.1)
command_one own rest name Sync kept old a b x y asks told g d c e n m h k =
    let other : RunsSync name old.keeping b.keeping old.dialing a.dialing y = subst (λ (z : Dialing). RunsSync name old.keeping b.keeping old.dialing z y) d k.1 in
    let one = synced_one name kept old.keeping told old.dialing a.dialing a.keeping b.keeping x y g (no_dial old a c) (no_read old a c) (no_write old a c)
    (synced_as name kept old.keeping told old.dialing a.dialing a.keeping x (no_load old a c) (no_save old a c) n h.1)
    (synced_as name kept old.keeping told old.dialing a.dialing b.keeping y (no_load old b e) (no_save old b e) m other) in
    (one.0, parts_one a b one.1 (sym d) (h.0 ∙ sym k.0))
command_one own rest name (Follow count) kept old a b x y asks told g d c e n m h k =
    let other : RunsFollow name count old.keeping b.keeping old.dialing a.dialing old.outflow b.outflow y = subst (λ (z : Dialing). RunsFollow name count old.keeping b.keeping old.dialing z old.outflow b.outflow y) d k in
    let one = followed_one name count kept old.keeping told old.dialing a.dialing old.outflow a.keeping b.keeping a.outflow b.outflow x y g (no_dial old a c) (no_read old a c) (no_write old a c) (no_print old a c) (no_print old b e)
    (followed_as name count kept old.keeping told old.dialing a.dialing old.outflow a.keeping a.outflow x (no_load old a c) (no_save old a c) n h)
    (followed_as name count kept old.keeping told old.dialing a.dialing old.outflow b.keeping b.outflow y (no_load old b e) (no_save old b e) m other) in
    (one.0, parts_one a b one.1 (sym d) one.2)

-- words that are carried out twice
words_one : (words : List (List ℕ)) (kept : Kept) (old a b : Setting) (x y : Result Report Fault) → old.keeping.kept ≡ Some kept → ((name : List ℕ) (command : Command) → IsForm words name command → TellsLinks command old.dialing a.dialing) → b.dialing ≡ a.dialing → (SomeRose old a → ⊥) → (SomeRose old b → ⊥)
    → NoMemory x → NoMemory y → CarriesOutWords words old a x → CarriesOutWords words old b y → (x ≡ y) × (a ≡ b)
words_one words kept old a b x y told g d c e n m h k = elim (carried_as words old a x h) [
  | inl i ↦ elim (carried_as words old b y k) [
    | inl j ↦ (i.0 ∙ sym j.0, i.2 ∙ sym j.2)
    | inr (inl j) ↦ absurd (m j.0)
    | inr (inr j) ↦ absurd (i.1 j.0 j.1 j.2)
  ]
  | inr (inl i) ↦ absurd (n i.0)
  | inr (inr i) ↦ elim (carried_as words old b y k) [
    | inl j ↦ absurd (j.1 i.0 i.1 i.2)
    | inr (inl j) ↦ absurd (m j.0)
    | inr (inr j) ↦ both i.0 j.0 i.1 j.1 i.2 j.2 i.3 j.3
  ]
]
  where
    both : (name other : List ℕ) (command wish : Command) → IsForm words name command → IsForm words other wish → CarriesOut name command x old a → CarriesOut other wish y old b → (x ≡ y) × (a ≡ b)
    both name other command wish f o s t =
        let one = one_form words name other command wish f o in
        let named : name ≡ other = one.0 in
        let same : command ≡ wish = one.1 in
        let moved : CarriesOut other wish x old a = subst (λ (z : List ℕ). CarriesOut z wish x old a) named (subst (λ (z : Command). CarriesOut name z x old a) same s) in
        command_one o.own o.rest other wish kept old a b x y o.asks told (g other wish o) d c e n m moved t

-- the last text, twice
reports_one : (text : List ℕ) (own s t : Status) (before a b : Outflow) → (Rose before.faults a.faults → ⊥) → (Rose before.faults b.faults → ⊥) → IsPrinted text own s before a → IsPrinted text own t before b → (s ≡ t) × (a ≡ b)
reports_one text own s t before a b n m (inl h) (inl k) =
    let put : a.written ≡ b.written = h.1.written ∙ sym k.1.written in
    let stayed : a.faults ≡ b.faults = h.1.faults ∙ sym k.1.faults in
    let same : a ≡ b = λ i. record { written = put i; faults = stayed i } in
    (h.0 ∙ sym k.0, same)
reports_one text own s t before a b n m (inl h) (inr k) = absurd (m k.1.rose)
reports_one text own s t before a b n m (inr h) k = absurd (n h.1.rose)

abbrev FinishedOne : Result Report Fault → Type 0
FinishedOne x =
    (s t : Status) (before a b : Outflow) → (Rose before.faults a.faults → ⊥) → (Rose before.faults b.faults → ⊥) → s ≢ statuses.Memory → t ≢ statuses.Memory
    → Finishes x s before a → Finishes x t before b → (s ≡ t) × (a ≡ b)

told_one : (fault : Fault) (s t : Status) (before a b : Outflow) → (Rose before.faults a.faults → ⊥) → (Rose before.faults b.faults → ⊥) → s ≢ statuses.Memory → t ≢ statuses.Memory → Faults fault s before a ⊎ GivesUp s before a → Faults fault t before b ⊎ GivesUp t before b
    → (s ≡ t) × (a ≡ b)
told_one fault s t before a b n m o p (inl h) (inl k) = reports_one _ _ s t before a b n m h k
told_one fault s t before a b n m o p (inl h) (inr k) = absurd (p k.0)
told_one fault s t before a b n m o p (inr h) k = absurd (o h.0)

finished_one : (x : Result Report Fault) → FinishedOne x
finished_one (Ok report) s t before a b n m o p h k = reports_one report.text report.status s t before a b n m h k
finished_one (Err faults.Usage) s t before a b n m o p h k = reports_one _ _ s t before a b n m h k
finished_one (Err faults.NoState) s t before a b n m o p h k = reports_one _ _ s t before a b n m h k
finished_one (Err faults.Exists) s t before a b n m o p h k = reports_one _ _ s t before a b n m h k
finished_one (Err (faults.BadState at)) s t before a b n m o p h k = told_one (faults.BadState at) s t before a b n m o p h k
finished_one (Err (faults.BadEntry at)) s t before a b n m o p h k = told_one (faults.BadEntry at) s t before a b n m o p h k
finished_one (Err (faults.Write fault)) s t before a b n m o p h k = told_one (faults.Write fault) s t before a b n m o p h k
finished_one (Err faults.LoadFault) s t before a b n m o p h k = reports_one _ _ s t before a b n m h k
finished_one (Err faults.SaveFault) s t before a b n m o p h k = reports_one _ _ s t before a b n m h k
finished_one (Err faults.Memory) s t before a b n m o p h k = absurd (o h.0)

has_memory : (x : Result Report Fault) (status : Status) (before after : Outflow) → status ≢ statuses.Memory → Finishes x status before after → NoMemory x
has_memory x status before after n h e = n (subst (λ (z : Result Report Fault). Finishes z status before after) e h).0

-- before its last text no count of a run rose, where none did at its end
pub calm_before : (words : List (List ℕ)) (status : Status) (old new : Setting) (run : ClientRuns words status old new) → (SomeRose old new → ⊥) → SomeRose old (record new { outflow = run.before }) → ⊥
calm_before words status old new run calm (inl h) = calm (inl h)
calm_before words status old new run calm (inr (inl h)) = calm (inr (inl h))
calm_before words status old new run calm (inr (inr (inl h))) = calm (inr (inr (inl h)))
calm_before words status old new run calm (inr (inr (inr (inl h)))) = calm (inr (inr (inr (inl h))))
calm_before words status old new run calm (inr (inr (inr (inr (inl h))))) = calm (inr (inr (inr (inr (inl h)))))
calm_before words status old new run calm (inr (inr (inr (inr (inr h))))) = calm (inr (inr (inr (inr (inr
    (rose_before old.outflow.faults run.before.faults new.outflow.faults (words_up words old (record new { outflow = run.before }) run.result run.carries) (finishes_up run.result status run.before new.outflow run.finishes) h))))))

-- with it none did
pub calm_behind : (words : List (List ℕ)) (status : Status) (old new : Setting) (run : ClientRuns words status old new) → (SomeRose old new → ⊥) → Rose run.before.faults new.outflow.faults → ⊥
calm_behind words status old new run calm h =
    no_print old new calm (rose_after old.outflow.faults run.before.faults new.outflow.faults (words_up words old (record new { outflow = run.before }) run.result run.carries) h)

pub one_run : OneRun
one_run words kept status other old new next told g d run again calm still n o = (done.0, parts_one new next (ap (λ (s : Setting). s.keeping) both.1) (sym d) done.1)
  where
    mid : Setting
    mid = record new { outflow = run.before }

    between : Setting
    between = record next { outflow = again.before }

    both : (run.result ≡ again.result) × (mid ≡ between)
    both = words_one words kept old mid between run.result again.result told g d (calm_before words status old new run calm) (calm_before words other old next again still)
        (has_memory run.result status run.before new.outflow n run.finishes) (has_memory again.result other again.before next.outflow o again.finishes) run.carries again.carries

    same_before : again.before ≡ run.before
    same_before = sym (ap (λ (s : Setting). s.outflow) both.1)

    ends_so : Finishes run.result other run.before next.outflow
    ends_so = subst (λ (z : Outflow). Finishes run.result other z next.outflow) same_before (subst (λ (z : Result Report Fault). Finishes z other again.before next.outflow) (sym both.0) again.finishes)

    done : (status ≡ other) × (new.outflow ≡ next.outflow)
    done = finished_one run.result status other run.before new.outflow next.outflow (calm_behind words status old new run calm)
        (λ h. calm_behind words other old next again still (subst (λ (z : Outflow). Rose z.faults next.outflow.faults) (sym same_before) h)) n o run.finishes ends_so

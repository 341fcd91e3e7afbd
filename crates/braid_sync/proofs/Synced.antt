-- A sync, link by link.
use Rattle.std.proofs.Common.{◌≡◌, ◌≢◌, ◌⊎◌, ◌<◌, List, [], ◌∷◌, ◌++◌, None, Result, Ok, Err, length, refl, ap, sym, subst, ◌∙◌, append_assoc, append-nil, length-append, inl, inr, arith}
use Rattle.std.specs.List.{AllByRecursion}
use Rattle.braid_io.specs.Dialers.{Talk, Dialing}
use Rattle.braid_change.specs.Updates.{UpdateView}
use Rattle.braid_outbox.specs.Replicas.{ReplicaView}
use Rattle.braid_sync.specs.declared.place.Place.{Place}
use Rattle.braid_sync.specs.declared.end.SyncEnd.{SyncEnd}
use Rattle.braid_sync.specs.declared.end.SyncEnd.TheVariants as ends
use Rattle.braid_sync.specs.Talks.{Said, TellAll, Gains, IsQuiet, FailedBy}
use Rattle.braid_sync.specs.Posting.{Posts, posted}
use Rattle.braid_sync.specs.Syncs.{failing, Subscribes, PostsAll, all_sent, next_link, link_failed, no_link, no_room, SyncText, unreached, unaided, cut_short, went_on, Syncs}
use Rattle.braid_sync.specs.Steps.{end_of, failing_in}
use Rattle.braid_sync.specs.Links.{Talks, SyncsAs}
use Rattle.braid_sync.proofs.Dialled.{gains_then, told_then, quiet_then, failed_then}
use Rattle.braid_sync.proofs.Opened.{err_in}

-- a sync has come so far, and whatever follows, follows
pub record Syncing (place : Place) (r m : ReplicaView) (old now : Dialing) : Type 0 where
  pub talks : List Talk
  pub saids : List Said
  pub gains : Gains talks old now
  pub told : TellAll talks saids
  pub quiet : AllByRecursion IsQuiet talks
  pub faults : now.faults ≡ old.faults
  pub text : (more : List Said) (q : ReplicaView) (end : SyncEnd) → PostsAll place m more q end → SyncText place r (saids ++ more) q end

-- the subscription's link
abbrev pub IsLinkOf : Place → ReplicaView → ReplicaView → Result (Unit {0}) SyncEnd → Dialing → Dialing → Type 0
IsLinkOf place r q result old new = Talks place result (λ said. Subscribes place r said q (end_of result)) (q ≡ r) old new

-- a link of PUTs
abbrev pub IsPutLink : Place → ReplicaView → ReplicaView → Result (Unit {0}) SyncEnd → Dialing → Dialing → Type 0
IsPutLink place r q result old new = Talks place result (λ said. Posts place r said q (end_of result)) (q ≡ r) old new

pub syncing_from : (place : Place) (r m : ReplicaView) (x : Unit {0}) (old new : Dialing) → IsLinkOf place r m (Ok x) old new → Syncing place r m old new
syncing_from place r m x old new (inl t) =
    record {
      talks = t.talk ∷ [];
      saids = t.said ∷ [];
      gains = t.gains;
      told = t.told;
      quiet = t.failed_is.1;
      faults = t.failed_is.0;
      text = λ more q end p. went_on t.said more m q end t.to t.holds p;
    }
syncing_from place r m x old new (inr t) = absurd (elim t.1 [ inl e ↦ cc | inr e ↦ cc ])

-- it ends with the subscription's link
pub synced_short : (place : Place) (r q : ReplicaView) (end : SyncEnd) (old new : Dialing) → IsLinkOf place r q (Err end) old new → SyncsAs place r q (Err end) old new
synced_short place r q end old new (inl t) =
    record { talks = t.talk ∷ []; saids = t.said ∷ []; gains = t.gains; told = t.told; failed = t.failed_is; text = cut_short t.said q end t.to t.holds }
synced_short place r q end old new (inr t) =
    let text : SyncText place r [] q end =
    subst (λ (x : ReplicaView). SyncText place r [] x end) (sym t.0) (elim t.1 [
      | inl e ↦ subst (λ (x : SyncEnd). SyncText place r [] r x) (sym (ap err_in e)) unreached
      | inr e ↦ subst (λ (x : SyncEnd). SyncText place r [] r x) (sym (ap err_in e)) unaided
    ]) in
    record { talks = []; saids = []; gains = t.2; told = tt; failed = t.3; text = text }

pub syncing_on : (place : Place) (r m q : ReplicaView) (x : Unit {0}) (old now new : Dialing) → Syncing place r m old now → m.unsent ≢ [] → IsPutLink place m q (Ok x) now new → Syncing place r q old new
syncing_on place r m q x old now new s some (inl t) =
    record {
      talks = s.talks ++ t.talk ∷ [];
      saids = s.saids ++ t.said ∷ [];
      gains = gains_then s.talks (t.talk ∷ []) old now new s.gains t.gains;
      told = told_then s.talks (t.talk ∷ []) s.saids (t.said ∷ []) s.told t.told;
      quiet = quiet_then s.talks (t.talk ∷ []) s.quiet t.failed_is.1;
      faults = t.failed_is.0 ∙ s.faults;
      text = λ more e end p.
          subst (λ (l : List Said). SyncText place r l e end) (sym (append_assoc s.saids (t.said ∷ []) more)) (s.text (t.said ∷ more) e end (next_link m q e t.said more end some t.to t.holds p));
    }
syncing_on place r m q x old now new s some (inr t) = absurd (elim t.1 [ inl e ↦ cc | inr e ↦ cc ])

-- a link of PUTs ends it
pub synced_then : (place : Place) (r m q : ReplicaView) (end : SyncEnd) (old now new : Dialing) → Syncing place r m old now → m.unsent ≢ [] → IsPutLink place m q (Err end) now new → SyncsAs place r q (Err end) old new
synced_then place r m q end old now new s some (inl t) =
    record {
      talks = s.talks ++ t.talk ∷ [];
      saids = s.saids ++ t.said ∷ [];
      gains = gains_then s.talks (t.talk ∷ []) old now new s.gains t.gains;
      told = told_then s.talks (t.talk ∷ []) s.saids (t.said ∷ []) s.told t.told;
      failed = failed_then (failing end) s.talks (t.talk ∷ []) old now new s.quiet s.faults t.failed_is;
      text = s.text (t.said ∷ []) q end (link_failed m q t.said end some t.to t.holds);
    }
synced_then place r m q end old now new s some (inr t) =
    let posts : PostsAll place m [] q end =
    subst (λ (x : ReplicaView). PostsAll place m [] x end) (sym t.0) (elim t.1 [
      | inl e ↦ subst (λ (x : SyncEnd). PostsAll place m [] m x) (sym (ap err_in e)) (no_link m some)
      | inr e ↦ subst (λ (x : SyncEnd). PostsAll place m [] m x) (sym (ap err_in e)) (no_room m some)
    ]) in
    record {
      talks = s.talks ++ [];
      saids = s.saids ++ [];
      gains = gains_then s.talks [] old now new s.gains t.2;
      told = told_then s.talks [] s.saids [] s.told tt;
      failed = failed_then (failing end) s.talks [] old now new s.quiet s.faults t.3;
      text = s.text [] q end posts;
    }

-- nothing is unsent any more
pub synced_whole : (place : Place) (r m : ReplicaView) (x : Unit {0}) (old now : Dialing) → Syncing place r m old now → m.unsent ≡ [] → SyncsAs place r m (Ok x) old now
synced_whole place r m x old now s none =
    record {
      talks = s.talks;
      saids = s.saids;
      gains = s.gains;
      told = s.told;
      failed = (s.faults, s.quiet);
      text = subst (λ (l : List Said). SyncText place r l m ends.Done) (append-nil s.saids) (s.text [] m ends.Done (all_sent m none));
    }

some_of : (us : List UpdateView) → us ≢ [] → 0 < length us
some_of [] n = absurd (n refl)
some_of (u ∷ us) n = omega arith

-- a link of PUTs that goes to its end leaves fewer unsent
fewer_sent : (place : Place) (r q : ReplicaView) (said : Said) → r.unsent ≢ [] → Posts place r said q None → length q.unsent < length r.unsent
fewer_sent place r q said some (posted us rest m c few end sent replies) =
    let size = ap length c.unsent ∙ length-append us m.unsent in
    let one = some_of r.unsent some in
    elim end [ inl none ↦ let zero = ap length none in omega arith | inr full ↦ omega arith ]

pub falls_with : (place : Place) (r q : ReplicaView) (x : Unit {0}) (old new : Dialing) → r.unsent ≢ [] → IsPutLink place r q (Ok x) old new → length q.unsent < length r.unsent
falls_with place r q x old new some (inl t) = fewer_sent place r q t.said some t.holds
falls_with place r q x old new some (inr t) = absurd (elim t.1 [ inl e ↦ cc | inr e ↦ cc ])

-- no link could be dialled
pub talks_none : (place : Place) (result : Result (Unit {0}) SyncEnd) (end : SyncEnd) (P : Said → Type 0) (kept : Type 0) (old new : Dialing) → result ≡ Err end → kept → (end ≡ ends.DialFault) ⊎ (end ≡ ends.Memory) → Gains [] old new → FailedBy (failing end) [] old new → Talks place result P kept old new
talks_none place result end P kept old new e k why g f =
    let why_so : (result ≡ Err ends.DialFault) ⊎ (result ≡ Err ends.Memory) =
    elim why [ inl dial ↦ inl (e ∙ ap (λ (x : SyncEnd). Err x) dial) | inr none ↦ inr (e ∙ ap (λ (x : SyncEnd). Err x) none) ] in
    inr (k, why_so, g, subst (λ (x : Result (Unit {0}) SyncEnd). FailedBy (failing_in x) [] old new) (sym e) f)

-- a sync, as its result says

pub sync_as : (place : Place) (r q : ReplicaView) (result : Result (Unit {0}) SyncEnd) (end : SyncEnd) (old new : Dialing) → result ≡ Err end → SyncsAs place r q (Err end) old new → SyncsAs place r q result old new
sync_as place r q result end old new e h = subst (λ (x : Result (Unit {0}) SyncEnd). SyncsAs place r q x old new) (sym e) h

pub sync_done : (place : Place) (r q : ReplicaView) (x : Unit {0}) (old new : Dialing) → SyncsAs place r q (Ok x) old new → Syncs place r q ends.Done old new
sync_done place r q x old new s = record { talks = s.talks; saids = s.saids; gains = s.gains; told = s.told; failed = s.failed; text = s.text }

pub sync_ended : (place : Place) (r q : ReplicaView) (end : SyncEnd) (old new : Dialing) → SyncsAs place r q (Err end) old new → Syncs place r q end old new
sync_ended place r q end old new s = record { talks = s.talks; saids = s.saids; gains = s.gains; told = s.told; failed = s.failed; text = s.text }

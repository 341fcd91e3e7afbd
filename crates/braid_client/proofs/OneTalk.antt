-- What was said on links that tell it decides a sync and a follow in which no call failed.
use Rattle.std.proofs.Common.{◌≡◌, ◌≢◌, ◌⊎◌, inl, inr, ℕ, List, [], ◌∷◌, ◌++◌, Option, Some, None, IsSome, refl, sym, ap, subst, ◌∙◌}
use Rattle.std.proofs.lemmas.List.{append_cancel_left}
use Rattle.std.specs.List.{AllByRecursion}
use Rattle.braid_io.specs.Outside.{Outflow, Rose}
use Rattle.braid_io.specs.Dialers.{Talk, Dialing}
use Rattle.braid_outbox.specs.Replicas.{ReplicaView}
use Rattle.braid_sync.specs.declared.place.Place.{Place}
use Rattle.braid_sync.specs.declared.end.SyncEnd.{SyncEnd}
use Rattle.braid_sync.specs.declared.end.SyncEnd.TheVariants as ends
use Rattle.braid_sync.specs.declared.following.Followed.{Followed}
use Rattle.braid_sync.specs.Talks.{Said, AreTold, Tells, TellAll, with_more, Gains, Failing, nothing_failed, dial_failed, read_failed, write_failed, print_failed, FailedBy}
use Rattle.braid_sync.specs.Learning.{answer_to}
use Rattle.braid_sync.specs.Syncs.{failing, Syncs}
use Rattle.braid_sync.specs.Follows.{answer_word, FollowText, unreached, unaided, not_begun, counted, heard_out, broken_off, unprinted, Follows}
use Rattle.braid_sync.specs.Laws.{IsTold, IsFixed, AllAlike, RoseBy}
use Rattle.braid_sync.proofs.LawSync.{one_sync}
use Rattle.braid_sync.proofs.LawFollow.{one_follow}
use Rattle.braid_sync.proofs.LawCounts.{counts_rose}
use Rattle.braid_sync.proofs.LawEnds.{not_begun_prints, hearing_prints, sync_prints}
use Rattle.braid_client.specs.Laws.{IsTelling, GainsTelling}
use Rattle.braid_client.proofs.Counts.{part_rose}

one_told : (told : Option (List ℕ)) (a b : List ℕ) → IsSome told → AreTold told a → AreTold told b → a ≡ b
one_told None a b some h k = cc
one_told (Some bytes) a b some h k = sym h ∙ k

one_said : (talk : Talk) (said other : Said) → IsTelling talk → Tells talk said → Tells talk other → said ≡ other
one_said talk said other t h k =
    let server : said.server ≡ other.server = sym h.server ∙ k.server in
    let sent : said.sent ≡ other.sent = one_told talk.outflow.written said.sent other.sent t.sent h.sent k.sent in
    let given : said.given ≡ other.given = one_told talk.intake.taken said.given other.given t.given h.given k.given in
    let left : said.left ≡ other.left = sym h.left ∙ k.left in
    λ i. record { server = server i; sent = sent i; given = given i; left = left i }

all_said : (talks : List Talk) (saids others : List Said) → AllByRecursion IsTelling talks → TellAll talks saids → TellAll talks others → saids ≡ others
all_said [] [] [] t h k = refl
all_said [] [] (other ∷ others) t h k = absurd k
all_said [] (said ∷ saids) others t h k = absurd h
all_said (talk ∷ talks) [] others t h k = absurd h
all_said (talk ∷ talks) (said ∷ saids) [] t h k = absurd k
all_said (talk ∷ talks) (said ∷ saids) (other ∷ others) t h k =
    let a : said ≡ other = one_said talk said other t.0 h.0 k.0 in
    let b : saids ≡ others = all_said talks saids others t.1 h.1 k.1 in
    λ i. a i ∷ b i

told_left : (talks : List Talk) (saids : List Said) → AllByRecursion IsTelling talks → TellAll talks saids → AllByRecursion IsTold saids
told_left [] [] t h = tt
told_left [] (said ∷ saids) t h = absurd h
told_left (talk ∷ talks) [] t h = absurd h
told_left (talk ∷ talks) (said ∷ saids) t h = (subst IsSome h.0.left t.0.left, told_left talks saids t.1 h.1)

fixed_self : (f : Failing) (said : Said) → IsFixed f said said
fixed_self nothing_failed said = tt
fixed_self dial_failed said = tt
fixed_self read_failed said = refl
fixed_self write_failed said = refl
fixed_self print_failed said = tt

alike_self : (f : Failing) (saids : List Said) → AllAlike f saids saids
alike_self f [] = tt
alike_self f (said ∷ saids) = (record { server = refl; given = refl; left = refl; fixed = fixed_self f said }, alike_self f saids)

-- the talks that a dialer gained are those that tell
gained_are : (old new : Dialing) (talks : List Talk) (g : GainsTelling old new) → Gains talks old new → talks ≡ g.talks
gained_are old new talks g h =
    let more : with_more (Some g.before) talks ≡ Some (g.before ++ g.talks) = subst (λ (t : Option (List Talk)). with_more t talks ≡ Some (g.before ++ g.talks)) g.old_are (sym h.talks_are ∙ g.new_are) in
    let same : g.before ++ talks ≡ g.before ++ g.talks = cc in
    append_cancel_left g.before talks g.talks same

-- where no count rose, no call failed but a print
no_call : (f : Failing) (old new : Dialing) → RoseBy f old new → (Rose old.faults new.faults → ⊥) → (Rose old.link_read_faults new.link_read_faults → ⊥) → (Rose old.link_write_faults new.link_write_faults → ⊥) → (f ≡ nothing_failed) ⊎ (f ≡ print_failed)
no_call nothing_failed old new h d r w = inl refl
no_call dial_failed old new h d r w = absurd (d h.0)
no_call read_failed old new h d r w = absurd (r h.1)
no_call write_failed old new h d r w = absurd (w h.2)
no_call print_failed old new h d r w = inr refl

pub fails_by : (end : SyncEnd) (talks : List Talk) (old new : Dialing) → Gains talks old new → FailedBy (failing end) talks old new → (Rose old.faults new.faults → ⊥) → (Rose old.link_read_faults new.link_read_faults → ⊥) → (Rose old.link_write_faults new.link_write_faults → ⊥)
    → (failing end ≡ nothing_failed) ⊎ (failing end ≡ print_failed)
fails_by end talks old new g h d r w = no_call (failing end) old new (counts_rose (failing end) talks old new g h) d r w

-- in a sync none
pub sync_quiet : (place : Place) (r q : ReplicaView) (end : SyncEnd) (old new : Dialing) → Syncs place r q end old new → (Rose old.faults new.faults → ⊥) → (Rose old.link_read_faults new.link_read_faults → ⊥) → (Rose old.link_write_faults new.link_write_faults → ⊥)
    → failing end ≡ nothing_failed
sync_quiet place r q end old new s d e w = elim (fails_by end s.talks old new s.gains s.failed d e w) [
  | inl n ↦ n
  | inr p ↦ absurd (sync_prints place r q s.saids end s.text p)
]

pub one_synced : (place : Place) (r q m : ReplicaView) (end stop : SyncEnd) (old new : Dialing) → GainsTelling old new → (Rose old.faults new.faults → ⊥) → (Rose old.link_read_faults new.link_read_faults → ⊥) → (Rose old.link_write_faults new.link_write_faults → ⊥)
    → Syncs place r q end old new → Syncs place r m stop old new → end ≢ ends.Memory → stop ≢ ends.Memory → (q ≡ m) × (end ≡ stop)
one_synced place r q m end stop old new g d e w s t n o =
    let a : s.talks ≡ g.talks = gained_are old new s.talks g s.gains in
    let b : t.talks ≡ g.talks = gained_are old new t.talks g t.gains in
    let x : TellAll g.talks s.saids = subst (λ (k : List Talk). TellAll k s.saids) a s.told in
    let y : TellAll g.talks t.saids = subst (λ (k : List Talk). TellAll k t.saids) b t.told in
    let same : s.saids ≡ t.saids = all_said g.talks s.saids t.saids g.telling x y in
    let quiet : failing end ≡ failing stop = sync_quiet place r q end old new s d e w ∙ sym (sync_quiet place r m stop old new t d e w) in
    let alike : AllAlike (failing end) s.saids t.saids = subst (AllAlike (failing end) s.saids) same (alike_self (failing end) s.saids) in
    let law = one_sync place r q m s.saids t.saids end stop alike (told_left g.talks s.saids g.telling x) s.text t.text quiet n o in
    (law.1, law.2)

-- a line that was to be written is not empty
line_some : (a b : List ℕ) (x : ℕ) → a ++ x ∷ b ≢ []
line_some [] b x e = cc
line_some (y ∷ a) b x e = cc

pub out_line : (place : Place) (count : ℕ) (r : ReplicaView) (saids : List Said) (lines : List ℕ) (n : ℕ) (line : List ℕ) (q : ReplicaView) (end : SyncEnd) → FollowText place count r saids lines n line q end → failing end ≡ print_failed → line ≢ []
out_line place count r _ _ _ _ _ _ unreached f = cc
out_line place count r _ _ _ _ _ _ unaided f = cc
out_line place count r _ _ _ _ _ _ (not_begun said end to o) f = absurd (not_begun_prints place r said end o f)
out_line place count r _ _ _ _ _ _ (counted said kind V behind passed rest content us q to o h l) f = cc
out_line place count r _ _ _ _ _ _ (heard_out said kind V behind passed rest content us q to o h l w) f = cc
out_line place count r _ _ _ _ _ _ (broken_off said kind V behind passed rest content us q end to o h l e) f = absurd (hearing_prints _ kind passed rest content us q end e f)
out_line place count r _ _ _ _ _ _ (unprinted said kind V behind passed rest content line us q m to o h l u) f = λ e. line_some (answer_word (answer_to q u.update)) _ 32 (sym u.line_is ∙ e)

-- nor in a follow, where its output's count did not rise
pub follow_quiet : (place : Place) (count : ℕ) (r q : ReplicaView) (followed : Followed) (old new : Dialing) (out printed : Outflow) → Follows place count r q followed old new out printed → (Rose old.faults new.faults → ⊥) → (Rose old.link_read_faults new.link_read_faults → ⊥)
    → (Rose old.link_write_faults new.link_write_faults → ⊥) → (Rose out.faults printed.faults → ⊥) → failing followed.end ≡ nothing_failed
follow_quiet place count r q followed old new out printed s d e w p = elim (fails_by followed.end s.talks old new s.gains s.failed d e w) [
  | inl n ↦ n
  | inr f ↦ absurd (p (part_rose s.lines s.line out printed s.printed (out_line place count r s.saids s.lines followed.lines s.line q followed.end s.text f)))
]

-- what two follows of one replica share
pub record OneFollowed (q m : ReplicaView) (followed other : Followed) (lines texts line text : List ℕ) : Type 0 where
  pub replica : q ≡ m
  pub end : followed ≡ other
  pub lines_are : lines ≡ texts
  pub line_is : line ≡ text

pub one_followed : (place : Place) (count : ℕ) (r q m : ReplicaView) (followed other : Followed) (old new : Dialing) (out printed again : Outflow) → GainsTelling old new → (Rose old.faults new.faults → ⊥) → (Rose old.link_read_faults new.link_read_faults → ⊥)
    → (Rose old.link_write_faults new.link_write_faults → ⊥) → (Rose out.faults printed.faults → ⊥) → (Rose out.faults again.faults → ⊥)
    → (s : Follows place count r q followed old new out printed) (t : Follows place count r m other old new out again) → followed.end ≢ ends.Memory → other.end ≢ ends.Memory → OneFollowed q m followed other s.lines t.lines s.line t.line
one_followed place count r q m followed other old new out printed again g d e w p v s t n o =
    let a : s.talks ≡ g.talks = gained_are old new s.talks g s.gains in
    let b : t.talks ≡ g.talks = gained_are old new t.talks g t.gains in
    let x : TellAll g.talks s.saids = subst (λ (k : List Talk). TellAll k s.saids) a s.told in
    let y : TellAll g.talks t.saids = subst (λ (k : List Talk). TellAll k t.saids) b t.told in
    let same : s.saids ≡ t.saids = all_said g.talks s.saids t.saids g.telling x y in
    let none : failing followed.end ≡ nothing_failed = follow_quiet place count r q followed old new out printed s d e w p in
    let quiet : failing followed.end ≡ failing other.end = none ∙ sym (follow_quiet place count r m other old new out again t d e w v) in
    let alike : AllAlike (failing followed.end) s.saids t.saids = subst (AllAlike (failing followed.end) s.saids) same (alike_self (failing followed.end) s.saids) in
    let no_out : followed.end ≡ ends.OutFault → followed.lines ≡ other.lines = λ z. absurd (let k : print_failed ≡ nothing_failed = sym (ap failing z) ∙ none in cc) in
    let law = one_follow place count r q m s.saids t.saids s.lines t.lines s.line t.line followed.lines other.lines followed.end other.end alike (told_left g.talks s.saids g.telling x) s.text t.text quiet no_out n o in
    let count_same : followed.lines ≡ other.lines = law.4 in
    let end_same : followed.end ≡ other.end = law.2 in
    record { replica = law.1; end = λ i. record { lines = count_same i; end = end_same i }; lines_are = law.3; line_is = law.5 }

-- A follow over a dialer, none of whose counts rose, of a whole reply is done.
use Rattle.std.proofs.Common.{◌≡◌, ◌≢◌, ℕ, ◌-◌, ◌^◌, ◌<◌, List, [], ◌∷◌, ◌++◌, inl, inr, refl, ap, sym, subst, ◌∙◌, length, codes, Option, Some, None, unwrap_or, arith, length-append}
use Rattle.std.proofs.lemmas.List.{append_cancel_left}
use Rattle.braid_io.specs.Outside.{Outflow, Rose}
use Rattle.braid_io.specs.Dialers.{Talk, Dialing}
use Rattle.braid_ids.specs.Identifiers.{spelled_id}
use Rattle.braid_change.specs.Updates.{UpdateView}
use Rattle.braid_outbox.specs.Replicas.{ReplicaView}
use Rattle.braid_sync.specs.declared.place.Place.{Place}
use Rattle.braid_sync.specs.declared.end.SyncEnd.{SyncEnd}
use Rattle.braid_sync.specs.Talks.{Said, offered, AreTold, TellAll, with_more, Failing, nothing_failed, dial_failed, read_failed, write_failed, print_failed}
use Rattle.braid_sync.specs.Learning.{answer_to}
use Rattle.braid_sync.specs.Syncs.{failing}
use Rattle.braid_sync.specs.Follows.{answer_word, line_of, FollowText, not_begun, counted, heard_out, broken_off, unprinted, unreached, unaided, Prints}
use Rattle.braid_sync.specs.Laws.{IsSubscriptionOf, RoseBy, NoneFailed, GainedOne, DialledCompletes}
use Rattle.braid_sync.proofs.LawCompletes.{follow_completes}
use Rattle.braid_sync.proofs.LawCounts.{counts_rose}
use Rattle.braid_sync.proofs.LawEnds.{not_begun_prints, hearing_prints}

some_same : {A : Type 0} → (x y : A) → Some x ≡ Some y → x ≡ y
some_same x y e = cc

-- where a line could not be printed, there was one
line_there : (r : ReplicaView) (u : UpdateView) → line_of r u ≡ [] → ⊥
line_there r u e = let n = ap length e in omega (arith, n, length-append (answer_word (answer_to r u)) (codes " " ++ (spelled_id u.id ++ codes "\n")))

prints_line : (place : Place) (count : ℕ) (r q : ReplicaView) (saids : List Said) (lines line : List ℕ) (n : ℕ) (end : SyncEnd) → FollowText place count r saids lines n line q end → failing end ≡ print_failed → line ≢ []
prints_line place count r _ _ _ _ _ _ unreached f = absurd (cc)
prints_line place count r _ _ _ _ _ _ unaided f = absurd (cc)
prints_line place count r _ _ _ _ _ _ (not_begun said end to o) f = absurd (not_begun_prints place r said end o f)
prints_line place count r _ _ _ _ _ _ (counted said kind V behind passed rest content us q to o h n) f = absurd (cc)
prints_line place count r _ _ _ _ _ _ (heard_out said kind V behind passed rest content us q to o h n w) f = absurd (cc)
prints_line place count r _ _ _ _ _ _ (broken_off said kind V behind passed rest content us q end to o h n e) f = absurd (hearing_prints _ kind passed rest content us q end e f)
prints_line place count r _ _ _ _ _ _ (unprinted said kind V behind passed rest content line us q m to o h n u) f = λ e. line_there q u.update (sym u.line_is ∙ e)

-- and the sink's count rose
print_rose : (lines line : List ℕ) (old new : Outflow) → line ≢ [] → Prints lines line old new → Rose old.faults new.faults
print_rose lines [] old new n p = absurd (n refl)
print_rose lines (byte ∷ line) old new n p = subst (λ k. Rose k new.faults) p.before.faults p.then_part.rose

not_rose : (old new : ℕ) → new ≡ old → old < 2 ^ 64 - 1 → Rose old new → ⊥
not_rose old new e l (inl h) = omega (arith, e, h)
not_rose old new e l (inr h) = omega (arith, e, l, h)

-- no call failed, where no count rose
quiet : (f : Failing) (old new : Dialing) (out_old out_new : Outflow) → NoneFailed old new out_old out_new → RoseBy f old new → (f ≡ print_failed → Rose out_old.faults out_new.faults) → f ≡ nothing_failed
quiet nothing_failed old new out_old out_new n h p = refl
quiet dial_failed old new out_old out_new n h p = absurd (not_rose old.faults new.faults n.dials n.below.0 h.0)
quiet read_failed old new out_old out_new n h p = absurd (not_rose old.link_read_faults new.link_read_faults n.reads n.below.1 h.1)
quiet write_failed old new out_old out_new n h p = absurd (not_rose old.link_write_faults new.link_write_faults n.writes n.below.2 h.2)
quiet print_failed old new out_old out_new n h p = absurd (not_rose out_old.faults out_new.faults n.prints n.below.3 (p refl))

-- the one talk that was gained
one_talk : (bytes : List ℕ) (old new : Dialing) (talks : List Talk) → (g : GainedOne bytes old new) → new.talks ≡ with_more old.talks talks → talks ≡ g.talk ∷ []
one_talk bytes old new talks g e =
    let a : Some (g.before ++ talks) ≡ Some (g.before ++ g.talk ∷ []) = sym (ap (λ (t : Option (List Talk)). with_more t talks) g.old_are) ∙ sym e ∙ g.new_are in
    append_cancel_left g.before talks (g.talk ∷ []) (some_same _ _ a)

record Alone (bytes : List ℕ) (saids : List Said) : Type 0 where
  said : Said
  is : saids ≡ said ∷ []
  offers : offered said ≡ bytes

told_as : (told : Option (List ℕ)) (given bytes : List ℕ) → told ≡ Some given → AreTold told bytes → given ≡ bytes
told_as None given bytes e h = absurd (cc)
told_as (Some xs) given bytes e h = sym (some_same xs given e) ∙ h

alone : (bytes : List ℕ) (old new : Dialing) (g : GainedOne bytes old new) (saids : List Said) → TellAll (g.talk ∷ []) saids → Alone bytes saids
alone bytes old new g [] h = absurd h
alone bytes old new g (said ∷ []) h =
    let given = told_as g.talk.intake.taken g.given said.given g.taken_is h.0.given in
    let left : said.left ≡ Some g.left = sym h.0.left ∙ g.left_is in
    record { said = said; is = refl; offers = (λ i. sym given i ++ unwrap_or (left i) []) ∙ sym g.all_is }
alone bytes old new g (said ∷ other ∷ saids) h = absurd h.1

pub dialled_completes : DialledCompletes
dialled_completes place count r q m followed old new out_old out_new bytes V us f g none sub learns =
    let talks = one_talk bytes old new f.talks g f.gains.talks_are in
    let one = alone bytes old new g f.saids (subst (λ (t : List Talk). TellAll t f.saids) talks f.told) in
    let text = subst (λ (t : List Said). FollowText place count r t f.lines followed.lines f.line q followed.end) one.is f.text in
    let rose = counts_rose (failing followed.end) f.talks old new f.gains f.failed in
    let printed = λ (e : failing followed.end ≡ print_failed). print_rose f.lines f.line out_old out_new (prints_line place count r q f.saids f.lines f.line followed.lines followed.end f.text e) f.printed in
    follow_completes place count r q m one.said f.lines f.line followed.lines followed.end V us text (subst (IsSubscriptionOf V us) (sym one.offers) sub) learns (quiet (failing followed.end) old new out_old out_new none rose printed)

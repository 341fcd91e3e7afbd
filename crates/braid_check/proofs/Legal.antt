-- What accepted updates leave: a legal history within the limits of a replica.
use Rattle.std.proofs.Common.{◌≡◌, ◌≢◌, ℕ, List, [], ◌∷◌, ◌++◌, length, refl, sym, ap, subst, ◌∙◌, append_assoc, append-nil, length-append, arith, inl, inr, ◌⊎◌}
use Rattle.std.specs.List.{Contains, AllByRecursion}
use Rattle.std.proofs.lemmas.List.{length-map}
use Rattle.braid_change.specs.Updates.{UpdateView}
use Rattle.braid_change.specs.Updates.{IsUpdate}
use Rattle.braid_grammar.specs.Streams.{IsStream}
use Rattle.braid_grammar.proofs.OneUpdate.{spelled_is_update}
use Rattle.braid_text.specs.declared.accept.Accept.{Accept}
use Rattle.braid_text.specs.declared.accept.Accept.TheVariants.{New, Known, Clash, UnknownParent, OutOfRange, Full, Memory}
use Rattle.braid_text.specs.Answers.{HasRoom, IsAnswer, needs_of, room_of}
use Rattle.braid_text.specs.Versions.{elements_by, deletions_by}
use Rattle.braid_text.specs.Histories.{added_by, elements_of, deletions_of}
use Rattle.braid_text.proofs.Answered.{is_answer}
use Rattle.braid_text.proofs.Public.{legal_more, may_follow, elements_more, deletions_more, width_after, room_versions, only_answer}
use Rattle.braid_text.proofs.Taking.{contains_holds}
use Rattle.braid_text.specs.Rooms.{replica_limits}
use Rattle.braid_check.specs.Accepted.{history_of, replica_answer, IsAccepted, AreAccepted, IsRefused}
use Rattle.braid_check.specs.Kept.{IsWithin, Keeps}
use Rattle.braid_check.proofs.Once.{once_exact, once_joins, once_passes}
use Rattle.braid_check.proofs.OneByOne.{none_accepted, accepted_more}

-- nothing was taken
pub keeps_none : Keeps [] []
keeps_none = record {
  accepted = none_accepted;
  history = refl;
  legal = tt;
  within = record { versions = omega arith; elements = omega arith; deletions = omega arith; width = omega arith };
}

-- one more version where there is room for it
more_within : (H : List UpdateView) (u : UpdateView) → IsWithin H → HasRoom (needs_of H u) (room_of replica_limits H) → IsWithin (H ++ u ∷ [])
more_within H u w r =
    record {
      versions = let few = w.versions in let one = r.versions in omega (arith, room_versions replica_limits H, length-append H (u ∷ []));
      elements = let few = w.elements in
          let need = r.elements in
          let added : length (elements_by (added_by H u)) ≡ length (added_by H u).nodes = length-map (added_by H u).nodes _ in
          omega (arith, ap length (elements_more H u), length-append (elements_of H) (elements_by (added_by H u)), added);
      deletions = let few = w.deletions in
          let need = r.deletions in
          let added : length (deletions_by (added_by H u)) ≡ length (added_by H u).deleted = length-map (added_by H u).deleted _ in
          omega (arith, ap length (deletions_more H u), length-append (deletions_of H) (deletions_by (added_by H u)), added);
      width = let need = r.width in omega (arith, width_after H u);
    }

-- a new update joins what was taken
pub keeps_new : (us H : List UpdateView) (u : UpdateView) → Keeps us H → IsUpdate u → replica_answer H u ≡ New → Keeps (us ++ u ∷ []) (H ++ u ∷ [])
keeps_new us H u k i e =
    let a = subst (IsAnswer (room_of replica_limits H) H u) e (is_answer (room_of replica_limits H) H u k.legal i.rising i.identifier i.built) in
    let fresh = ((may_follow H u).0 a.0).0 in
    record {
      accepted = (accepted_more us u).1 (k.accepted, subst IsAccepted (sym (ap (λ (t : List UpdateView). replica_answer t u) (sym k.history) ∙ e)) tt);
      history = ap (λ (t : List UpdateView). t ++ u ∷ []) k.history ∙ sym (once_joins us u (λ c. fresh (contains_holds H u (subst (λ (t : List UpdateView). Contains t u) (sym k.history) ((once_exact us u).1 c)))));
      legal = (legal_more H u).1 (k.legal, a.0);
      within = more_within H u k.within a.1;
    }

-- a known one leaves it as it is
pub keeps_known : (us H : List UpdateView) (u : UpdateView) → Keeps us H → IsUpdate u → replica_answer H u ≡ Known → Keeps (us ++ u ∷ []) H
keeps_known us H u k i e =
    let a = subst (IsAnswer (room_of replica_limits H) H u) e (is_answer (room_of replica_limits H) H u k.legal i.rising i.identifier i.built) in
    record {
      accepted = (accepted_more us u).1 (k.accepted, subst IsAccepted (sym (ap (λ (t : List UpdateView). replica_answer t u) (sym k.history) ∙ e)) tt);
      history = k.history ∙ sym (once_passes us u ((once_exact us u).0 (subst (λ (t : List UpdateView). Contains t u) k.history a)));
      legal = k.legal;
      within = k.within;
    }

-- an accepted update, whether it is new or known
keeps_accepted : (us : List UpdateView) (u : UpdateView) → Keeps us (history_of us) → IsUpdate u → (a : Accept) → replica_answer (history_of us) u ≡ a → IsAccepted a → Keeps (us ++ u ∷ []) (history_of (us ++ u ∷ []))
keeps_accepted us u k i New e y = let n = keeps_new us (history_of us) u k i e in subst (Keeps (us ++ u ∷ [])) n.history n
keeps_accepted us u k i Known e y = let n = keeps_known us (history_of us) u k i e in subst (Keeps (us ++ u ∷ [])) n.history n
keeps_accepted us u k i (Clash id) e y = absurd y
keeps_accepted us u k i (UnknownParent id) e y = absurd y
keeps_accepted us u k i (OutOfRange patch len) e y = absurd y
keeps_accepted us u k i (Full which need room) e y = absurd y
keeps_accepted us u k i Memory e y = absurd y

keeps_all : (front back : List UpdateView) → Keeps front (history_of front) → AllByRecursion IsUpdate back → AreAccepted (front ++ back) → Keeps (front ++ back) (history_of (front ++ back))
keeps_all front [] k i a = subst (λ (t : List UpdateView). Keeps t (history_of t)) (sym (append-nil front)) k
keeps_all front (u ∷ back) k i a =
    let one = keeps_accepted front u k i.0 (replica_answer (history_of front) u) refl (a front back u refl) in
    let whole = append_assoc front (u ∷ []) back in
    subst (λ (t : List UpdateView). Keeps t (history_of t)) whole (keeps_all (front ++ u ∷ []) back one i.1 (subst AreAccepted (sym whole) a))

-- the updates of a stream
pub stream_updates_are : (us : List UpdateView) (bytes : List ℕ) → IsStream us bytes → AllByRecursion IsUpdate us
stream_updates_are [] bytes s = tt
stream_updates_are (u ∷ us) bytes s = (spelled_is_update u s.first s.is_first, stream_updates_are us s.rest s.is_rest)

-- the accepted updates of a stream leave what a replica may have
pub keeps_stream : (us : List UpdateView) (bytes : List ℕ) → IsStream us bytes → AreAccepted us → Keeps us (history_of us)
keeps_stream us bytes s a = keeps_all [] us keeps_none (stream_updates_are us bytes s) a

-- what an answer that accepts an update leaves
pub taken_on : (us H new : List UpdateView) (u : UpdateView) (a : Accept) → Keeps us H → IsUpdate u → IsAnswer (room_of replica_limits H) H u a → (a ≡ New → new ≡ H ++ u ∷ []) → (a ≢ New → new ≡ H) → IsAccepted a → Keeps (us ++ u ∷ []) new
taken_on us H new u New k i is joined kept y =
    let told = only_answer (room_of replica_limits H) H u k.legal i.rising New is (λ e. cc) in
    subst (Keeps (us ++ u ∷ [])) (sym (joined refl)) (keeps_new us H u k i (sym told))
taken_on us H new u Known k i is joined kept y =
    let told = only_answer (room_of replica_limits H) H u k.legal i.rising Known is (λ e. cc) in
    subst (Keeps (us ++ u ∷ [])) (sym (kept (λ e. cc))) (keeps_known us H u k i (sym told))
taken_on us H new u (Clash id) k i is joined kept y = absurd y
taken_on us H new u (UnknownParent id) k i is joined kept y = absurd y
taken_on us H new u (OutOfRange patch len) k i is joined kept y = absurd y
taken_on us H new u (Full which need room) k i is joined kept y = absurd y
taken_on us H new u Memory k i is joined kept y = absurd y

-- an answer that refuses an update
pub record Refuses (us new : List UpdateView) (u : UpdateView) (a : Accept) : Type 0 where
  pub told : a ≡ replica_answer (history_of us) u
  pub refused : IsRefused us u
  pub keeps : Keeps us new

pub refused_here : (us H new : List UpdateView) (u : UpdateView) (a : Accept) → Keeps us H → IsUpdate u → IsAnswer (room_of replica_limits H) H u a → (a ≢ New → new ≡ H) → ¬ (IsAccepted a) → a ≢ Memory → Refuses us new u a
refused_here us H new u a k i is kept n m =
    let told : a ≡ replica_answer (history_of us) u = only_answer (room_of replica_limits H) H u k.legal i.rising a is m ∙ ap (λ (t : List UpdateView). replica_answer t u) k.history in
    record {
      told = told;
      refused = record { accepted = k.accepted; refused = λ y. n (subst IsAccepted (sym told) y) };
      keeps = subst (Keeps us) (sym (kept (λ e. n (subst IsAccepted (sym e) tt)))) k;
    }

pub accepts_either : (a : Accept) → (a ≡ New) ⊎ (a ≡ Known) → IsAccepted a
accepts_either a (inl e) = subst IsAccepted (sym e) tt
accepts_either a (inr e) = subst IsAccepted (sym e) tt

pub accepts_neither : (a : Accept) → (a ≡ New → ⊥) → (a ≡ Known → ⊥) → IsAccepted a → ⊥
accepts_neither New n k y = n refl
accepts_neither Known n k y = k refl
accepts_neither (Clash id) n k y = y
accepts_neither (UnknownParent id) n k y = y
accepts_neither (OutOfRange patch len) n k y = y
accepts_neither (Full which need room) n k y = y
accepts_neither Memory n k y = y

-- What a PUT and a carried update are answered.
use Rattle.std.proofs.Common.{◌≡◌, ℕ, List, [], ◌∷◌, ◌++◌, Bool, true, false, not, cond, refl, sym, ap, subst, ◌∙◌, inl, inr, ◌⊎◌, take, filter, reverse, append_assoc, Option, Some, None, unwrap_or}
use Rattle.std.specs.List.{slice_get}
use Rattle.braid_change.specs.Updates.{UpdateView}
use Rattle.braid_tree.specs.Trees.{Member}
use Rattle.braid_tree.proofs.Member.{member_append_left, member_append_right}
use Rattle.braid_rebase.proofs.Filtered.{member_filter, filter_member}
use Rattle.braid_text.specs.Versions.{has_version, ancestors_in, versions_in}
use Rattle.braid_text.specs.Histories.{Follows, IsLegalLog}
use Rattle.braid_text.specs.Sent.{is_outside, sent}
use Rattle.braid_text.specs.Refusals.{find_in, first_there, refusal_in, needs_in, first_full, room_in}
use Rattle.braid_text.specs.declared.room.Room.{Room}
use Rattle.braid_text.specs.declared.room.Which.TheVariants.{Versions}
use Rattle.braid_text.specs.declared.accept.Accept.{Accept}
use Rattle.braid_text.specs.declared.accept.Accept.TheVariants.{New, Known, Clash, UnknownParent, OutOfRange, Full, Memory}
use Rattle.braid_text.proofs.Held.{update_version}
use Rattle.braid_text.proofs.Same.{Source, source}
use Rattle.braid_text.proofs.Logs.{Has, IsPartOf, true_or, not_held, legal_back, follows_there, follows_held, compatible_parts}
use Rattle.braid_text.proofs.Judged.{updates_Decide, found, judged_well}
use Rattle.braid_text.proofs.Past.{filter_split}
use Rattle.braid_outbox.specs.declared.world.Reading.{Reading}
use Rattle.braid_outbox.specs.declared.world.Side.{Side}
use Rattle.braid_outbox.specs.Replicas.{log_of}
use Rattle.braid_outbox.specs.Learns.{is_first, clash, Confirmed, Judged, learn_answer}
use Rattle.braid_outbox.specs.Worlds.{replica_of, land_answer}
use Rattle.braid_outbox.specs.Laws.{IsTaken, IsLearnt, CarriesWell}
use Rattle.braid_outbox.proofs.Names.{IsName}
use Rattle.braid_outbox.proofs.Additions.{log_parts, log_more}
use Rattle.braid_outbox.proofs.Moves.{to_log, of_log, over_full, IsFull}
use Rattle.braid_outbox.proofs.Good.{kept_all, IsReadTo, GoodSide, GoodPut, one_of, same_as}
use Rattle.braid_outbox.proofs.Sides.{get_member}
use Rattle.braid_outbox.proofs.Caught.{confirmed_legal, ancestry_confirmed}

-- a PUT ever made is Known, or may follow the history
pub land_judged : (H : List UpdateView) → IsLegalLog (reverse H) → (sides : List Side) → ((s : Side) → Member s sides → GoodSide H s) → (u : UpdateView) → GoodPut H sides u → (refusal_in (reverse H) u ≡ Some Known) ⊎ (refusal_in (reverse H) u ≡ None)
land_judged H legal sides good u g = go g.made
  where
    log : List UpdateView
    log = reverse H

    go : (s : Side) × Member s sides × Member u (kept_all s) × IsName s.agent u.id → (refusal_in log u ≡ Some Known) ⊎ (refusal_in log u ≡ None)
    go (s, m, n, i) = elim (judged_well log u one next) [ inl e ↦ inl e.0 | inr e ↦ inr e.0 ]
      where
        gs : GoodSide H s
        gs = good s m

        one : (w : UpdateView) → Member w log → w.id ≡ u.id → w ≡ u
        one w k e = sym (same_as H legal s gs u w (gs.kept_whole u n) (of_log H w k) (sym e))

        next : (Has log u.id → ⊥) → Follows log u
        next none = by (source u.id kept gs.kept.legal (update_version kept u (to_log (kept_all s) u n)))
          where
            kept : List UpdateView
            kept = reverse (kept_all s)

            by : Source u.id kept → Follows log u
            by o = follows_there o.older log u o.legal legal (subst (Follows o.older) same o.follows)
                (λ x y a b e. same_as H legal s gs x y (gs.kept_whole x (of_log (kept_all s) x (o.part x a))) (of_log H y b) e)
                (λ p k. let h = g.parents p k in (h.0, to_log H h.0 h.1, h.2)) (not_held log u.id none)
              where
                same : o.update ≡ u
                same = one_of (kept_all s) gs.kept.legal o.update u (of_log (kept_all s) o.update o.listed) n o.named

-- so it is not refused but as Full
pub land_taken : (H : List UpdateView) → IsLegalLog (reverse H) → (sides : List Side) → ((s : Side) → Member s sides → GoodSide H s) → (u : UpdateView) → GoodPut H sides u → (full : Bool) → IsTaken (land_answer full H u)
land_taken H legal sides good u g full = elim (land_judged H legal sides good u g) [
  | inl e ↦ subst (λ (o : Option Accept). IsTaken (unwrap_or o (cond full (Full Versions 1 0) New))) (sym e) tt
  | inr e ↦ subst (λ (o : Option Accept). IsTaken (unwrap_or o (cond full (Full Versions 1 0) New))) (sym e) (last full)
]
  where
    last : (b : Bool) → IsTaken (cond b (Full Versions 1 0) New)
    last true = tt
    last false = tt

full_taken : (a : Accept) → IsFull a → IsTaken a
full_taken New h = tt
full_taken Known h = tt
full_taken (Clash v) h = h
full_taken (UnknownParent v) h = h
full_taken (OutOfRange n len) h = h
full_taken (Full which need room) h = tt
full_taken Memory h = absurd h

-- an update that a subscription carries is not refused but as Full
pub carry_one : (limits : Room) (H : List UpdateView) → IsLegalLog (reverse H) → (s : Side) → GoodSide H s → (rd : Reading) → IsReadTo H s.confirmed (Some rd) → (u : UpdateView) → slice_get (sent H rd.from) rd.position ≡ Some u → IsLearnt (learn_answer limits (replica_of s) u)
carry_one limits H legal s g rd reads u e = go (is_first u s.unsent)
  where
    C : List UpdateView
    C = reverse s.confirmed

    D : Option Accept
    D = first_full (needs_in (log_of (replica_of s)) u) (room_in limits (log_of (replica_of s)))

    there : Member u H
    there = (member_filter (is_outside H rd.from) u H (get_member (sent H rd.from) rd.position u e)).0

    one : (w : UpdateView) → Member w C → w.id ≡ u.id → w ≡ u
    one w m f = same_as H legal s g w u (member_append_left w s.confirmed s.unsent (of_log s.confirmed w m)) there f

    next : (Has C u.id → ⊥) → Follows C u
    next none = by (filter_split (is_outside H rd.from) H rd.position u e)
      where
        by : (a : List UpdateView) × (b : List UpdateView) × (H ≡ a ++ u ∷ b) × (filter (is_outside H rd.from) a ≡ take rd.position (sent H rd.from)) → Follows C u
        by (a, b, f, h) = follows_there (reverse a) C u older.1 (confirmed_legal H s g) older.0
            (compatible_parts (reverse a) C (reverse H) legal (λ x m. to_log H x (part x (of_log a x m))) (λ x m. to_log H x (g.part x (of_log s.confirmed x m))))
            (λ p m. parent p (follows_held (reverse a) u older.0 p m)) (not_held C u.id none)
          where
            older : IsLegalLog (u ∷ reverse a)
            older = legal_back (reverse b) (u ∷ reverse a) (subst IsLegalLog (ap reverse (f ∙ sym (append_assoc a (u ∷ []) b)) ∙ log_parts (a ++ u ∷ []) b ∙ ap (λ t. reverse b ++ t) (log_more a u)) legal)

            part : IsPartOf a H
            part x m = subst (Member x) (sym f) (member_append_left x a (u ∷ b) m)

            parent : (p : List ℕ) → Has (reverse a) p → Has C p
            parent p (x, m, k) = elim (true_or (has_version x.id (ancestors_in (versions_in (reverse H)) rd.from))) [
              | inl t ↦ (x, to_log s.confirmed x (ancestry_confirmed H legal s g H (λ y n. n) rd.from reads.0 x (part x (of_log a x m)) t), k)
              | inr t ↦ (x, to_log s.confirmed x (reads.2 x (subst (Member x) h (filter_member (is_outside H rd.from) x a (of_log a x m) (ap not t)))), k)
            ]

    no_clash : clash u (find_in u.id s.unsent) ≡ None
    no_clash = by (find_in u.id s.unsent) refl
      where
        by : (o : Option UpdateView) → find_in u.id s.unsent ≡ o → clash u o ≡ None
        by None f = refl
        by (Some w) f = let p = found u.id s.unsent w f in
            ap (λ (b : Bool). cond b None (Some (Clash u.id))) ((updates_Decide u w).1 (sym (same_as H legal s g w u (member_append_right w s.confirmed s.unsent p.0) there p.1)))

    answers : (o d : Option Accept) → ((o ≡ Some Known) × Member u C) ⊎ ((o ≡ None) × (Has C u.id → ⊥)) → D ≡ d → IsTaken (unwrap_or (first_there o d) New)
    answers o d (inl f) h = subst (λ (x : Option Accept). IsTaken (unwrap_or (first_there x d) New)) (sym f.0) tt
    answers o None (inr f) h = subst (λ (x : Option Accept). IsTaken (unwrap_or (first_there x None) New)) (sym f.0) tt
    answers o (Some a) (inr f) h = subst (λ (x : Option Accept). IsTaken (unwrap_or (first_there x (Some a)) New)) (sym f.0) (full_taken a (over_full (needs_in (log_of (replica_of s)) u) (room_in limits (log_of (replica_of s))) a h))

    go : (b : Bool) → IsLearnt (cond b Confirmed (Judged (unwrap_or (first_there (clash u (find_in u.id s.unsent)) (first_there (refusal_in C u) D)) New)))
    go true = tt
    go false = subst (λ (o : Option Accept). IsTaken (unwrap_or (first_there o (first_there (refusal_in C u) D)) New)) (sym no_clash) (answers (refusal_in C u) D (judged_well C u one next) refl)

pub carry_taken : (limits : Room) (H : List UpdateView) → IsLegalLog (reverse H) → (s : Side) → GoodSide H s → (o : Option Reading) → IsReadTo H s.confirmed o → CarriesWell limits H s o
carry_taken limits H legal s g None reads = tt
carry_taken limits H legal s g (Some rd) reads = carry_one limits H legal s g rd reads

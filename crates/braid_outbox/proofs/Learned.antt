-- What a replica answers, by how the update stands in it and which of its parents are confirmed.
use Rattle.std.proofs.Common.{◌≡◌, ◌≢◌, ℕ, List, [], ◌∷◌, ◌++◌, Bool, true, false, cond, refl, sym, ap, subst, ◌∙◌, inl, inr, length, reverse, Option, None, Some, unwrap_or, option_map}
use Rattle.std.specs.List.{Contains}
use Rattle.braid_change.specs.Updates.{UpdateView}
use Rattle.braid_change.specs.Splices.{first_past}
use Rattle.braid_graph.specs.Entries.{Holds}
use Rattle.braid_tree.specs.Trees.{Member}
use Rattle.braid_tree.proofs.Member.{member_append_left, member_append_right, member_append_cases}
use Rattle.braid_rebase.proofs.Members.{contains_member, member_contains}
use Rattle.braid_rebase.specs.Additions.{chars_of}
use Rattle.braid_text.specs.Versions.{text_in, versions_in}
use Rattle.braid_text.specs.Histories.{graph_of, IsLegalLog}
use Rattle.braid_text.specs.Refusals.{find_in, first_missing, first_full, first_there, same_update}
use Rattle.braid_text.specs.Answers.{answer_to, needs_of, refusal_to, room_of}
use Rattle.braid_text.specs.declared.room.Room.{Room}
use Rattle.braid_text.specs.declared.accept.Accept.{Accept}
use Rattle.braid_text.specs.declared.accept.Accept.TheVariants.{New, Known, Clash, UnknownParent, OutOfRange, Full, Memory}
use Rattle.braid_text.proofs.Answered.{answered, answer_by, refused_by}
use Rattle.braid_text.proofs.Held.{one_update}
use Rattle.braid_text.proofs.Judged.{updates_Decide, found, not_found, none_missing, missing_none}
use Rattle.braid_text.proofs.Logs.{Has, has, has_holds, holds_has, compatible_parts, legal_back}
use Rattle.braid_text.proofs.Same.{same_read}
use Rattle.braid_outbox.specs.declared.learn.Learn.{Learn}
use Rattle.braid_outbox.specs.declared.learn.Learn.TheVariants.{Memory as NoMemory}
use Rattle.braid_outbox.specs.Replicas.{ReplicaView, IsSound, all_of}
use Rattle.braid_outbox.specs.Learns.{is_first, clash, Learnt, Confirmed, Judged, learn_answer, learnt, learn, told}
use Rattle.braid_outbox.specs.Standings.{IsNext}
use Rattle.braid_outbox.proofs.Additions.{log_parts}
use Rattle.braid_outbox.proofs.Moves.{to_log, of_log, apart, chained_before}

module _ (limits : Room) (r : ReplicaView) (u : UpdateView) (sound : IsSound r) where
  abbrev C : List UpdateView
  C = r.confirmed

  abbrev O : List UpdateView
  O = r.unsent

  legal : IsLegalLog (reverse O ++ reverse C)
  legal = subst IsLegalLog (log_parts C O) sound.legal

  -- what both lists have is not in both
  not_both : (o : UpdateView) → Member o O → Has C o.id → ⊥
  not_both o m (x, n, e) = apart (reverse O) (reverse C) legal o (to_log O o m) (x, to_log C x n, e)

  one : (x y : UpdateView) → Member x (all_of r) → Member y (all_of r) → x.id ≡ y.id → x ≡ y
  one x y m n e = one_update (reverse (all_of r)) sound.legal x y (to_log (all_of r) x m) (to_log (all_of r) y n) e

  first_in : is_first u O ≡ true → Member u O
  first_in h = go O h
    where
      go : (os : List UpdateView) → is_first u os ≡ true → Member u os
      go [] h = cc
      go (x ∷ os) h = inl (sym ((updates_Decide u x).0 h))

  not_first : (Member u O → ⊥) → is_first u O ≡ false
  not_first out = go (is_first u O) refl
    where
      go : (b : Bool) → is_first u O ≡ b → is_first u O ≡ false
      go true e = absurd (out (first_in e))
      go false e = e

  -- the answer by its parts
  answer_parts : (x y : Option Accept) → is_first u O ≡ false → clash u (find_in u.id O) ≡ x → refusal_to C u ≡ y → learn_answer limits r u ≡ Judged (unwrap_or (first_there x (first_there y (first_full (needs_of (all_of r) u) (room_of limits (all_of r))))) New)
  answer_parts x y f c g =
      ap (λ (b : Bool). cond b Confirmed (Judged (unwrap_or (first_there (clash u (find_in u.id O)) (first_there (refusal_to C u) (first_full (needs_of (all_of r) u) (room_of limits (all_of r))))) New))) f
      ∙ ap (λ (o : Option Accept). Judged (unwrap_or (first_there o (first_there (refusal_to C u) (first_full (needs_of (all_of r) u) (room_of limits (all_of r))))) New)) c
      ∙ ap (λ (o : Option Accept). Judged (unwrap_or (first_there x (first_there o (first_full (needs_of (all_of r) u) (room_of limits (all_of r))))) New)) g

  no_clash : ((w : UpdateView) → Member w O → w.id ≡ u.id → w ≡ u) → clash u (find_in u.id O) ≡ None
  no_clash same = go (find_in u.id O) refl
    where
      go : (o : Option UpdateView) → find_in u.id O ≡ o → clash u o ≡ None
      go None e = refl
      go (Some w) e = let f = found u.id O w e in ap (λ (b : Bool). cond b None (Some (Clash u.id))) ((updates_Decide u w).1 (sym (same w f.0 f.1)))

  absent : (us : List UpdateView) → (Has us u.id → ⊥) → find_in u.id us ≡ None
  absent us out = go (find_in u.id us) refl
    where
      go : (o : Option UpdateView) → find_in u.id us ≡ o → o ≡ None
      go None e = refl
      go (Some w) e = absurd (out (w, (found u.id us w e).0, (found u.id us w e).1))

  pub known_answer : Contains C u → learn_answer limits r u ≡ Judged Known
  known_answer c = answer_parts None (Some Known) (not_first (λ m. not_both u m (u, here, refl))) (no_clash (λ w m e. absurd (not_both w m (u, here, sym e)))) known
    where
      here : Member u C
      here = contains_member C u c

      known : refusal_to C u ≡ Some Known
      known = go (find_in u.id (reverse C)) refl
        where
          go : (o : Option UpdateView) → find_in u.id (reverse C) ≡ o → refusal_to C u ≡ Some Known
          go None e = absurd (not_found u.id (reverse C) e (u, to_log C u here, refl))
          go (Some w) e =
              let f = found u.id (reverse C) w e in
              let same : w ≡ u = one w u (member_append_left w C O (of_log C w f.0)) (member_append_left u C O here) f.1 in
              refused_by (reverse C) u (Some w) (first_missing u.parents (reverse C)) (first_past (text_in (versions_in (reverse C)) u.parents) u.change) e refl refl ∙ ap (λ (b : Bool). Some (cond b Known (Clash u.id))) ((updates_Decide u w).1 (sym same))

  pub other_answer : Holds (graph_of (all_of r)) u.id → (Contains (all_of r) u → ⊥) → learn_answer limits r u ≡ Judged (Clash u.id)
  other_answer h out = in_unsent (find_in u.id O) refl
    where
      lacks : Member u O → ⊥
      lacks m = out (member_contains (all_of r) u (member_append_right u C O m))

      different : (w : UpdateView) → Member w (all_of r) → same_update u w ≡ false
      different w m = go (same_update u w) refl
        where
          go : (b : Bool) → same_update u w ≡ b → b ≡ false
          go false e = refl
          go true e = absurd (out (member_contains (all_of r) u (subst (λ (x : UpdateView). Member x (all_of r)) (sym ((updates_Decide u w).0 e)) m)))

      in_confirmed : (o : Option UpdateView) → find_in u.id (reverse C) ≡ o → find_in u.id O ≡ None → refusal_to C u ≡ Some (Clash u.id)
      in_confirmed None e f = absurd (go (holds_has (all_of r) u.id h))
        where
          go : Has (all_of r) u.id → ⊥
          go (x, m, d) = elim (member_append_cases x C O m) [
            | inl a ↦ not_found u.id (reverse C) e (x, to_log C x a, d)
            | inr b ↦ not_found u.id O f (x, b, d)
          ]
      in_confirmed (Some w) e f = refused_by (reverse C) u (Some w) (first_missing u.parents (reverse C)) (first_past (text_in (versions_in (reverse C)) u.parents) u.change) e refl refl
          ∙ ap (λ (b : Bool). Some (cond b Known (Clash u.id))) (different w (member_append_left w C O (of_log C w (found u.id (reverse C) w e).0)))

      in_unsent : (o : Option UpdateView) → find_in u.id O ≡ o → learn_answer limits r u ≡ Judged (Clash u.id)
      in_unsent (Some w) e = answer_parts (Some (Clash u.id)) (refusal_to C u) (not_first lacks) (ap (clash u) e ∙ ap (λ (b : Bool). cond b None (Some (Clash u.id))) (different w (member_append_right w C O (found u.id O w e).0))) refl
      in_unsent None e = answer_parts None (Some (Clash u.id)) (not_first lacks) (ap (clash u) e) (in_confirmed (find_in u.id (reverse C)) refl e)

  next_first : IsNext r u → is_first u O ≡ false
  next_first (inl out) = not_first (λ m. out (has_holds (all_of r) u.id (u, member_append_right u C O m, refl)))
  next_first (inr l) = l.1

  next_clash : IsNext r u → clash u (find_in u.id O) ≡ None
  next_clash (inl out) = no_clash (λ w m e. absurd (out (has_holds (all_of r) u.id (w, member_append_right w C O m, e))))
  next_clash (inr l) = no_clash (λ w m e. one w u (member_append_right w C O m) (member_append_right u C O (contains_member O u l.0)) e)

  next_absent : IsNext r u → Has (reverse C) u.id → ⊥
  next_absent (inl out) (x, m, e) = out (has_holds (all_of r) u.id (x, member_append_left x C O (of_log C x m), e))
  next_absent (inr l) (x, m, e) = not_both u (contains_member O u l.0) (x, of_log C x m, e)

  pub missing_answer : IsNext r u → (p : List ℕ) → first_missing u.parents (reverse C) ≡ Some p → learn_answer limits r u ≡ Judged (UnknownParent p)
  missing_answer next p e = answer_parts None (Some (UnknownParent p)) (next_first next) (next_clash next)
      (refused_by (reverse C) u None (Some p) (first_past (text_in (versions_in (reverse C)) u.parents) u.change) (absent (reverse C) (next_absent next)) e refl)

  pub judged_answer : IsNext r u → first_missing u.parents (reverse C) ≡ None → learn_answer limits r u ≡ Judged (answer_to (room_of limits (all_of r)) (all_of r) u)
  judged_answer next none = answer_parts None (option_map (λ (n : ℕ). OutOfRange n (length t)) q) (next_first next) (next_clash next)
      (refused_by (reverse C) u None None q (absent (reverse C) (next_absent next)) none refl)
      ∙ ap (λ (s : List ℕ). Judged (answered u (length s) None None (first_past s u.change) (first_full (needs_of (all_of r) u) (room_of limits (all_of r))))) same_text
      ∙ ap Judged (sym (answer_by (room_of limits (all_of r)) (reverse (all_of r)) u None None (first_past t' u.change) (first_full (needs_of (all_of r) u) (room_of limits (all_of r))) (absent (reverse (all_of r)) nowhere) there refl refl))
    where
      t : List ℕ
      t = text_in (versions_in (reverse C)) u.parents

      t' : List ℕ
      t' = text_in (versions_in (reverse (all_of r))) u.parents

      q : Option ℕ
      q = first_past t u.change

      confirmed : (p : List ℕ) → Member p u.parents → Has (reverse C) p
      confirmed = none_missing u.parents (reverse C) none

      more : (x : UpdateView) → Member x (reverse C) → Member x (reverse (all_of r))
      more x m = to_log (all_of r) x (member_append_left x C O (of_log C x m))

      wider : (p : List ℕ) → Member p u.parents → Has (reverse (all_of r)) p
      wider p m = let h = confirmed p m in (h.0, more h.0 h.1, h.2)

      there : first_missing u.parents (reverse (all_of r)) ≡ None
      there = missing_none u.parents (reverse (all_of r)) wider

      nowhere : Has (reverse (all_of r)) u.id → ⊥
      nowhere (x, m, e) = go next
        where
          go : IsNext r u → ⊥
          go (inl out) = out (has_holds (all_of r) u.id (x, of_log (all_of r) x m, e))
          go (inr l) = by (chained_before O u sound.chained (contains_member O u l.0) l.1)
            where
              by : (o : UpdateView) × Member o O × Contains u.parents o.id → ⊥
              by (o, k, d) = let h = confirmed o.id (contains_member u.parents o.id d) in not_both o k (h.0, of_log C h.0 h.1, h.2)

      same_text : t ≡ t'
      same_text = ap chars_of (same_read (reverse C) (reverse (all_of r)) (legal_back (reverse O) (reverse C) legal) sound.legal
          (compatible_parts (reverse C) (reverse (all_of r)) (reverse (all_of r)) sound.legal more (λ x m. m))
          u.parents (λ p m. has (reverse C) p (confirmed p m)) (λ p m. has (reverse (all_of r)) p (wider p m)))

  -- what an answer tells and leaves
  pub told_by : (a : Learnt) (l : Learn) → learn_answer limits r u ≡ a → l ≡ told limits a → l ≡ told limits (learn_answer limits r u)
  told_by a l e f = f ∙ ap (told limits) (sym e)

  pub left_by : (a : Learnt) (q : ReplicaView) → learn_answer limits r u ≡ a → q ≡ learnt r u a → q ≡ learn limits r u
  left_by a q e f = f ∙ ap (learnt r u) (sym e)

  -- what a judged update leaves
  pub judged_left : (a : Accept) (q : ReplicaView) → (a ≡ New → q ≡ record { agent = r.agent; confirmed = r.confirmed ++ u ∷ []; unsent = r.unsent }) → (a ≢ New → q ≡ r) → q ≡ learnt r u (Judged a)
  judged_left New q taken kept = taken refl
  judged_left Known q taken kept = kept (λ e. cc)
  judged_left (Clash v) q taken kept = kept (λ e. cc)
  judged_left (UnknownParent v) q taken kept = kept (λ e. cc)
  judged_left (OutOfRange n len) q taken kept = kept (λ e. cc)
  judged_left (Full which need room) q taken kept = kept (λ e. cc)
  judged_left Memory q taken kept = kept (λ e. cc)

-- where there was no memory to answer, there was none to judge
pub memory_told : (limits : Room) (a : Accept) → told limits (Judged a) ≢ NoMemory → a ≢ Memory
memory_told limits a h e = h (ap (λ (b : Accept). told limits (Judged b)) e)

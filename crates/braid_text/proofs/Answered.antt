-- The answer to an update is the one that fits the update, and there is one.
use Rattle.std.proofs.Common.{◌≡◌, ◌≢◌, ℕ, ◌<◌, ◌≤◌, List, [], ◌∷◌, Bool, true, false, cond, nat_lt, length, reverse, Option, Some, None, option_map, unwrap_or, refl, sym, ap, subst, ◌∙◌, inl, inr, ◌⊎◌, arith, Less, Equal, Greater, Ordering}
use Rattle.std.specs.List.{Contains}
use Rattle.std.specs.List.Sorted.{IsStrictlySortedBy}
use Rattle.std.specs.Ordering.{ordering_reverse}
use Rattle.std.proofs.lemmas.Bool.Decides.{nat_tests}
use Rattle.std.proofs.lemmas.Cmp.{nat_list_cmp_total, tied_itself}
use Rattle.braid_ids.specs.Identifiers.{id_cmp, IsIdentifier}
use Rattle.braid_ids.specs.Frontiers.{IsRising}
use Rattle.braid_change.specs.Updates.{UpdateView, IsBuilt}
use Rattle.braid_change.specs.Splices.{first_past}
use Rattle.braid_graph.specs.Entries.{Holds, HoldsAll}
use Rattle.braid_text.specs.declared.room.Room.{Room}
use Rattle.braid_text.specs.declared.room.Which.{Which}
use Rattle.braid_text.specs.declared.room.Which.TheVariants.{Resources, Versions, Elements, Deletions, Width}
use Rattle.braid_text.specs.declared.accept.Accept.{Accept}
use Rattle.braid_text.specs.declared.accept.Accept.TheVariants.{New, Known, Clash, UnknownParent, OutOfRange, Full, Memory}
use Rattle.braid_text.specs.Refusals.{same_update, find_in, first_missing, needs_in, first_full, first_there, judge_held, answer_in, refusal_in}
use Rattle.braid_text.specs.Answers.{answer_to, IsOver, HasRoom, IsAnswer}
use Rattle.braid_text.proofs.Held.{one_update}
use Rattle.braid_tree.proofs.Keys.{ids_strict}
use Rattle.braid_text.proofs.Ties.{holds_log, log_holds}
use Rattle.braid_text.specs.Versions.{has_version, text_in, versions_in}
use Rattle.braid_text.proofs.Judged.{fits_to, follows_from, missing_none, none_missing, not_found, updates_Decide, found}
use Rattle.braid_rebase.proofs.Members.{contains_member, from_log, in_log, member_contains}
use Rattle.braid_tree.proofs.Member.{all_member}
use Rattle.braid_tree.specs.Trees.{Member}
use Rattle.braid_text.proofs.Logs.{Has, follows_held, has_holds, holds_has, not_has, held}
use Rattle.braid_text.specs.Histories.{Follows, IsLegal, graph_of}

-- the first of rising identifiers that is missing is the least
missing_named : (ps : List (List ℕ)) (us : List UpdateView) (p : List ℕ) → first_missing ps us ≡ Some p → Member p ps × (has_version p (versions_in us) ≡ false)
missing_named [] us p h = cc
missing_named (q ∷ ps) us p h = go (has_version q (versions_in us)) refl h (missing_named ps us p)
  where
    go : (b : Bool) → has_version q (versions_in us) ≡ b → cond b (first_missing ps us) (Some q) ≡ Some p → (first_missing ps us ≡ Some p → Member p ps × (has_version p (versions_in us) ≡ false)) → Member p (q ∷ ps) × (has_version p (versions_in us) ≡ false)
    go true e h ih = (inr (ih h).0, (ih h).1)
    go false e h ih = let f : q ≡ p = cc in (inl f, subst (λ (t : List ℕ). has_version t (versions_in us) ≡ false) f e)

rising_first : (q : List ℕ) (ps : List (List ℕ)) → IsRising (q ∷ ps) → (w : List ℕ) → Member w ps → id_cmp q w ≡ Less
unfolding IsStrictlySortedBy
rising_first q ps r w m = all_member (λ (t : List ℕ). id_cmp q t ≡ Less) w ps r.0 m

rising_rest : (q : List ℕ) (ps : List (List ℕ)) → IsRising (q ∷ ps) → IsRising ps
unfolding IsStrictlySortedBy
rising_rest q ps r = r.1

missing_least : (ps : List (List ℕ)) (us : List UpdateView) (p : List ℕ) → IsRising ps → first_missing ps us ≡ Some p → (w : List ℕ) → Member w ps → (Has us w → ⊥) → id_cmp p w ≢ Greater
missing_least [] us p r h w m out = absurd m
missing_least (q ∷ ps) us p r h w m out = go (has_version q (versions_in us)) refl h m (λ k n. missing_least ps us p (rising_rest q ps r) k w n out)
  where
    go : (b : Bool) → has_version q (versions_in us) ≡ b → cond b (first_missing ps us) (Some q) ≡ Some p → Member w (q ∷ ps) → (first_missing ps us ≡ Some p → Member w ps → id_cmp p w ≢ Greater) → id_cmp p w ≢ Greater
    go true e h (inl f) ih = absurd (out (subst (Has us) f (held us q e)))
    go true e h (inr n) ih = ih h n
    go false e h (inl f) ih = λ g. (let a : q ≡ p = cc in let b : id_cmp p p ≡ Equal = tied_itself nat_list_cmp_total p in let c : id_cmp p p ≡ Greater = subst (λ (t : List ℕ). id_cmp p t ≡ Greater) (sym f ∙ a) g in cc)
    go false e h (inr n) ih = λ g. (let a : q ≡ p = cc in let b : id_cmp p w ≡ Less = subst (λ (t : List ℕ). id_cmp t w ≡ Less) a (rising_first q ps r w n) in cc)

-- two least ones are one
one_least : (p v : List ℕ) → id_cmp p v ≢ Greater → id_cmp v p ≢ Greater → p ≡ v
one_least p v a b = go (id_cmp p v) refl
  where
    go : (o : Ordering) → id_cmp p v ≡ o → p ≡ v
    go Less e = absurd (b (nat_list_cmp_total.antisymm v p ∙ ap ordering_reverse e))
    go Equal e = ids_strict.same p v e
    go Greater e = absurd (a e)

lt_true : (a b : ℕ) → nat_lt a b ≡ true → a < b
lt_true a b h = grind (arith, nat_tests)

lt_false : (a b : ℕ) → nat_lt a b ≡ false → b ≤ a
lt_false a b h = grind (arith, nat_tests)

true_lt : (a b : ℕ) → a < b → nat_lt a b ≡ true
true_lt a b h = grind (arith, nat_tests)

false_lt : (a b : ℕ) → b ≤ a → nat_lt a b ≡ false
false_lt a b h = grind (arith, nat_tests)

-- what there is too little room for, or room for all
abbrev pub IsOverAnswer : Room → Room → Option Accept → Type 0
IsOverAnswer need room None = HasRoom need room
IsOverAnswer need room (Some a) = (which : Which) × (n : ℕ) × (left : ℕ) × (a ≡ Full which n left) × IsOver need room which n left

pub over_is : (need room : Room) → IsOverAnswer need room (first_full need room)
over_is need room = versions (nat_lt room.versions need.versions) refl
  where
    width : (b : Bool) → nat_lt room.width need.width ≡ b → need.versions ≤ room.versions → need.elements ≤ room.elements → need.deletions ≤ room.deletions
        → IsOverAnswer need room (cond b (Some (Full Width need.width room.width)) None)
    width true e v l d = (Width, need.width, room.width, refl, (v, l, d, refl, refl, lt_true room.width need.width e))
    width false e v l d = record { versions = v; elements = l; deletions = d; width = lt_false room.width need.width e }

    deletions : (b : Bool) → nat_lt room.deletions need.deletions ≡ b → need.versions ≤ room.versions → need.elements ≤ room.elements
        → IsOverAnswer need room (cond b (Some (Full Deletions need.deletions room.deletions)) (cond (nat_lt room.width need.width) (Some (Full Width need.width room.width)) None))
    deletions true e v l = (Deletions, need.deletions, room.deletions, refl, (v, l, refl, refl, lt_true room.deletions need.deletions e))
    deletions false e v l = width (nat_lt room.width need.width) refl v l (lt_false room.deletions need.deletions e)

    elements : (b : Bool) → nat_lt room.elements need.elements ≡ b → need.versions ≤ room.versions
        → IsOverAnswer need room (cond b (Some (Full Elements need.elements room.elements)) (cond (nat_lt room.deletions need.deletions) (Some (Full Deletions need.deletions room.deletions)) (cond (nat_lt room.width need.width) (Some (Full Width need.width room.width)) None)))
    elements true e v = (Elements, need.elements, room.elements, refl, (v, refl, refl, lt_true room.elements need.elements e))
    elements false e v = deletions (nat_lt room.deletions need.deletions) refl v (lt_false room.elements need.elements e)

    versions : (b : Bool) → nat_lt room.versions need.versions ≡ b
        → IsOverAnswer need room (cond b (Some (Full Versions need.versions room.versions)) (cond (nat_lt room.elements need.elements) (Some (Full Elements need.elements room.elements)) (cond (nat_lt room.deletions need.deletions) (Some (Full Deletions need.deletions room.deletions)) (cond (nat_lt room.width need.width) (Some (Full Width need.width room.width)) None))))
    versions true e = (Versions, need.versions, room.versions, refl, (refl, refl, lt_true room.versions need.versions e))
    versions false e = elements (nat_lt room.elements need.elements) refl (lt_false room.versions need.versions e)

-- with room for all, nothing is over
over_none : (need room : Room) → HasRoom need room → first_full need room ≡ None
over_none need room h = rw (false_lt room.versions need.versions h.versions, false_lt room.elements need.elements h.elements, false_lt room.deletions need.deletions h.deletions, false_lt room.width need.width h.width)

over_some : (need room : Room) (which : Which) (n left : ℕ) → IsOver need room which n left → first_full need room ≡ Some (Full which n left)
over_some need room Resources n left h = absurd h
over_some need room Versions n left h = rw (true_lt room.versions need.versions (subst (λ (a : ℕ). a < need.versions) h.1 (subst (λ (b : ℕ). left < b) h.0 h.2))) (let a = h.0 in let b = h.1 in cc)
over_some need room Elements n left h = rw (false_lt room.versions need.versions h.0, true_lt room.elements need.elements (subst (λ (a : ℕ). a < need.elements) h.2 (subst (λ (b : ℕ). left < b) h.1 h.3))) (let a = h.1 in let b = h.2 in cc)
over_some need room Deletions n left h = rw (false_lt room.versions need.versions h.0, false_lt room.elements need.elements h.1, true_lt room.deletions need.deletions (subst (λ (a : ℕ). a < need.deletions) h.3 (subst (λ (b : ℕ). left < b) h.2 h.4))) (let a = h.2 in let b = h.3 in cc)
over_some need room Width n left h = rw (false_lt room.versions need.versions h.0, false_lt room.elements need.elements h.1, false_lt room.deletions need.deletions h.2, true_lt room.width need.width (subst (λ (a : ℕ). a < need.width) h.4 (subst (λ (b : ℕ). left < b) h.3 h.5))) (let a = h.3 in let b = h.4 in cc)

-- the answer by what is found, what is missing, what is past the end and what is over
abbrev pub answered : UpdateView → ℕ → Option UpdateView → Option (List ℕ) → Option ℕ → Option Accept → Accept
answered u len o p q full = unwrap_or (first_there (first_there (judge_held u o) (first_there (option_map UnknownParent p) (option_map (λ (n : ℕ). OutOfRange n len) q))) full) New

pub answer_by : (room : Room) (us : List UpdateView) (u : UpdateView) (o : Option UpdateView) (p : Option (List ℕ)) (q : Option ℕ) (full : Option Accept)
    → find_in u.id us ≡ o → first_missing u.parents us ≡ p → first_past (text_in (versions_in us) u.parents) u.change ≡ q → first_full (needs_in us u) room ≡ full
    → answer_in room us u ≡ answered u (length (text_in (versions_in us) u.parents)) o p q full
answer_by room us u o p q full a b c d =
    let len : ℕ = length (text_in (versions_in us) u.parents) in
    ap (λ x. answered u len x (first_missing u.parents us) (first_past (text_in (versions_in us) u.parents) u.change) (first_full (needs_in us u) room)) a
    ∙ ap (λ x. answered u len o x (first_past (text_in (versions_in us) u.parents) u.change) (first_full (needs_in us u) room)) b
    ∙ ap (λ x. answered u len o p x (first_full (needs_in us u) room)) c
    ∙ ap (λ x. answered u len o p q x) d

pub refused_by : (us : List UpdateView) (u : UpdateView) (o : Option UpdateView) (p : Option (List ℕ)) (q : Option ℕ)
    → find_in u.id us ≡ o → first_missing u.parents us ≡ p → first_past (text_in (versions_in us) u.parents) u.change ≡ q
    → refusal_in us u ≡ first_there (judge_held u o) (first_there (option_map UnknownParent p) (option_map (λ (n : ℕ). OutOfRange n (length (text_in (versions_in us) u.parents))) q))
refused_by us u o p q a b c =
    let len : ℕ = length (text_in (versions_in us) u.parents) in
    ap (λ x. first_there (judge_held u x) (first_there (option_map UnknownParent (first_missing u.parents us)) (option_map (λ (n : ℕ). OutOfRange n len) (first_past (text_in (versions_in us) u.parents) u.change)))) a
    ∙ ap (λ x. first_there (judge_held u o) (first_there (option_map UnknownParent x) (option_map (λ (n : ℕ). OutOfRange n len) (first_past (text_in (versions_in us) u.parents) u.change)))) b
    ∙ ap (λ x. first_there (judge_held u o) (first_there (option_map UnknownParent p) (option_map (λ (n : ℕ). OutOfRange n len) x))) c

module _ (room : Room) (H : List UpdateView) (u : UpdateView) (legal : IsLegal H) (rising : IsRising u.parents) where
  abbrev us : List UpdateView
  us = reverse H

  abbrev t : List ℕ
  t = text_in (versions_in us) u.parents

  not_holds : (Has us u.id → ⊥) → Holds (graph_of H) u.id → ⊥
  not_holds out h = out (holds_has us u.id (holds_log H u.id h))

  -- the answer that is computed fits
  pub is_answer : IsIdentifier u.id → IsBuilt u.parents u.change → IsAnswer room H u (answer_to room H u)
  is_answer identifier built = found_first (find_in u.id us) refl
    where
      full : (Has us u.id → ⊥) → find_in u.id us ≡ None → first_missing u.parents us ≡ None → first_past t u.change ≡ None → (o : Option Accept) → first_full (needs_in us u) room ≡ o → IsOverAnswer (needs_in us u) room o → IsAnswer room H u (answer_to room H u)
      full out a b c None e is = subst (IsAnswer room H u) (sym (answer_by room us u None None None None a b c e)) (follows_from us u (none a b c) identifier rising built, is)
        where
          none : find_in u.id us ≡ None → first_missing u.parents us ≡ None → first_past t u.change ≡ None → refusal_in us u ≡ None
          none a b c = refused_by us u None None None a b c
      full out a b c (Some x) e (which, n, left, f, is) = subst (IsAnswer room H u) (sym (answer_by room us u None None None (Some x) a b c e ∙ f)) (follows_from us u (refused_by us u None None None a b c) identifier rising built, is)

      past : (Has us u.id → ⊥) → find_in u.id us ≡ None → first_missing u.parents us ≡ None → (q : Option ℕ) → first_past t u.change ≡ q → IsAnswer room H u (answer_to room H u)
      past out a b None c = full out a b c (first_full (needs_in us u) room) refl (over_is (needs_in us u) room)
      past out a b (Some n) c = subst (IsAnswer room H u) (sym (answer_by room us u None None (Some n) (first_full (needs_in us u) room) a b c refl))
          (not_holds out, (λ p k. log_holds H p (has_holds us p (none_missing u.parents us b p (contains_member u.parents p k)))), c, refl)

      missing : (Has us u.id → ⊥) → find_in u.id us ≡ None → (p : Option (List ℕ)) → first_missing u.parents us ≡ p → IsAnswer room H u (answer_to room H u)
      missing out a None b = past out a b (first_past t u.change) refl
      missing out a (Some p) b = subst (IsAnswer room H u) (sym (answer_by room us u None (Some p) (first_past t u.change) (first_full (needs_in us u) room) a b refl refl)) (
        not_holds out,
        record {
          named = member_contains u.parents p (missing_named u.parents us p b).0;
          unheld = λ h. not_has us p (missing_named u.parents us p b).1 (holds_has us p (holds_log H p h));
          least = λ w c lacks. missing_least u.parents us p rising b w (contains_member u.parents w c) (λ h. lacks (log_holds H w (has_holds us w h)));
        },
      )

      same : (w : UpdateView) → find_in u.id us ≡ Some w → (b : Bool) → same_update u w ≡ b → IsAnswer room H u (answer_to room H u)
      same w a true e = subst (IsAnswer room H u) (sym (answer_by room us u (Some w) (first_missing u.parents us) (first_past t u.change) (first_full (needs_in us u) room) a refl refl refl ∙ ap (λ (b : Bool). cond b Known (Clash u.id)) e))
          (from_log H u (subst (λ (x : UpdateView). Member x us) (sym ((updates_Decide u w).0 e)) (found u.id us w a).0))
      same w a false e = subst (IsAnswer room H u) (sym (answer_by room us u (Some w) (first_missing u.parents us) (first_past t u.change) (first_full (needs_in us u) room) a refl refl refl ∙ ap (λ (b : Bool). cond b Known (Clash u.id)) e))
          (refl, log_holds H u.id (has_holds us u.id (w, (found u.id us w a).0, (found u.id us w a).1)), λ c. different c)
        where
          different : Contains H u → ⊥
          different c = let one : u ≡ w = one_update us legal u w (in_log H u c) (found u.id us w a).0 (sym (found u.id us w a).1) in let yes : same_update u w ≡ true = (updates_Decide u w).1 one in cc

      found_first : (o : Option UpdateView) → find_in u.id us ≡ o → IsAnswer room H u (answer_to room H u)
      found_first (Some w) a = same w a (same_update u w) refl
      found_first None a = missing (not_found u.id us a) a (first_missing u.parents us) refl

  -- an identifier that is not held is not found
  unfound : (Holds (graph_of H) u.id → ⊥) → find_in u.id us ≡ None
  unfound out = go (find_in u.id us) refl
    where
      go : (o : Option UpdateView) → find_in u.id us ≡ o → o ≡ None
      go None e = refl
      go (Some w) e = absurd (out (log_holds H u.id (has_holds us u.id (w, (found u.id us w e).0, (found u.id us w e).1))))

  unmissed : HoldsAll (graph_of H) u.parents → first_missing u.parents us ≡ None
  unmissed all = missing_none u.parents us (λ p m. holds_has us p (holds_log H p (all p (member_contains u.parents p m))))

  after_follows : Follows us u → (full : Option Accept) → first_full (needs_in us u) room ≡ full → answer_to room H u ≡ answered u (length t) None None None full
  after_follows f full e = answer_by room us u None None None full (unfound (λ h. f.new (holds_log H u.id h))) (missing_none u.parents us (follows_held us u f)) (fits_to t u.change f.fits) e

  -- an answer that fits is the one that is computed, or want of memory
  pub one_answer : (a : Accept) → IsAnswer room H u a → (a ≡ Memory) ⊎ (a ≡ answer_to room H u)
  one_answer New (f, has) = inr (sym (after_follows f None (over_none (needs_in us u) room has)))
  one_answer (Full which n left) (f, is) = inr (sym (after_follows f (Some (Full which n left)) (over_some (needs_in us u) room which n left is)))
  one_answer Known c = inr (sym (go (find_in u.id us) refl))
    where
      go : (o : Option UpdateView) → find_in u.id us ≡ o → answer_to room H u ≡ Known
      go None e = absurd (not_found u.id us e (u, in_log H u c, refl))
      go (Some w) e =
          let one : u ≡ w = one_update us legal u w (in_log H u c) (found u.id us w e).0 (sym (found u.id us w e).1) in
          answer_by room us u (Some w) (first_missing u.parents us) (first_past t u.change) (first_full (needs_in us u) room) e refl refl refl ∙ ap (λ (b : Bool). cond b Known (Clash u.id)) ((updates_Decide u w).1 one)
  one_answer (Clash v) (is, there, out) = inr (sym (go (find_in u.id us) refl))
    where
      go : (o : Option UpdateView) → find_in u.id us ≡ o → answer_to room H u ≡ Clash v
      go None e = absurd (not_found u.id us e (subst (Has us) is (holds_has us v (holds_log H v there))))
      go (Some w) e = answer_by room us u (Some w) (first_missing u.parents us) (first_past t u.change) (first_full (needs_in us u) room) e refl refl refl ∙ by (same_update u w) refl
        where
          by : (b : Bool) → same_update u w ≡ b → cond b Known (Clash u.id) ≡ Clash v
          by true f = absurd (out (from_log H u (subst (λ (x : UpdateView). Member x us) (sym ((updates_Decide u w).0 f)) (found u.id us w e).0)))
          by false f = ap Clash (sym is)
  one_answer (UnknownParent v) (out, is) = inr (sym (go (first_missing u.parents us) refl))
    where
      go : (p : Option (List ℕ)) → first_missing u.parents us ≡ p → answer_to room H u ≡ UnknownParent v
      go None e = absurd (is.unheld (log_holds H v (has_holds us v (none_missing u.parents us e v (contains_member u.parents v is.named)))))
      go (Some p) e = answer_by room us u None (Some p) (first_past t u.change) (first_full (needs_in us u) room) (unfound out) e refl refl ∙ ap UnknownParent (one_least p v first_le v_le)
        where
          first_le : id_cmp p v ≢ Greater
          first_le = missing_least u.parents us p rising e v (contains_member u.parents v is.named) (λ h. is.unheld (log_holds H v (has_holds us v h)))

          v_le : id_cmp v p ≢ Greater
          v_le = is.least p (member_contains u.parents p (missing_named u.parents us p e).0) (λ h. not_has us p (missing_named u.parents us p e).1 (holds_has us p (holds_log H p h)))
  one_answer (OutOfRange n len) (out, all, past, is) = inr (sym (answer_by room us u None None (Some n) (first_full (needs_in us u) room) (unfound out) (unmissed all) past refl ∙ ap (λ (k : ℕ). OutOfRange n k) (sym is)))
  one_answer Memory h = inl refl

-- A replica's resource and order of numbers after each step: they stay what the replica keeps, and the two lists grow or move as they should.
use Rattle.std.proofs.Common.{◌≡◌, ◌↔◌, ℕ, ◌<◌, ◌+◌, ◌-◌, List, [], ◌∷◌, ◌++◌, Bool, true, false, refl, sym, ap, subst, ◌∙◌, inl, inr, ◌⊎◌, arith, length, take, drop, reverse, Option, None, Some, zero, suc, length-append, length-take, append_assoc, length-set}
use Rattle.std.proofs.Math.ListN.{set}
use Rattle.std.proofs.lemmas.List.{take-append-le, drop-append-le, length-drop, length-map, length-reverse}
use Rattle.std.specs.List.{Contains, slice_get}
use Rattle.std.proofs.lemmas.Option.{slice_get_within}
use Rattle.braid_ids.specs.MarkSets.{IsMarked}
use Rattle.braid_ids.proofs.Members.{no_gap}
use Rattle.braid_change.specs.Updates.{UpdateView}
use Rattle.braid_graph.specs.Entries.{HoldsAll}
use Rattle.braid_graph.proofs.Kept.{take_next}
use Rattle.braid_tree.specs.Trees.{Member}
use Rattle.braid_tree.specs.Elements.{element_of}
use Rattle.braid_tree.proofs.Member.{member_append_left, member_append_right, member_append_cases}
use Rattle.braid_rebase.proofs.Members.{contains_member, member_contains}
use Rattle.braid_text.specs.Versions.{deletions_by, elements_by}
use Rattle.braid_text.specs.Histories.{Follows, IsLegal, IsLegalLog, MayFollow, SameGraph, added_by, deletions_of, elements_of, graph_of}
use Rattle.braid_text.specs.Answers.{HasRoom, needs_of, room_of}
use Rattle.braid_text.specs.Alike.{AreAlike}
use Rattle.braid_text.proofs.Alike.{are_alike}
use Rattle.braid_text.proofs.Held.{new_in}
use Rattle.braid_text.proofs.Logs.{Has, holds_has, not_has, not_held, follows_there, follows_held, compatible_parts, legal_back, legal_between}
use Rattle.braid_text.proofs.Public.{elements_more, deletions_more, legal_more}
use Rattle.braid_outbox.specs.Replicas.{ReplicaView, IsSound, all_of, limits_with}
use Rattle.braid_outbox.specs.Writes.{last_id, with_unsent}
use Rattle.braid_outbox.specs.Learns.{confirm}
use Rattle.braid_outbox.specs.Kept.{with_found, picked, replica_in, IsKept}
use Rattle.braid_outbox.proofs.Merges.{chained_more}
use Rattle.braid_outbox.proofs.Additions.{log_parts, log_more}
use Rattle.braid_outbox.proofs.Moves.{confirms, to_log, of_log}
use Rattle.braid_outbox.proofs.Marking.{marked_more, marked_same, marked_set}
use Rattle.braid_outbox.proofs.Picked.{AreWithin, picked_parts, picked-append, picked_longer, picked_last, picked_length}

-- a number put between two parts
take_between : (xs ys : List ℕ) (n : ℕ) → take (suc (length xs)) (xs ++ n ∷ ys) ≡ xs ++ n ∷ []
take_between [] ys n = refl
take_between (x ∷ xs) ys n = ap (λ t. x ∷ t) (take_between xs ys n)

drop_between : (xs ys : List ℕ) (n : ℕ) → drop (suc (length xs)) (xs ++ n ∷ ys) ≡ ys
drop_between [] ys n = refl
drop_between (x ∷ xs) ys n = drop_between xs ys n

drop_at : (xs : List ℕ) (i n : ℕ) → slice_get xs i ≡ Some n → drop i xs ≡ n ∷ drop (i + 1) xs
drop_at [] i n e = cc
drop_at (x ∷ xs) zero n e = let f : x ≡ n = cc in ap (λ t. t ∷ xs) f
drop_at (x ∷ xs) (suc i) n e = drop_at xs i n e ∙ ap (λ k. n ∷ drop k (x ∷ xs)) (let q : suc (i + 1) ≡ suc i + 1 = omega arith in q)

take_member_of : (n k : ℕ) (xs : List ℕ) → Member n (take k xs) → Member n xs
take_member_of n zero xs m = absurd m
take_member_of n (suc k) [] m = absurd m
take_member_of n (suc k) (x ∷ xs) (inl e) = inl e
take_member_of n (suc k) (x ∷ xs) (inr m) = inr (take_member_of n k xs m)

drop_member_of : (n k : ℕ) (xs : List ℕ) → Member n (drop k xs) → Member n xs
drop_member_of n zero xs m = m
drop_member_of n (suc k) [] m = absurd m
drop_member_of n (suc k) (x ∷ xs) m = inr (drop_member_of n k xs m)

-- the counts of a longer history
pub elements_grow : (H : List UpdateView) (u : UpdateView) → length (elements_of (H ++ u ∷ [])) ≡ length (elements_of H) + (needs_of H u).elements
elements_grow H u = ap length (elements_more H u) ∙ length-append (elements_of H) (elements_by (added_by H u)) ∙ ap (λ n. length (elements_of H) + n) (length-map (added_by H u).nodes element_of)

pub deletions_grow : (H : List UpdateView) (u : UpdateView) → length (deletions_of (H ++ u ∷ [])) ≡ length (deletions_of H) + (needs_of H u).deletions
deletions_grow H u = ap length (deletions_more H u) ∙ length-append (deletions_of H) (deletions_by (added_by H u)) ∙ ap (λ n. length (deletions_of H) + n) (length-map (added_by H u).deleted _)

module _ (agent : List ℕ) (H : List UpdateView) (ns : List ℕ) (c : ℕ) (flags : List Bool) (k : IsKept agent H ns c flags) where
  abbrev r : ReplicaView
  r = replica_in agent H ns c

  abbrev C : List UpdateView
  C = picked H (take c ns)

  abbrev O : List UpdateView
  O = picked H (drop c ns)

  pub within : AreWithin H ns
  within n m = k.within n (member_contains ns n m)

  within_front : AreWithin H (take c ns)
  within_front n m = within n (take_member_of n c ns m)

  within_back : AreWithin H (drop c ns)
  within_back n m = within n (drop_member_of n c ns m)

  -- all updates are those of the resource
  pub all_is : all_of r ≡ picked H ns
  all_is = picked_parts H ns c

  pub same_graph : SameGraph (all_of r) H
  same_graph = subst (λ (K : List UpdateView). SameGraph K H) (sym all_is) k.all

  pub alike : AreAlike (all_of r) H
  alike = are_alike (all_of r) H k.sound.legal k.legal same_graph

  pub part_to : (u : UpdateView) → Member u (all_of r) → Member u H
  part_to u m = contains_member H u ((same_graph u).0 (member_contains (all_of r) u m))

  pub part_from : (u : UpdateView) → Member u H → Member u (all_of r)
  part_from u m = contains_member (all_of r) u ((same_graph u).1 (member_contains H u m))

  pub confirmed_length : length C ≡ c
  confirmed_length = picked_length H (take c ns) within_front ∙ (let l = length-take c ns in let s = k.split in omega (arith, l, s))

  pub unsent_length : length O ≡ length ns - c
  unsent_length = picked_length H (drop c ns) within_back ∙ length-drop c ns

  front_length : length (take c ns) ≡ c
  front_length = let l = length-take c ns in let s = k.split in omega (arith, l, s)

  legal_confirmed : IsLegalLog (reverse C)
  legal_confirmed = legal_back (reverse O) (reverse C) (subst IsLegalLog (log_parts C O) k.sound.legal)

  -- an update that may follow the resource's may follow others that are among them
  follows_part : (u : UpdateView) → MayFollow H u → (K : List UpdateView) → IsLegalLog (reverse K) → ((x : UpdateView) → Member x K → Member x H) → ((p : List ℕ) → Member p u.parents → Has K p) → Follows (reverse K) u
  follows_part u f K legal part there = follows_there (reverse H) (reverse K) u k.legal legal f
      (compatible_parts (reverse H) (reverse K) (reverse H) k.legal (λ x m. m) (λ x m. to_log H x (part x (of_log K x m))))
      (λ p m. let h = there p m in (h.0, to_log K h.0 h.1, h.2))
      (not_held (reverse K) u.id (λ h. not_has (reverse H) u.id (new_in (reverse H) u f) (h.0, to_log H h.0 (part h.0 (of_log K h.0 h.1)), h.2)))

  abbrev N : ℕ
  N = length ns

  picked_more : (u : UpdateView) (ms : List ℕ) → AreWithin H ms → picked (H ++ u ∷ []) (ms ++ N ∷ []) ≡ picked H ms ++ u ∷ []
  picked_more u ms w = picked-append (H ++ u ∷ []) ms (N ∷ []) ∙ ap (λ t. t ++ picked (H ++ u ∷ []) (N ∷ [])) (picked_longer H (u ∷ []) ms w) ∙ ap (λ t. picked H ms ++ t) (ap (λ (n : ℕ). picked (H ++ u ∷ []) (n ∷ [])) k.counted ∙ picked_last H u)

  -- an update may come to the end of the confirmed ones
  abbrev confirmed_numbers : List ℕ
  confirmed_numbers = take c ns ++ N ∷ drop c ns

  front_numbers : take (c + 1) confirmed_numbers ≡ take c ns ++ N ∷ []
  front_numbers = ap (λ (n : ℕ). take n confirmed_numbers) (let l = front_length in let q : c + 1 ≡ suc (length (take c ns)) = omega (arith, l) in q) ∙ take_between (take c ns) (drop c ns) N

  back_numbers : drop (c + 1) confirmed_numbers ≡ drop c ns
  back_numbers = ap (λ (n : ℕ). drop n confirmed_numbers) (let l = front_length in let q : c + 1 ≡ suc (length (take c ns)) = omega (arith, l) in q) ∙ drop_between (take c ns) (drop c ns) N

  pub with_confirmed : (u : UpdateView) → replica_in agent (H ++ u ∷ []) confirmed_numbers (c + 1) ≡ record { agent = agent; confirmed = C ++ u ∷ []; unsent = O }
  with_confirmed u = λ i. record { agent = agent; confirmed = front i; unsent = back i }
    where
      front : picked (H ++ u ∷ []) (take (c + 1) confirmed_numbers) ≡ C ++ u ∷ []
      front = ap (picked (H ++ u ∷ [])) front_numbers ∙ picked_more u (take c ns) within_front

      back : picked (H ++ u ∷ []) (drop (c + 1) confirmed_numbers) ≡ O
      back = ap (picked (H ++ u ∷ [])) back_numbers ∙ picked_longer H (u ∷ []) (drop c ns) within_back

  -- an update may come to the end of the unsent ones
  front_same : take c (ns ++ N ∷ []) ≡ take c ns
  front_same = take-append-le c ns (N ∷ []) k.split

  back_more : drop c (ns ++ N ∷ []) ≡ drop c ns ++ N ∷ []
  back_more = drop-append-le c ns (N ∷ []) k.split

  pub with_one_unsent : (u : UpdateView) → replica_in agent (H ++ u ∷ []) (ns ++ N ∷ []) c ≡ with_unsent r (u ∷ [])
  with_one_unsent u = λ i. record { agent = agent; confirmed = front i; unsent = back i }
    where
      front : picked (H ++ u ∷ []) (take c (ns ++ N ∷ [])) ≡ C
      front = ap (picked (H ++ u ∷ [])) front_same ∙ picked_longer H (u ∷ []) (take c ns) within_front

      back : picked (H ++ u ∷ []) (drop c (ns ++ N ∷ [])) ≡ O ++ u ∷ []
      back = ap (picked (H ++ u ∷ [])) back_more ∙ picked_more u (drop c ns) within_back

  -- what both leave
  grown_all : (u : UpdateView) (q : ReplicaView) (ms : List ℕ) → picked (H ++ u ∷ []) ms ≡ all_of q → ((x : UpdateView) → Member x (all_of q) ↔ (Member x (all_of r) ⊎ (u ≡ x))) → SameGraph (picked (H ++ u ∷ []) ms) (H ++ u ∷ [])
  grown_all u q ms e same x = (
    (λ d. member_contains (H ++ u ∷ []) x (to ((same x).0 (subst (Member x) e (contains_member (picked (H ++ u ∷ []) ms) x d))))),
    (λ d. member_contains (picked (H ++ u ∷ []) ms) x (subst (Member x) (sym e) ((same x).1 (from (member_append_cases x H (u ∷ []) (contains_member (H ++ u ∷ []) x d)))))),
  )
    where
      to : Member x (all_of r) ⊎ (u ≡ x) → Member x (H ++ u ∷ [])
      to (inl m) = member_append_left x H (u ∷ []) (part_to x m)
      to (inr f) = member_append_right x H (u ∷ []) (inl f)

      from : Member x H ⊎ Member x (u ∷ []) → Member x (all_of r) ⊎ (u ≡ x)
      from (inl m) = inl (part_from x m)
      from (inr (inl f)) = inr f
      from (inr (inr n)) = absurd n

  below : (n : ℕ) → Member n ns → n < N
  below n m = let w = within n m in let e = k.counted in omega (arith, w, e)

  grown_length : (u : UpdateView) → length (H ++ u ∷ []) ≡ N + 1
  grown_length u = let l = length-append H (u ∷ []) in let e = k.counted in omega (arith, l, e)

  pub confirmed_kept : (u : UpdateView) (width : ℕ) → MayFollow H u → HasRoom (needs_of H u) (room_of (limits_with width) H) → HoldsAll (graph_of C) u.parents → IsKept agent (H ++ u ∷ []) confirmed_numbers (c + 1) (flags ++ true ∷ [])
  confirmed_kept u width f room held = record {
    legal = (legal_more H u).1 (k.legal, f);
    few = let l = grown_length u in let e = k.counted in let v = room.versions in let s = k.few in omega (arith, l, e, v, s, length-reverse H);
    within = λ n d. let l = grown_length u in elim (member_append_cases n (take c ns) (N ∷ drop c ns) (contains_member confirmed_numbers n d)) [
      | inl a ↦ (let b = below n (take_member_of n c ns a) in omega (arith, l, b))
      | inr (inl e) ↦ omega (arith, l, e)
      | inr (inr b) ↦ (let d = below n (drop_member_of n c ns b) in omega (arith, l, d))
    ];
    counted = let l = grown_length u in let a = length-append (take c ns) (N ∷ drop c ns) in let t = front_length in let d = length-drop c ns in let s = k.split in omega (arith, l, a, t, d, s);
    all = grown_all u q confirmed_numbers (sym (picked_parts (H ++ u ∷ []) confirmed_numbers (c + 1)) ∙ ap all_of (with_confirmed u)) members;
    sound = subst IsSound (sym (with_confirmed u)) (record { legal = subst IsLegalLog (sym order) (legal_between (reverse O) (reverse C) u legal follows new); chained = k.sound.chained });
    split = let a = length-append (take c ns) (N ∷ drop c ns) in let t = front_length in let d = length-drop c ns in let s = k.split in omega (arith, a, t, d, s);
    size = let l = grown_length u in let a = length-append flags (true ∷ []) in let z = k.size in let e = k.counted in omega (arith, l, a, z, e);
    flagged = marks;
    elements = let g = elements_grow H u in let v = room.elements in let s = k.elements in omega (arith, g, v, s);
    deletions = let g = deletions_grow H u in let v = room.deletions in let s = k.deletions in omega (arith, g, v, s);
  }
    where
      q : ReplicaView
      q = record { agent = agent; confirmed = C ++ u ∷ []; unsent = O }

      members : (x : UpdateView) → Member x (all_of q) ↔ (Member x (all_of r) ⊎ (u ≡ x))
      members x = (
        (λ m. elim (member_append_cases x (C ++ u ∷ []) O m) [
          | inl a ↦ elim (member_append_cases x C (u ∷ []) a) [ inl b ↦ inl (member_append_left x C O b) | inr (inl e) ↦ inr e | inr (inr n) ↦ absurd n ]
          | inr b ↦ inl (member_append_right x C O b)
        ]),
        (λ s. elim s [
          | inl m ↦ elim (member_append_cases x C O m) [
            | inl a ↦ member_append_left x (C ++ u ∷ []) O (member_append_left x C (u ∷ []) a)
            | inr b ↦ member_append_right x (C ++ u ∷ []) O b
          ]
          | inr e ↦ member_append_left x (C ++ u ∷ []) O (member_append_right x C (u ∷ []) (inl e))
        ]),
      )

      legal : IsLegalLog (reverse O ++ reverse C)
      legal = subst IsLegalLog (log_parts C O) k.sound.legal

      follows : Follows (reverse C) u
      follows = follows_part u f C legal_confirmed (λ x m. part_to x (member_append_left x C O m)) (λ p m. holds_has C p (held p (member_contains u.parents p m)))

      new : Has (reverse O ++ reverse C) u.id → ⊥
      new (x, m, e) = not_has (reverse H) u.id (new_in (reverse H) u f) (x, to_log H x (part_to x (of_log (C ++ O) x (subst (Member x) (sym (log_parts C O)) m))), e)

      order : reverse ((C ++ u ∷ []) ++ O) ≡ reverse O ++ u ∷ reverse C
      order = log_parts (C ++ u ∷ []) O ∙ ap (λ t. reverse O ++ t) (log_more C u)

      marks : (n : ℕ) → IsMarked (flags ++ true ∷ []) n ↔ Contains (take (c + 1) confirmed_numbers) n
      marks n = (
        (λ h. subst (λ (ms : List ℕ). Contains ms n) (sym front_numbers) (member_contains (take c ns ++ N ∷ []) n (elim ((marked_more flags n).0 h) [
          | inl a ↦ member_append_left n (take c ns) (N ∷ []) (contains_member (take c ns) n ((k.flagged n).0 a))
          | inr e ↦ member_append_right n (take c ns) (N ∷ []) (inl (let z = k.size in let d = k.counted in let q : N ≡ n = omega (arith, z, d, e) in q))
        ]))),
        (λ d. (marked_more flags n).1 (elim (member_append_cases n (take c ns) (N ∷ []) (contains_member (take c ns ++ N ∷ []) n (subst (λ (ms : List ℕ). Contains ms n) front_numbers d))) [
          | inl a ↦ inl ((k.flagged n).1 (member_contains (take c ns) n a))
          | inr (inl e) ↦ inr (let z = k.size in let d = k.counted in let q : n ≡ length flags = omega (arith, z, d, e) in q)
          | inr (inr b) ↦ absurd b
        ])),
      )

  pub unsent_kept : (u : UpdateView) (width : ℕ) → MayFollow H u → HasRoom (needs_of H u) (room_of (limits_with width) H) → ((v : List ℕ) → last_id O ≡ Some v → Contains u.parents v) → IsKept agent (H ++ u ∷ []) (ns ++ N ∷ []) c (flags ++ false ∷ [])
  unsent_kept u width f room chain = record {
    legal = (legal_more H u).1 (k.legal, f);
    few = let l = grown_length u in let e = k.counted in let v = room.versions in let s = k.few in omega (arith, l, e, v, s, length-reverse H);
    within = λ n d. let l = grown_length u in elim (member_append_cases n ns (N ∷ []) (contains_member (ns ++ N ∷ []) n d)) [
      | inl a ↦ (let b = below n a in omega (arith, l, b))
      | inr (inl e) ↦ omega (arith, l, e)
      | inr (inr b) ↦ absurd b
    ];
    counted = let l = grown_length u in let a = length-append ns (N ∷ []) in omega (arith, l, a);
    all = grown_all u (with_unsent r (u ∷ [])) (ns ++ N ∷ []) (sym (picked_parts (H ++ u ∷ []) (ns ++ N ∷ []) c) ∙ ap all_of (with_one_unsent u)) members;
    sound = subst IsSound (sym (with_one_unsent u)) (record { legal = subst IsLegal (append_assoc C O (u ∷ [])) ((legal_more (all_of r) u).1 (k.sound.legal, follows)); chained = chained_more O u k.sound.chained chain });
    split = let a = length-append ns (N ∷ []) in let s = k.split in omega (arith, a, s);
    size = let l = grown_length u in let a = length-append flags (false ∷ []) in let z = k.size in let e = k.counted in omega (arith, l, a, z, e);
    flagged = λ n. (
      (λ h. subst (λ (ms : List ℕ). Contains ms n) (sym front_same) ((k.flagged n).0 ((marked_same flags n).0 h))),
      (λ d. (marked_same flags n).1 ((k.flagged n).1 (subst (λ (ms : List ℕ). Contains ms n) front_same d))),
    );
    elements = let g = elements_grow H u in let v = room.elements in let s = k.elements in omega (arith, g, v, s);
    deletions = let g = deletions_grow H u in let v = room.deletions in let s = k.deletions in omega (arith, g, v, s);
  }
    where
      members : (x : UpdateView) → Member x (C ++ (O ++ u ∷ [])) ↔ (Member x (all_of r) ⊎ (u ≡ x))
      members x = (
        (λ m. elim (member_append_cases x (C ++ O) (u ∷ []) (subst (Member x) (sym (append_assoc C O (u ∷ []))) m)) [
          | inl a ↦ inl a
          | inr (inl e) ↦ inr e
          | inr (inr n) ↦ absurd n
        ]),
        (λ s. subst (Member x) (append_assoc C O (u ∷ [])) (elim s [
          | inl m ↦ member_append_left x (C ++ O) (u ∷ []) m
          | inr e ↦ member_append_right x (C ++ O) (u ∷ []) (inl e)
        ])),
      )

      follows : MayFollow (all_of r) u
      follows = follows_part u f (all_of r) k.sound.legal part_to (λ p m. go (follows_held (reverse H) u f p m))
        where
          go : {p : List ℕ} → Has (reverse H) p → Has (all_of r) p
          go (x, m, e) = (x, part_from x (of_log H x m), e)

  -- the first unsent update may be confirmed
  module _ (n : ℕ) (at : slice_get ns c ≡ Some n) where
    pub there : (u : UpdateView) × (slice_get H n ≡ Some u)
    there = go (slice_get H n) refl
      where
        inside : n < length H
        inside = within n (drop_member_of n c ns (subst (Member n) (sym (drop_at ns c n at)) (inl refl)))

        go : (o : Option UpdateView) → slice_get H n ≡ o → (u : UpdateView) × (slice_get H n ≡ Some u)
        go None e = absurd (no_gap H n inside e)
        go (Some u) e = (u, e)

    pub first_is : O ≡ (there.0) ∷ picked H (drop (c + 1) ns)
    first_is = ap (picked H) (drop_at ns c n at) ∙ ap (λ (o : Option UpdateView). with_found o (picked H (drop (c + 1) ns))) there.1

    confirmed_is : picked H (take (c + 1) ns) ≡ C ++ (there.0) ∷ []
    confirmed_is = ap (picked H) (take_next ns c n at) ∙ picked-append H (take c ns) (n ∷ []) ∙ ap (λ (o : Option UpdateView). C ++ with_found o []) there.1

    pub with_first : replica_in agent H ns (c + 1) ≡ confirm r O
    with_first = (λ i. record { agent = agent; confirmed = confirmed_is i; unsent = picked H (drop (c + 1) ns) }) ∙ ap (confirm r) (sym first_is)

    pub first_kept : IsKept agent H ns (c + 1) (set flags n true)
    first_kept = record {
      legal = k.legal;
      few = k.few;
      within = k.within;
      counted = k.counted;
      all = k.all;
      sound = subst IsSound (sym (with_first ∙ ap (confirm r) first_is)) (confirms r there.0 (picked H (drop (c + 1) ns)) first_is k.sound).sound;
      split = let w = slice_get_within ns c n at in omega (arith, w);
      size = length-set flags n true ∙ k.size;
      flagged = λ m. (
        (λ h. subst (λ (ms : List ℕ). Contains ms m) (sym (take_next ns c n at)) (member_contains (take c ns ++ n ∷ []) m (elim ((marked_set flags n m inside).0 h) [
          | inl a ↦ member_append_left m (take c ns) (n ∷ []) (contains_member (take c ns) m ((k.flagged m).0 a))
          | inr e ↦ member_append_right m (take c ns) (n ∷ []) (inl (sym e))
        ]))),
        (λ d. (marked_set flags n m inside).1 (elim (member_append_cases m (take c ns) (n ∷ []) (contains_member (take c ns ++ n ∷ []) m (subst (λ (ms : List ℕ). Contains ms m) (take_next ns c n at) d))) [
          | inl a ↦ inl ((k.flagged m).1 (member_contains (take c ns) m a))
          | inr (inl e) ↦ inr (sym e)
          | inr (inr b) ↦ absurd b
        ])),
      );
      elements = k.elements;
      deletions = k.deletions;
    }
      where
        inside : n < length flags
        inside = let w = within n (drop_member_of n c ns (subst (Member n) (sym (drop_at ns c n at)) (inl refl))) in let z = k.size in omega (arith, w, z)

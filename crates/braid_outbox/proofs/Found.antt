-- An update that is found by its identifier, and whether it is confirmed.
use Rattle.std.proofs.Common.{◌≡◌, ◌↔◌, ℕ, ◌<◌, ◌+◌, List, [], ◌∷◌, Bool, true, false, cond, refl, sym, ap, subst, ◌∙◌, inl, inr, arith, length, take, drop, reverse, None, Some, zero, suc, get_or, IsTrue}
use Rattle.std.proofs.lemmas.Option.{slice_get-get_or, slice_get_within}
use Rattle.std.proofs.lemmas.List.{length-map}
use Rattle.std.specs.List.{Contains, slice_get}
use Rattle.braid_change.specs.Updates.{UpdateView}
use Rattle.braid_graph.specs.Entries.{Holds, HoldsAll, ids_of}
use Rattle.braid_graph.proofs.Collected.{ids_length}
use Rattle.braid_graph.proofs.Newest.{one_number}
use Rattle.braid_tree.specs.Trees.{Member}
use Rattle.braid_tree.proofs.Member.{member_append_left, member_append_cases}
use Rattle.braid_rebase.proofs.Members.{contains_member, member_contains}
use Rattle.braid_text.specs.Versions.{has_version, versions_in}
use Rattle.braid_text.specs.Histories.{entry_of, graph_of}
use Rattle.braid_text.specs.Refusals.{first_missing, same_update}
use Rattle.braid_text.proofs.Held.{holds_version, version_holds}
use Rattle.braid_text.proofs.Judged.{updates_Decide, none_missing, missing_none}
use Rattle.braid_text.proofs.Logs.{Has, false_from, has_holds, holds_has}
use Rattle.braid_text.proofs.Ties.{holds_log, log_holds, legal_graph}
use Rattle.braid_outbox.specs.Replicas.{ReplicaView, all_of}
use Rattle.braid_outbox.specs.Learns.{is_first}
use Rattle.braid_outbox.specs.Kept.{picked, replica_in, IsKept}
use Rattle.braid_outbox.proofs.Picked.{picked_number, number_picked}
use Rattle.braid_outbox.proofs.Keeping.{part_to, part_from}

-- the update with this number has the identifier that the graph says
id_there : (H : List UpdateView) (n : ℕ) (v : List ℕ) → slice_get (ids_of (graph_of H)) n ≡ Some v → (w : UpdateView) × (slice_get H n ≡ Some w) × (w.id ≡ v)
id_there [] n v e = cc
id_there (u ∷ H) zero v e = (u, refl, cc)
id_there (u ∷ H) (suc n) v e = id_there H n v e

id_here : (H : List UpdateView) (n : ℕ) (w : UpdateView) → slice_get H n ≡ Some w → slice_get (ids_of (graph_of H)) n ≡ Some w.id
id_here [] n w e = cc
id_here (u ∷ H) zero w e = let f : u ≡ w = cc in ap (λ (t : UpdateView). Some t.id) f
id_here (u ∷ H) (suc n) w e = id_here H n w e

-- the first of a list is the update, or is not
pub first_yes : (x u : UpdateView) (us : List UpdateView) (b : Bool) → Some x ≡ slice_get us 0 → (IsTrue b ↔ (x ≡ u)) → b ≡ is_first u us
first_yes x u [] b e s = cc
first_yes x u (w ∷ us) b e s = go b (same_update u w) s refl
  where
    f : x ≡ w
    f = cc

    go : (b d : Bool) → (IsTrue b ↔ (x ≡ u)) → same_update u w ≡ d → b ≡ same_update u w
    go true d s g = sym ((updates_Decide u w).1 (sym (s.0 refl) ∙ f))
    go false true s g = absurd (let t : IsTrue false = s.1 (f ∙ sym ((updates_Decide u w).0 g)) in cc)
    go false false s g = sym g

pub first_not : (u : UpdateView) (us : List UpdateView) → None ≡ slice_get us 0 → false ≡ is_first u us
first_not u [] e = refl
first_not u (w ∷ us) e = cc

module _ (agent : List ℕ) (H : List UpdateView) (ns : List ℕ) (c : ℕ) (flags : List Bool) (k : IsKept agent H ns c flags) (q : ReplicaView) (e : replica_in agent H ns c ≡ q) where
  abbrev C : List UpdateView
  C = picked H (take c ns)

  to_all : (u : UpdateView) → Member u H → Member u (all_of q)
  to_all u m = subst (λ (r : ReplicaView). Member u (all_of r)) e (part_from agent H ns c flags k u m)

  from_all : (u : UpdateView) → Member u (all_of q) → Member u H
  from_all u m = part_to agent H ns c flags k u (subst (λ (r : ReplicaView). Member u (all_of r)) (sym e) m)

  from_confirmed : (u : UpdateView) → Member u q.confirmed → Member u H
  from_confirmed u m = from_all u (member_append_left u q.confirmed q.unsent m)

  -- what is not held is nowhere
  pub nowhere : (v : List ℕ) → (Holds (graph_of H) v → ⊥) → Holds (graph_of (all_of q)) v → ⊥
  nowhere v out h = let s = holds_has (all_of q) v h in out (has_holds H v (s.0, from_all s.0 s.1, s.2))

  pub not_confirmed : (v : List ℕ) → (Holds (graph_of H) v → ⊥) → IsTrue false ↔ Holds (graph_of q.confirmed) v
  not_confirmed v out = ((λ t. cc), (λ h. let s = holds_has q.confirmed v h in absurd (out (has_holds H v (s.0, from_confirmed s.0 s.1, s.2)))))

  module _ (n : ℕ) (v : List ℕ) (found : slice_get (ids_of (graph_of H)) n ≡ Some v) where
    pub inside : n < length flags
    inside = let w = slice_get_within (ids_of (graph_of H)) n v found in let a = ids_length (graph_of H) in let b = length-map H entry_of in let z = k.size in omega (arith, w, a, b, z)

    pub there : (w : UpdateView) × (slice_get H n ≡ Some w) × (w.id ≡ v)
    there = id_there H n v found

    flag_is : (b : Bool) → b ≡ get_or flags n b → get_or flags n false ≡ b
    flag_is b h = go (sym (slice_get-get_or flags n false inside) ∙ slice_get-get_or flags n b inside)
      where
        go : Some (get_or flags n false) ≡ Some (get_or flags n b) → get_or flags n false ≡ b
        go s = let d : get_or flags n false ≡ get_or flags n b = cc in d ∙ sym h

    -- the flag says whether it is confirmed
    pub flag_says : (b : Bool) → b ≡ get_or flags n b → IsTrue b ↔ Holds (graph_of q.confirmed) v
    flag_says b h = (
      (λ t. subst (λ (r : ReplicaView). Holds (graph_of r.confirmed) v) e (has_holds C v (there.0, number_picked H (take c ns) (there.0) n (contains_member (take c ns) n ((k.flagged n).0 (flag_is b h ∙ t))) (there.1), there.2))),
      (λ s. go (holds_has C v (subst (λ (r : ReplicaView). Holds (graph_of r.confirmed) v) (sym e) s))),
    )
      where
        go : Has C v → IsTrue b
        go (x, m, f) = by (picked_number H (take c ns) x m)
          where
            by : (j : ℕ) × Member j (take c ns) × (slice_get H j ≡ Some x) → IsTrue b
            by (j, l, g) = sym (flag_is b h) ∙ (k.flagged n).1 (subst (Contains (take c ns)) (one_number (graph_of H) (legal_graph H k.legal) v j n (id_here H j x g ∙ ap Some f) found) (member_contains (take c ns) j l))

    pub gap : None ≡ slice_get H n → ⊥
    gap h = let s = there.1 in cc

    module _ (held u : UpdateView) (at : Some held ≡ slice_get H n) (named : v ≡ u.id) where
      same : there.0 ≡ held
      same = let s = there.1 in cc

      held_in : Member held H
      held_in = member_of H n held (sym at)
        where
          member_of : (K : List UpdateView) (i : ℕ) (w : UpdateView) → slice_get K i ≡ Some w → Member w K
          member_of [] i w s = cc
          member_of (x ∷ K) zero w s = inl cc
          member_of (x ∷ K) (suc i) w s = inr (member_of K i w s)

      held_id : held.id ≡ u.id
      held_id = ap (λ (t : UpdateView). t.id) (sym same) ∙ there.2 ∙ named

      pub is_other : (held ≡ u → ⊥) → Holds (graph_of (all_of q)) u.id × (Contains (all_of q) u → ⊥)
      is_other d = (has_holds (all_of q) u.id (held, to_all held held_in, held_id), λ m. d (go (from_all u (contains_member (all_of q) u m))))
        where
          go : Member u H → held ≡ u
          go m = one_at (place H u m)
            where
              place : (K : List UpdateView) (w : UpdateView) → Member w K → (i : ℕ) × (slice_get K i ≡ Some w)
              place (x ∷ K) w (inl f) = (zero, ap Some f)
              place (x ∷ K) w (inr j) = let p = place K w j in (suc p.0, p.1)
              place [] w m = absurd m

              one_at : (i : ℕ) × (slice_get H i ≡ Some u) → held ≡ u
              one_at (i, g) = let s : slice_get H n ≡ Some u = subst (λ (j : ℕ). slice_get H j ≡ Some u) (one_number (graph_of H) (legal_graph H k.legal) v i n (id_here H i u g ∙ ap Some (sym named)) found) g in cc

      pub is_confirmed : (b : Bool) → b ≡ get_or flags n b → b ≡ true → held ≡ u → Contains q.confirmed u
      is_confirmed b h t d = subst (Contains q.confirmed) (same ∙ d) (subst (λ (r : ReplicaView). Contains r.confirmed (there.0)) e
          (member_contains C (there.0) (number_picked H (take c ns) (there.0) n (contains_member (take c ns) n ((k.flagged n).0 (flag_is b h ∙ t))) (there.1))))

      pub is_unsent : (b : Bool) → b ≡ get_or flags n b → b ≡ false → held ≡ u → Contains q.unsent u
      is_unsent b h f d = elim (member_append_cases u q.confirmed q.unsent (to_all u (subst (λ (t : UpdateView). Member t H) d held_in))) [
        | inl a ↦ absurd (let t : IsTrue b = (flag_says b h).1 (has_holds q.confirmed v (u, a, sym named)) in cc)
        | inr m ↦ member_contains q.unsent u m
      ]

-- which of the members of a frontier is the first that is not confirmed
missing_at : (C : List UpdateView) (F : List (List ℕ)) (i : ℕ) (v : List ℕ) → Some v ≡ slice_get F i → drop i F ≡ v ∷ drop (i + 1) F
missing_at C [] i v e = cc
missing_at C (w ∷ F) zero v e = let f : w ≡ v = cc in ap (λ t. t ∷ F) f
missing_at C (w ∷ F) (suc i) v e = missing_at C F i v e ∙ ap (λ j. v ∷ drop j (w ∷ F)) (let q : suc (i + 1) ≡ suc i + 1 = omega arith in q)

pub missing_next : (C : List UpdateView) (F : List (List ℕ)) (i : ℕ) (v : List ℕ) → Some v ≡ slice_get F i → Holds (graph_of C) v → first_missing F (reverse C) ≡ first_missing (drop i F) (reverse C) → first_missing F (reverse C) ≡ first_missing (drop (i + 1) F) (reverse C)
missing_next C F i v e h s = s ∙ ap (λ (G : List (List ℕ)). first_missing G (reverse C)) (missing_at C F i v e) ∙ ap (λ (b : Bool). cond b (first_missing (drop (i + 1) F) (reverse C)) (Some v)) (holds_version (reverse C) v (holds_log C v h))

pub missing_here : (C : List UpdateView) (F : List (List ℕ)) (i : ℕ) (v : List ℕ) → Some v ≡ slice_get F i → (Holds (graph_of C) v → ⊥) → first_missing F (reverse C) ≡ first_missing (drop i F) (reverse C) → Some v ≡ first_missing F (reverse C)
missing_here C F i v e out s = sym (s ∙ ap (λ (G : List (List ℕ)). first_missing G (reverse C)) (missing_at C F i v e) ∙ ap (λ (b : Bool). cond b (first_missing (drop (i + 1) F) (reverse C)) (Some v)) (false_from (has_version v (versions_in (reverse C))) (λ t. out (log_holds C v (version_holds (reverse C) v t)))))

pub some_missing : (C : List UpdateView) (F : List (List ℕ)) (v : List ℕ) → Some v ≡ first_missing F (reverse C) → IsTrue false ↔ HoldsAll (graph_of C) F
some_missing C F v e = ((λ t. cc), (λ all. absurd (let n = missing_none F (reverse C) (λ p m. holds_has (reverse C) p (holds_log C p (all p (member_contains F p m)))) in cc)))

pub no_missing : (C : List UpdateView) (F : List (List ℕ)) → None ≡ first_missing F (reverse C) → IsTrue true ↔ HoldsAll (graph_of C) F
no_missing C F e = ((λ t p d. log_holds C p (has_holds (reverse C) p (none_missing F (reverse C) (sym e) p (contains_member F p d)))), (λ all. refl))

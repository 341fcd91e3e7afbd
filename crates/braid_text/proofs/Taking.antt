-- The answers of what a resource keeps are those of its history.
use Rattle.std.proofs.Common.{◌≡◌, ℕ, zero, suc, ◌+◌, ◌<◌, ◌≤◌, List, [], ◌∷◌, ◌++◌, reverse, Option, Some, None, IsSome, length, map, slice_get, get_or, refl, sym, ap, subst, ◌∙◌, inl, inr}
use Rattle.std.specs.List.{Contains}
use Rattle.std.specs.List.Sorted.{IsPermutation}
use Rattle.std.proofs.lemmas.List.Sorted.{length_permutation}
use Rattle.std.specs.Option.{option_map}
use Rattle.std.proofs.lemmas.List.{length-map, map-append}
use Rattle.std.proofs.lemmas.Option.{none-some, same_Some, slice_get-get_or, slice_get_within}
use Rattle.braid_ids.specs.Identifiers.{IsIdentifier}
use Rattle.braid_ids.specs.Frontiers.{IsRising}
use Rattle.braid_change.specs.Updates.{UpdateView, IsBuilt}
use Rattle.braid_change.specs.Splices.{ranges, cut, spliced, first_past}
use Rattle.braid_change.specs.declared.patch.Patch.{Patch}
use Rattle.braid_graph.specs.Entries.{GraphEntry, ids_of, Holds, HoldsAll}
use Rattle.braid_graph.specs.Ancestries.{IsLeastUnheld}
use Rattle.braid_graph.specs.Frontiers.{frontier_of}
use Rattle.braid_graph.specs.Levels.{greatest_by, level_of}
use Rattle.braid_tree.specs.Elements.{element_of}
use Rattle.braid_tree.specs.Rows.{Stamp, Row, AreKnown, element_at}
use Rattle.braid_tree.specs.Rows.{RowDeletion}
use Rattle.braid_tree.specs.Seen.{char_in}
use Rattle.braid_tree.specs.Trees.{Member}
use Rattle.braid_rebase.specs.Resolved.{IsSeenAt, IsResolved, IsRebaseFault, row_chars}
use Rattle.braid_rebase.specs.declared.resolving.Resolved.{Resolved}
use Rattle.braid_rebase.specs.declared.resolving.RebaseFault.{RebaseFault}
use Rattle.braid_rebase.specs.declared.resolving.RebaseFault.TheVariants.{OutOfRange as PastEnd}
use Rattle.braid_rebase.proofs.Members.{contains_member, member_contains, in_log}
use Rattle.braid_text.specs.declared.accept.Accept.{Accept}
use Rattle.braid_text.specs.declared.accept.Accept.TheVariants.{New, Known, Clash, UnknownParent, OutOfRange, Full, Memory}
use Rattle.braid_text.specs.declared.room.Room.{Room}
use Rattle.braid_text.specs.declared.room.Which.{Which}
use Rattle.braid_text.specs.Histories.{IsLegal, MayFollow, graph_of, entry_of, text_at, document_of, elements_of, deletions_of}
use Rattle.braid_text.specs.Refusals.{first_full}
use Rattle.braid_text.specs.Answers.{needs_of, HasRoom, IsAnswer, IsOver}
use Rattle.braid_text.specs.Judging.{IsHeldAnswer, NamesParent}
use Rattle.braid_text.specs.Puts.{AreOver, AreThere, ListsWithRuns, total_len, deletion_by}
use Rattle.braid_text.specs.Standing.{Stands, IsTakable, named_deletion}
use Rattle.braid_text.proofs.Held.{one_update}
use Rattle.braid_text.proofs.Logs.{has_holds}
use Rattle.braid_text.proofs.Answered.{IsOverAnswer, over_is}
use Rattle.braid_text.proofs.Public.{may_follow, width_after, document_counted}
use Rattle.braid_text.proofs.Grown.{rows_read, elements_needed, deletions_needed, few_elements, runs_there, deletes_there, stands_next}
use Rattle.braid_text.proofs.Viewed.{stamps_length}

pub member_number : {A : Type 0} (xs : List A) (n : ℕ) (x : A) → slice_get xs n ≡ Some x → Member x xs
member_number [] n x e = absurd (none-some x e)
member_number (y ∷ xs) zero x e = inl (same_Some y x e)
member_number (y ∷ xs) (suc n) x e = inr (member_number xs n x e)

-- the update with the number of an identifier has it
pub held_number : (H : List UpdateView) (i : List ℕ) (n : ℕ) → slice_get (ids_of (graph_of H)) n ≡ Some i → (w : UpdateView) × (slice_get H n ≡ Some w) × (w.id ≡ i)
held_number [] i n e = absurd (none-some i e)
held_number (u ∷ H) i zero e = (u, refl, same_Some u.id i e)
held_number (u ∷ H) i (suc n) e = held_number H i n e

held_of : (H : List UpdateView) (w : UpdateView) → Member w H → Holds (graph_of H) w.id
held_of H w m = has_holds H w.id (w, m, refl)

-- an update that is held is the one of its identifier
pub held_same : (H : List UpdateView) → IsLegal H → (n : ℕ) (w u : UpdateView) → slice_get H n ≡ Some w → w.id ≡ u.id → Contains H u → w ≡ u
held_same H legal n w u at same c = one_update (reverse H) legal w u (in_log H w (member_contains H w (member_number H n w at))) (in_log H u c) same

-- an update that the history contains is held
pub contains_holds : (H : List UpdateView) (u : UpdateView) → Contains H u → Holds (graph_of H) u.id
contains_holds H u c = held_of H u (contains_member H u c)

pub held_fits : (H : List UpdateView) → IsLegal H → (n : ℕ) (w u : UpdateView) → slice_get H n ≡ Some w → w.id ≡ u.id → (room : Room) (a : Accept) → IsHeldAnswer w u a → IsAnswer room H u a × (a ≡ New → ⊥)
held_fits H legal n w u at same room a h = (go a h, λ e. subst (IsHeldAnswer w u) e h)
  where
    go : (a : Accept) → IsHeldAnswer w u a → IsAnswer room H u a
    go Known e = subst (Contains H) e (member_contains H w (member_number H n w at))
    go (Clash v) (e, d) = (e, subst (Holds (graph_of H)) (same ∙ sym e) (held_of H w (member_number H n w at)), λ c. d (held_same H legal n w u at same c))
    go Memory d = λ c. d (held_same H legal n w u at same c)
    go New h = absurd h
    go (UnknownParent v) h = absurd h
    go (OutOfRange p l) h = absurd h
    go (Full w n r) h = absurd h

pub unknown_fits : (H : List UpdateView) (es : List GraphEntry) → es ≡ graph_of H → (u : UpdateView) (i v : List ℕ) (ps : List (List ℕ)) → i ≡ u.id → ps ≡ u.parents → (Holds es i → ⊥) → IsLeastUnheld es ps v → (room : Room) (a : Accept) → NamesParent v a → IsAnswer room H u a × (a ≡ New → ⊥)
unknown_fits H es same u i v ps named_so parents_so new least room a h = (go a h, λ e. subst (NamesParent v) e h)
  where
    new_there : Holds (graph_of H) u.id → ⊥
    new_there = subst (λ (t : List GraphEntry). Holds t u.id → ⊥) same (subst (λ (w : List ℕ). Holds es w → ⊥) named_so new)

    least_there : IsLeastUnheld (graph_of H) u.parents v
    least_there = subst (λ (t : List GraphEntry). IsLeastUnheld t u.parents v) same (subst (λ (t : List (List ℕ)). IsLeastUnheld es t v) parents_so least)

    go : (a : Accept) → NamesParent v a → IsAnswer room H u a
    go (UnknownParent w) e = (new_there, subst (IsLeastUnheld (graph_of H) u.parents) (sym e) least_there)
    go Memory h = λ c. new_there (contains_holds H u c)
    go New h = absurd h
    go Known h = absurd h
    go (Clash w) h = absurd h
    go (OutOfRange p l) h = absurd h
    go (Full w n r) h = absurd h

past_not_new : (p l : ℕ) → OutOfRange p l ≡ New → ⊥
past_not_new p l e = cc

full_not_new : (w : Which) (n r : ℕ) → Full w n r ≡ New → ⊥
full_not_new w n r e = cc

-- the first count of which more is needed than there is room
pub over_fits : (H : List UpdateView) (u : UpdateView) → MayFollow H u → (need room : Room) (a : Accept) → need ≡ needs_of H u → Some a ≡ first_full need room → IsAnswer room H u a × (a ≡ New → ⊥)
over_fits H u may need room a same is = go (subst (IsOverAnswer (needs_of H u) room) (ap (λ (n : Room). first_full n room) (sym same) ∙ sym is) (over_is (needs_of H u) room))
  where
    go : (which : Which) × (n : ℕ) × (left : ℕ) × (a ≡ Full which n left) × IsOver (needs_of H u) room which n left → IsAnswer room H u a × (a ≡ New → ⊥)
    go (which, n, left, e, o) = (subst (IsAnswer room H u) (sym e) (may, o), λ f. full_not_new which n left (sym e ∙ f))

pub roomy : (H : List UpdateView) (u : UpdateView) (need room : Room) → need ≡ needs_of H u → None ≡ first_full need room → HasRoom (needs_of H u) room
roomy H u need room same is = subst (IsOverAnswer (needs_of H u) room) (ap (λ (n : Room). first_full n room) (sym same) ∙ sym is) (over_is (needs_of H u) room)

-- an update that was judged: of identifier and parents as they were read, the one is not held and the others are
module _ (H : List UpdateView) (es : List GraphEntry) (vs : List Stamp) (rows : List Row) (ds : List RowDeletion) (stands : Stands H es vs rows ds) (u : UpdateView)
    (i : List ℕ) (ps : List (List ℕ)) (named_so : i ≡ u.id) (parents_so : ps ≡ u.parents) (new : Holds es i → ⊥) (held : HoldsAll es ps) where
  new_there : Holds (graph_of H) u.id → ⊥
  new_there = subst (λ (t : List GraphEntry). Holds t u.id → ⊥) stands.graph (subst (λ (v : List ℕ). Holds es v → ⊥) named_so new)

  held_there : HoldsAll (graph_of H) u.parents
  held_there = subst (λ (t : List GraphEntry). HoldsAll t u.parents) stands.graph (subst (HoldsAll es) parents_so held)

  pub past_fits : (fault : RebaseFault) (patch len : ℕ) → fault ≡ PastEnd patch len → IsRebaseFault es ds rows u fault → (room : Room) → IsAnswer room H u (OutOfRange patch len) × (OutOfRange patch len ≡ New → ⊥)
  past_fits fault patch len is h room = go (subst (IsRebaseFault es ds rows u) is h)
    where
      go : IsRebaseFault es ds rows u (PastEnd patch len) → IsAnswer room H u (OutOfRange patch len) × (OutOfRange patch len ≡ New → ⊥)
      go (S, seen, past, l) =
          let s : IsSeenAt (graph_of H) u.parents ds rows S = subst (λ (t : List GraphEntry). IsSeenAt t u.parents ds rows S) stands.graph seen in
          let r : row_chars S ≡ text_at H u.parents = rows_read H es vs rows ds stands u held_there S s in
          ((new_there, held_there, ap (λ (t : List ℕ). first_past t u.change) (sym r) ∙ past, l ∙ sym (length-map S char_in) ∙ ap length r), past_not_new patch len)

  module _ (named : IsIdentifier u.id) (rising : IsRising u.parents) (built : IsBuilt u.parents u.change) (resolved : Resolved)
      (ok : (S : List Row) × IsSeenAt es u.parents ds rows S × IsResolved S u.change resolved) where
    seen_there : IsSeenAt (graph_of H) u.parents ds rows ok.0
    seen_there = subst (λ (t : List GraphEntry). IsSeenAt t u.parents ds rows ok.0) stands.graph ok.1

    may : MayFollow H u
    may = (may_follow H u).1 (new_there, named, held_there, rising, built, fits)
      where
        fits : IsSome (spliced (text_at H u.parents) u.change)
        fits = subst (λ (t : List ℕ). IsSome (spliced t u.change)) (rows_read H es vs rows ds stands u held_there ok.0 seen_there) (go (ranges (row_chars ok.0) u.change) ok.2.fits)
          where
            go : (o : Option (List Patch)) → IsSome o → IsSome (option_map (cut 0 (row_chars ok.0)) o)
            go None h = cc
            go (Some rs) h = refl

    pub takable : resolved.level ≡ 1 + greatest_by (level_of es) u.parents → IsTakable H ds rows u resolved
    takable level = record {
      follows = may;
      seen = (ok.0, seen_there, ok.2);
      level = level ∙ ap (λ (t : List GraphEntry). 1 + greatest_by (level_of t) u.parents) stands.graph;
    }

-- the update that was read at the number of its identifier
pub held_item : (H : List UpdateView) (es : List GraphEntry) (u item : UpdateView) (n : ℕ) (i : List ℕ) → es ≡ graph_of H → slice_get (ids_of es) n ≡ Some i → i ≡ u.id → item ≡ get_or H n item → (slice_get H n ≡ Some item) × (item.id ≡ u.id)
held_item H es u item n i same found is read = go (held_number H i n (ap (λ (t : List GraphEntry). slice_get (ids_of t) n) (sym same) ∙ found))
  where
    go : (w : UpdateView) × (slice_get H n ≡ Some w) × (w.id ≡ i) → (slice_get H n ≡ Some item) × (item.id ≡ u.id)
    go (w, at, e) =
        let l : n < length H = slice_get_within H n w at in
        let here : slice_get H n ≡ Some item = slice_get-get_or H n item l ∙ ap Some (sym read) in
        let f : w ≡ item = same_Some w item (sym at ∙ here) in
        (here, sym (ap (λ (t : UpdateView). t.id) f) ∙ e ∙ is)

-- an update is not of the history where its identifier is not held
pub not_contained : (H : List UpdateView) (es : List GraphEntry) → es ≡ graph_of H → (u : UpdateView) (i : List ℕ) → i ≡ u.id → (Holds es i → ⊥) → Contains H u → ⊥
not_contained H es same u i named_so new c = new (subst (Holds es) (sym named_so) (subst (λ (t : List GraphEntry). Holds t u.id) (sym same) (contains_holds H u c)))

-- how many versions, elements and deletions are kept
pub versions_kept : (H : List UpdateView) (es : List GraphEntry) (vs : List Stamp) (rows : List Row) (ds : List RowDeletion) → Stands H es vs rows ds → length vs ≡ length H
versions_kept H es vs rows ds stands = ap length stands.stamps ∙ stamps_length H

pub elements_kept : (H : List UpdateView) (es : List GraphEntry) (vs : List Stamp) (rows : List Row) (ds : List RowDeletion) → Stands H es vs rows ds → length rows ≡ length (elements_of H)
elements_kept H es vs rows ds stands = sym (length-map rows (element_at vs)) ∙ ap length stands.listed ∙ length-map (document_of H) element_of ∙ document_counted H

pub deletions_kept : (H : List UpdateView) (es : List GraphEntry) (vs : List Stamp) (rows : List Row) (ds : List RowDeletion) → Stands H es vs rows ds → length ds ≡ length (deletions_of H)
deletions_kept H es vs rows ds stands = sym (length-map ds (named_deletion vs)) ∙ sym (length_permutation (map (named_deletion vs) ds) (deletions_of H) stands.deleted)

-- what a takable update was resolved to
module _ (H : List UpdateView) (es : List GraphEntry) (vs : List Stamp) (rows : List Row) (ds : List RowDeletion) (stands : Stands H es vs rows ds) (u : UpdateView) (resolved : Resolved) (t : IsTakable H ds rows u resolved) where
  parents_there : HoldsAll (graph_of H) u.parents
  parents_there = ((may_follow H u).0 t.follows).2

  pub fresh_there : (i : List ℕ) → i ≡ u.id → Holds es i → ⊥
  fresh_there i e h = ((may_follow H u).0 t.follows).0 (subst (Holds (graph_of H)) e (subst (λ (x : List GraphEntry). Holds x i) stands.graph h))

  pub parents_kept : (ps : List (List ℕ)) → ps ≡ u.parents → HoldsAll es ps
  parents_kept ps e = subst (HoldsAll es) (sym e) (subst (λ (x : List GraphEntry). HoldsAll x u.parents) (sym stands.graph) parents_there)

  pub elements_taken : total_len resolved.runs.items ≡ (needs_of H u).elements
  elements_taken = elements_needed H es vs rows ds stands u parents_there t.seen.0 t.seen.1 t.follows resolved t.seen.2

  pub deletions_taken : length resolved.deletes.items ≡ (needs_of H u).deletions
  deletions_taken = deletions_needed H es vs rows ds stands u parents_there t.seen.0 t.seen.1 t.follows resolved t.seen.2

  -- what was counted is what is needed
  pub need_is : (need : Room) (ps : List (List ℕ)) → ps ≡ u.parents → need.versions ≡ 1 → need.elements ≡ total_len resolved.runs.items → need.deletions ≡ length resolved.deletes.items
      → need.width ≡ length (frontier_of (es ++ record { id = u.id; parents = ps } ∷ [])) → need ≡ needs_of H u
  need_is need ps so a b c d =
      let e : need.elements ≡ (needs_of H u).elements = b ∙ elements_taken in
      let f : need.deletions ≡ (needs_of H u).deletions = c ∙ deletions_taken in
      let w : need.width ≡ (needs_of H u).width = d ∙ ap (λ (t : List (List ℕ)). length (frontier_of (es ++ record { id = u.id; parents = t } ∷ []))) so ∙ ap (λ (t : List GraphEntry). length (frontier_of (t ++ entry_of u ∷ []))) stands.graph ∙ ap (λ (t : List GraphEntry). length (frontier_of t)) (sym (map-append entry_of H (u ∷ []))) ∙ sym (width_after H u) in
      (λ i. record { versions = a i; elements = e i; deletions = f i; width = w i })

  pub few_taken : total_len resolved.runs.items ≤ 1048576
  few_taken = few_elements H es vs rows ds stands u parents_there t.seen.0 t.seen.1 t.follows resolved t.seen.2

  pub over_there : (rows' : List Row) → rows' ≡ rows → AreOver rows' 0 resolved.runs.items
  over_there rows' e = subst (λ (x : List Row). AreOver x 0 resolved.runs.items) (sym e) (runs_there H es vs rows ds stands u parents_there t.seen.0 t.seen.1 t.follows resolved t.seen.2)

  pub deletes_kept : (rows' : List Row) → rows' ≡ rows → AreThere rows' resolved.deletes.items
  deletes_kept rows' e = subst (λ (x : List Row). AreThere x resolved.deletes.items) (sym e) (deletes_there H es vs rows ds stands u parents_there t.seen.0 t.seen.1 t.follows resolved t.seen.2)

  -- what is kept once the update is taken
  pub stands_after : (H' : List UpdateView) (es' : List GraphEntry) (vs1 vs' : List Stamp) (rows1 rows' : List Row) (ds1 ds' : List RowDeletion) (i name : List ℕ) (ps : List (List ℕ))
      → H' ≡ H ++ u ∷ [] → es' ≡ es ++ record { id = i; parents = ps } ∷ [] → i ≡ u.id → ps ≡ u.parents → name ≡ u.id → vs1 ≡ vs → rows1 ≡ rows → ds1 ≡ ds
      → vs' ≡ vs1 ++ record { id = name; level = resolved.level } ∷ [] → ListsWithRuns vs' rows1 rows' resolved.runs.items → IsPermutation (ds1 ++ map (deletion_by (length vs1)) resolved.deletes.items) ds' → AreKnown vs' rows' → length H + 1 ≤ 524288
      → Stands H' es' vs' rows' ds'
  stands_after H' es' vs1 vs' rows1 rows' ds1 ds' i name ps h g a b n v r d stamps lists deletions known few =
      let e : vs' ≡ vs ++ record { id = u.id; level = resolved.level } ∷ [] = stamps ∙ (λ k. v k ++ record { id = n k; level = resolved.level } ∷ []) in
      let graph : es' ≡ es ++ entry_of u ∷ [] = g ∙ (λ k. es ++ record { id = a k; parents = b k } ∷ []) in
      subst (λ (x : List UpdateView). Stands x es' vs' rows' ds') (sym h) (subst (λ (x : List Stamp). Stands (H ++ u ∷ []) es' x rows' ds') (sym e)
      (stands_next H es vs rows ds stands u parents_there t.seen.0 t.seen.1 t.follows resolved t.seen.2 t.level es' rows' ds' graph
      (subst (λ (x : List Stamp). ListsWithRuns x rows rows' resolved.runs.items) e (subst (λ (x : List Row). ListsWithRuns vs' x rows' resolved.runs.items) r lists))
      (subst (λ (x : List RowDeletion). IsPermutation x ds') (λ k. d k ++ map (deletion_by (length (v k))) resolved.deletes.items) deletions) (subst (λ (x : List Stamp). AreKnown x rows') e known) few))

pub number_within : (H : List UpdateView) (es : List GraphEntry) → es ≡ graph_of H → (n : ℕ) (v : List ℕ) → slice_get (ids_of es) n ≡ Some v → n < length H
number_within H es same n v at = go (held_number H v n (ap (λ (t : List GraphEntry). slice_get (ids_of t) n) (sym same) ∙ at))
  where
    go : (w : UpdateView) × (slice_get H n ≡ Some w) × (w.id ≡ v) → n < length H
    go (w, e, f) = slice_get_within H n w e

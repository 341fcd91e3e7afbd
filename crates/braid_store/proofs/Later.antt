-- What is sent of a longer history, and cursors over it.
use Rattle.std.proofs.Common.{◌≡◌, ℕ, ◌≤◌, List, [], ◌∷◌, ◌++◌, Bool, true, false, true≢false, not, cond, filter, length, reverse, take, drop, Some, refl, sym, ap, subst, ◌∙◌, append-nil, append_assoc, length-append, arith, inl, inr, ◌⊎◌, zero, suc}
use Rattle.std.specs.List.{slice_get}
use Rattle.std.proofs.lemmas.List.{reverse-append, append_cancel_left, take-append-drop, drop-append-le}
use Rattle.std.proofs.lemmas.List.Elements.{filter-append}
use Rattle.braid_ids.proofs.Members.{Member, member_at, contains_member, member_contains, kept_place}
use Rattle.braid_change.specs.Updates.{UpdateView}
use Rattle.braid_graph.specs.Entries.{Holds, HoldsAll, has_id, ids_of}
use Rattle.braid_graph.specs.Ancestries.{IsAncestor}
use Rattle.braid_ids.specs.MarkSets.{IsMarked}
use Rattle.braid_text.specs.Versions.{Version, ancestors_in, has_version}
use Rattle.braid_text.specs.Histories.{IsLegal, IsLegalLog, graph_of, versions_at, ancestors_at, added_by}
use Rattle.braid_text.specs.Sent.{is_outside, sent}
use Rattle.braid_text.proofs.Held.{id_member}
use Rattle.braid_text.proofs.Logs.{false_from, legal_back}
use Rattle.braid_text.proofs.Public.{legal_more, may_follow, versions_more, sent_more, ancestors_exact}
use Rattle.braid_store.specs.declared.entry.Entry.{Entry}
use Rattle.braid_store.specs.Books.{of_path, IsLegalBook}
use Rattle.braid_store.specs.Cursors.{left_past, CursorView, IsAncestorAt, FitsHistory, IsFit}
use Rattle.braid_store.proofs.Paths.{of_path_append}

-- the front of a legal history is legal
pub legal_front : (H K : List UpdateView) → IsLegal (H ++ K) → IsLegal H
legal_front H K legal = legal_back (reverse K) (reverse H) (subst IsLegalLog (reverse-append H K) legal)

-- what a history holds, a longer one holds
pub held_longer : (H K : List UpdateView) (F : List (List ℕ)) → HoldsAll (graph_of H) F → HoldsAll (graph_of (H ++ K)) F
held_longer H K F held v c = member_contains (ids_of (graph_of (H ++ K))) v (wider H (contains_member (ids_of (graph_of H)) v (held v c)))
  where
    wider : (I : List UpdateView) → Member v (ids_of (graph_of I)) → Member v (ids_of (graph_of (I ++ K)))
    wider [] m = absurd m
    wider (u ∷ I) (inl e) = inl e
    wider (u ∷ I) (inr m) = inr (wider I m)

-- what may follow leaves the ancestry of what is held as it is
outside_push : (H : List UpdateView) (F : List (List ℕ)) (u : UpdateView) → HoldsAll (graph_of H) F → (Holds (graph_of H) u.id → ⊥) → is_outside (H ++ u ∷ []) F ≡ is_outside H F
outside_push H F u held new = ap (λ (vs : List Version). λ (x : UpdateView). not (has_version x.id vs)) (ap (λ (vs : List Version). ancestors_in vs F) (versions_more H u)
    ∙ ap (λ (b : Bool). cond b (added_by H u ∷ ancestors_in (versions_at H) (u.parents ++ F)) (ancestors_in (versions_at H) F)) other)
  where
    other : has_id u.id F ≡ false
    other = false_from (has_id u.id F) (λ t. new (held u.id (member_contains F u.id (id_member u.id F t))))

-- what a longer history has more, in the words of one update more
split : (H K : List UpdateView) (u : UpdateView) → (H ++ u ∷ []) ++ K ≡ H ++ u ∷ K
split H K u = append_assoc H (u ∷ []) K

new_behind : (H K : List UpdateView) (u : UpdateView) → IsLegal (H ++ u ∷ K) → IsLegal H × (Holds (graph_of H) u.id → ⊥)
new_behind H K u legal =
    let r = (legal_more H u).0 (legal_front (H ++ u ∷ []) K (subst IsLegal (sym (split H K u)) legal)) in
    (r.0, ((may_follow H u).0 r.1).0)

pub outside_longer : (K H : List UpdateView) (F : List (List ℕ)) → IsLegal (H ++ K) → HoldsAll (graph_of H) F → is_outside (H ++ K) F ≡ is_outside H F
outside_longer [] H F legal held = ap (λ (Q : List UpdateView). is_outside Q F) (append-nil H)
outside_longer (u ∷ K) H F legal held =
    ap (λ (Q : List UpdateView). is_outside Q F) (sym (split H K u))
    ∙ outside_longer K (H ++ u ∷ []) F (subst IsLegal (sym (split H K u)) legal) (held_longer H (u ∷ []) F held)
    ∙ outside_push H F u held (new_behind H K u legal).1

-- what comes later is sent behind what was sent before
pub sent_longer : (K H : List UpdateView) (F : List (List ℕ)) → IsLegal (H ++ K) → HoldsAll (graph_of H) F → sent (H ++ K) F ≡ sent H F ++ K
sent_longer [] H F legal held = ap (λ (Q : List UpdateView). sent Q F) (append-nil H) ∙ sym (append-nil (sent H F))
sent_longer (u ∷ K) H F legal held =
    let new = new_behind H K u legal in
    ap (λ (Q : List UpdateView). sent Q F) (sym (split H K u))
    ∙ sent_longer K (H ++ u ∷ []) F (subst IsLegal (sym (split H K u)) legal) (held_longer H (u ∷ []) F held)
    ∙ ap (λ (us : List UpdateView). us ++ K) (sent_more H F u new.0 held new.1)
    ∙ split (sent H F) K u

-- all that comes later is outside
later_outside : (H K : List UpdateView) (F : List (List ℕ)) → IsLegal (H ++ K) → HoldsAll (graph_of H) F → filter (is_outside H F) K ≡ K
later_outside H K F legal held = append_cancel_left (sent H F) (filter (is_outside H F) K) K (sym (filter-append (is_outside H F) H K) ∙ sym (ap (λ (p : UpdateView → Bool). filter p (H ++ K)) (outside_longer K H F legal held)) ∙ sent_longer K H F legal held)

-- what is left past the first updates
pub given_and_left : (H : List UpdateView) (F : List (List ℕ)) (n : ℕ) → filter (is_outside H F) (take n H) ++ left_past H F n ≡ sent H F
given_and_left H F n = sym (filter-append (is_outside H F) (take n H) (drop n H)) ∙ ap (filter (is_outside H F)) (take-append-drop n H)

pub left_longer : (H K : List UpdateView) (F : List (List ℕ)) (n : ℕ) → IsLegal (H ++ K) → HoldsAll (graph_of H) F → n ≤ length H → left_past (H ++ K) F n ≡ left_past H F n ++ K
left_longer H K F n legal held l =
    ap (λ (p : UpdateView → Bool). filter p (drop n (H ++ K))) (outside_longer K H F legal held)
    ∙ ap (filter (is_outside H F)) (drop-append-le n H K l)
    ∙ filter-append (is_outside H F) (drop n H) K
    ∙ ap (λ (us : List UpdateView). left_past H F n ++ us) (later_outside H K F legal held)

-- an update in the ancestry is not outside it, and the other way round
pub inside_from_ancestor : (H : List UpdateView) (F : List (List ℕ)) (u : UpdateView) → IsLegal H → HoldsAll (graph_of H) F → IsAncestor (graph_of H) F u.id → is_outside H F u ≡ false
inside_from_ancestor H F u legal held a = ap not ((ancestors_exact H legal F held u.id).1 a)

pub ancestor_from_inside : (H : List UpdateView) (F : List (List ℕ)) (u : UpdateView) → IsLegal H → HoldsAll (graph_of H) F → is_outside H F u ≡ false → IsAncestor (graph_of H) F u.id
ancestor_from_inside H F u legal held h = (ancestors_exact H legal F held u.id).0 (go (has_version u.id (ancestors_at H F)) h)
  where
    go : (b : Bool) → not b ≡ false → b ≡ true
    go true e = refl
    go false e = cc

-- a member of what a filter keeps whole passes
kept_passes : (p : UpdateView → Bool) (xs : List UpdateView) (x : UpdateView) → filter p xs ≡ xs → Member x xs → p x ≡ true
kept_passes p xs x e m = passes xs (subst (Member x) (sym e) m)
  where
    passes : (ys : List UpdateView) → Member x (filter p ys) → p x ≡ true
    passes [] k = absurd k
    passes (y ∷ ys) k = go (p y) refl k (passes ys)
      where
        go : (b : Bool) → p y ≡ b → Member x (cond b (y ∷ filter p ys) (filter p ys)) → (Member x (filter p ys) → p x ≡ true) → p x ≡ true
        go true f (inl g) rest = ap p (sym g) ∙ f
        go true f (inr k) rest = rest k
        go false f k rest = rest k

place_cases : (H K : List UpdateView) (n : ℕ) (u : UpdateView) → slice_get (H ++ K) n ≡ Some u → (slice_get H n ≡ Some u) ⊎ Member u K
place_cases [] K n u h = inr (member_at K n u h)
place_cases (x ∷ H) K zero u h = inl h
place_cases (x ∷ H) K (suc n) u h = place_cases H K n u h

-- a cursor that fits a history fits each longer one that is legal
pub fits_longer_history : (H K : List UpdateView) (c : CursorView) → FitsHistory H c → IsLegal (H ++ K) → FitsHistory (H ++ K) c
fits_longer_history H K c fit legal = record {
  held = held_longer H K c.from fit.held;
  marked = λ n. (to n, back n);
  within = let l = fit.within in omega (arith, l, length-append H K);
}
  where
    front : IsLegal H
    front = legal_front H K legal

    same : (u : UpdateView) → is_outside (H ++ K) c.from u ≡ is_outside H c.from u
    same u = ap (λ (p : UpdateView → Bool). p u) (outside_longer K H c.from legal fit.held)

    to : (n : ℕ) → IsMarked c.marks n → IsAncestorAt (H ++ K) c.from n
    to n m = let r = (fit.marked n).0 m in (r.0, kept_place H K n r.0 r.1, ancestor_from_inside (H ++ K) c.from r.0 legal (held_longer H K c.from fit.held) (same r.0 ∙ inside_from_ancestor H c.from r.0 front fit.held r.2))

    back : (n : ℕ) → IsAncestorAt (H ++ K) c.from n → IsMarked c.marks n
    back n (u, h, a) = go (place_cases H K n u h)
      where
        inside : is_outside H c.from u ≡ false
        inside = sym (same u) ∙ inside_from_ancestor (H ++ K) c.from u legal (held_longer H K c.from fit.held) a

        go : (slice_get H n ≡ Some u) ⊎ Member u K → IsMarked c.marks n
        go (inl k) = (fit.marked n).1 (u, k, ancestor_from_inside H c.from u front fit.held inside)
        go (inr m) = absurd (let t = kept_passes (is_outside H c.from) K u (later_outside H K c.from legal fit.held) m in true≢false (sym t ∙ inside))

-- the same of books
legal_parts : (B C : List Entry) (p : List ℕ) → IsLegalBook (B ++ C) → IsLegal (of_path B p ++ of_path C p)
legal_parts B C p legal = subst IsLegal (of_path_append B C p) (legal p)

pub sent_of_longer : (B C : List Entry) (p : List ℕ) (F : List (List ℕ)) → IsLegalBook (B ++ C) → HoldsAll (graph_of (of_path B p)) F → sent (of_path (B ++ C) p) F ≡ sent (of_path B p) F ++ of_path C p
sent_of_longer B C p F legal held = ap (λ (H : List UpdateView). sent H F) (of_path_append B C p) ∙ sent_longer (of_path C p) (of_path B p) F (legal_parts B C p legal) held

pub fits_longer_book : (B C : List Entry) (c : CursorView) → IsFit B c → IsLegalBook (B ++ C) → IsFit (B ++ C) c
fits_longer_book B C c fit legal = subst (λ (H : List UpdateView). FitsHistory H c) (sym (of_path_append B C c.path)) (fits_longer_history (of_path B c.path) (of_path C c.path) c fit (legal_parts B C c.path legal))

-- A cursor that passes updates.
use Rattle.std.proofs.Common.{◌≡◌, ℕ, ◌+◌, ◌-◌, ◌<◌, ◌≤◌, List, [], ◌∷◌, Bool, true, false, true≢false, cond, filter, length, drop, Option, Some, None, MatchOption, refl, sym, ap, subst, ◌∙◌, arith, zero, suc}
use Rattle.std.specs.List.{slice_get}
use Rattle.std.specs.Option.{option_map}
use Rattle.std.proofs.lemmas.List.{length-map}
use Rattle.std.proofs.lemmas.Option.{slice_get-map, none-some, same_Some}
use Rattle.braid_ids.specs.MarkSets.{IsMarked}
use Rattle.braid_ids.proofs.Members.{no_gap}
use Rattle.braid_change.specs.Updates.{UpdateView}
use Rattle.braid_graph.specs.Entries.{Holds, HoldsAll}
use Rattle.braid_graph.specs.Ancestries.{IsAncestor, MarksAncestry, IsLeastUnheld}
use Rattle.braid_graph.specs.Frontiers.{IsFrontierOf}
use Rattle.braid_text.specs.Histories.{IsLegal, graph_of, entry_of}
use Rattle.braid_text.specs.Sent.{is_outside}
use Rattle.braid_store.specs.Reads.{IsUnheldOf}
use Rattle.braid_store.specs.Cursors.{left_past, CursorView, IsAncestorAt, FitsHistory, IsNext}
use Rattle.braid_store.proofs.Later.{inside_from_ancestor, ancestor_from_inside}

-- an update that stands at a number begins what stands from there on
drop_at : (H : List UpdateView) (n : ℕ) (u : UpdateView) → slice_get H n ≡ Some u → drop n H ≡ u ∷ drop (suc n) H
drop_at [] n u h = absurd (none-some u h)
drop_at (x ∷ H) zero u h = ap (λ (t : UpdateView). t ∷ H) (same_Some x u h)
drop_at (x ∷ H) (suc n) u h = drop_at H n u h

-- one in the ancestry is passed over, and another is the next
skip_one : (H : List UpdateView) (c : CursorView) (n : ℕ) → IsLegal H → FitsHistory H c → IsMarked c.marks n → left_past H c.from n ≡ left_past H c.from (suc n)
skip_one H c n legal fit m =
    let a = (fit.marked n).0 m in
    ap (filter (is_outside H c.from)) (drop_at H n a.0 a.1) ∙ ap (λ (b : Bool). cond b (a.0 ∷ left_past H c.from (suc n)) (left_past H c.from (suc n))) (inside_from_ancestor H c.from a.0 legal fit.held a.2)

pub skip_all : (H : List UpdateView) (c : CursorView) → IsLegal H → FitsHistory H c → (count start : ℕ) → ((k : ℕ) → start ≤ k → k < start + count → IsMarked c.marks k) → left_past H c.from start ≡ left_past H c.from (start + count)
skip_all H c legal fit zero start m = ap (left_past H c.from) (let e : start ≡ start + 0 = omega arith in e)
skip_all H c legal fit (suc count) start m =
    skip_one H c start legal fit (m start (omega arith) (omega arith))
    ∙ skip_all H c legal fit count (suc start) (λ k l h. m k (omega (arith, l)) (omega (arith, h)))
    ∙ ap (left_past H c.from) (let e : suc start + count ≡ start + suc count = omega arith in e)

skip_to : (H : List UpdateView) (c : CursorView) → IsLegal H → FitsHistory H c → (start n : ℕ) → start ≤ n → ((k : ℕ) → start ≤ k → k < n → IsMarked c.marks k) → left_past H c.from start ≡ left_past H c.from n
skip_to H c legal fit start n l m = skip_all H c legal fit (n - start) start (λ k a b. m k a (omega (arith, l, b))) ∙ ap (left_past H c.from) (let e : start + (n - start) ≡ n = omega (arith, l) in e)

outside_at : (H : List UpdateView) (c : CursorView) (n : ℕ) (u : UpdateView) → IsLegal H → FitsHistory H c → slice_get H n ≡ Some u → (IsMarked c.marks n → ⊥) → is_outside H c.from u ≡ true
outside_at H c n u legal fit h m = go (is_outside H c.from u) refl
  where
    go : (b : Bool) → is_outside H c.from u ≡ b → b ≡ true
    go true e = refl
    go false e = absurd (m ((fit.marked n).1 (u, h, ancestor_from_inside H c.from u legal fit.held e)))

-- the next update, at the first number that is not marked
pub next_at : (H : List UpdateView) (c : CursorView) (n : ℕ) → IsLegal H → FitsHistory H c → c.passed ≤ n → n < length H → (IsMarked c.marks n → ⊥) → ((k : ℕ) → c.passed ≤ k → k < n → IsMarked c.marks k) → IsNext H c.from c.passed (slice_get H n) (n + 1)
next_at H c n legal fit l within out before = go (slice_get H n) refl
  where
    go : (o : Option UpdateView) → slice_get H n ≡ o → IsNext H c.from c.passed o (n + 1)
    go None h = absurd (no_gap H n within h)
    go (Some u) h = (
      skip_to H c legal fit c.passed n l before ∙ ap (filter (is_outside H c.from)) (drop_at H n u h)
          ∙ ap (λ (b : Bool). cond b (u ∷ left_past H c.from (suc n)) (left_past H c.from (suc n))) (outside_at H c n u legal fit h out)
          ∙ ap (λ (m : ℕ). u ∷ left_past H c.from m) (let e : suc n ≡ n + 1 = omega arith in e),
      omega (arith, l),
      ap (slice_get H) (let e : n + 1 - 1 ≡ n = omega arith in e) ∙ h,
    )

-- nothing where all that is left is marked
pub next_none : (H : List UpdateView) (c : CursorView) → IsLegal H → FitsHistory H c → ((k : ℕ) → c.passed ≤ k → k < length H → IsMarked c.marks k) → IsNext H c.from c.passed None (length H)
next_none H c legal fit m = (skip_to H c legal fit c.passed (length H) fit.within m ∙ ap (filter (is_outside H c.from)) (drop_all H), refl)
  where
    drop_all : (I : List UpdateView) → drop (length I) I ≡ []
    drop_all [] = refl
    drop_all (x ∷ I) = drop_all I

-- a number that is marked is below the size
marked_within : (flags : List Bool) (n : ℕ) → IsMarked flags n → n < length flags
marked_within [] n m = absurd (true≢false (sym m))
marked_within (b ∷ flags) zero m = omega arith
marked_within (b ∷ flags) (suc n) m = let l = marked_within flags n m in omega (arith, l)

-- the marks of an ancestry are those of a cursor at the beginning
pub fits_first : (H : List UpdateView) (c : CursorView) (F : List (List ℕ)) (marks : List Bool) → MarksAncestry (graph_of H) F marks → c.from ≡ F → c.marks ≡ marks → c.passed ≡ 0 → FitsHistory H c
fits_first H c F marks a f m p = record {
  held = subst (HoldsAll (graph_of H)) (sym f) a.held;
  marked = λ n. (to n, back n);
  within = omega (arith, p);
}
  where
    at : (n : ℕ) (u : UpdateView) → slice_get H n ≡ Some u → slice_get (graph_of H) n ≡ Some (entry_of u)
    at n u h = slice_get-map entry_of H n ∙ ap (option_map entry_of) h

    to : (n : ℕ) → IsMarked c.marks n → IsAncestorAt H c.from n
    to n k = go (slice_get H n) refl
      where
        marked : IsMarked marks n
        marked = subst (λ (t : List Bool). IsMarked t n) m k

        go : (o : Option UpdateView) → slice_get H n ≡ o → IsAncestorAt H c.from n
        go None h = absurd (no_gap H n (let l = marked_within marks n marked in let s = a.size in let t = length-map H entry_of in omega (arith, l, s, t)) h)
        go (Some u) h = (u, h, subst (λ (G : List (List ℕ)). IsAncestor (graph_of H) G u.id) (sym f) ((a.exact n (entry_of u) (at n u h)).0 marked))

    back : (n : ℕ) → IsAncestorAt H c.from n → IsMarked c.marks n
    back n (u, h, anc) = subst (λ (t : List Bool). IsMarked t n) (sym m) ((a.exact n (entry_of u) (at n u h)).1 (subst (λ (G : List (List ℕ)). IsAncestor (graph_of H) G u.id) f anc))

-- the frontier of a history has no member that the history does not hold
pub own_held : (H : List UpdateView) (F : List (List ℕ)) (v : List ℕ) → IsFrontierOf (graph_of H) F → IsLeastUnheld (graph_of H) F v → ⊥
own_held H F v is least = least.unheld ((is.exact v).0 least.named).0

-- the frontier of no updates is empty
pub none_in_frontier : (H : List UpdateView) (F : List (List ℕ)) → H ≡ [] → IsFrontierOf (graph_of H) F → F ≡ []
none_in_frontier H [] e is = refl
none_in_frontier H (v ∷ F) e is = absurd (let held : Holds (graph_of H) v = ((is.exact v).0 (0, omega arith, refl)).0 in let c = subst (λ (K : List UpdateView). Holds (graph_of K) v) e held in let l = c.1 in omega (arith, l))

-- a version that is asked for, and the least of its identifiers that is not held; a history holds its own frontier
pub unheld_of : (H : List UpdateView) (at : Option (List (List ℕ))) (F : List (List ℕ)) (v : List ℕ) → MatchOption at (IsFrontierOf (graph_of H) F) (λ (G : List (List ℕ)). F ≡ G) → IsLeastUnheld (graph_of H) F v → IsUnheldOf H at v
unheld_of H None F v is least = own_held H F v is least
unheld_of H (Some G) F v is least = subst (λ (t : List (List ℕ)). IsLeastUnheld (graph_of H) t v) is least

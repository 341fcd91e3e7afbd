-- Updates picked by their arrival numbers.
use Rattle.std.proofs.Common.{◌≡◌, ℕ, ◌<◌, List, [], ◌∷◌, ◌++◌, refl, sym, ap, subst, ◌∙◌, inl, inr, length, take, drop, Option, None, Some, zero, suc, take-append-drop}
use Rattle.std.specs.List.{slice_get}
use Rattle.braid_ids.proofs.Members.{slice_get-append_left, slice_get_push, no_gap}
use Rattle.braid_change.specs.Updates.{UpdateView}
use Rattle.braid_tree.specs.Trees.{Member}
use Rattle.braid_outbox.specs.Kept.{with_found, picked}

with_found-append : (o : Option UpdateView) (us ws : List UpdateView) → with_found o (us ++ ws) ≡ with_found o us ++ ws
with_found-append None us ws = refl
with_found-append (Some u) us ws = refl

pub picked-append : (H : List UpdateView) (ns ms : List ℕ) → picked H (ns ++ ms) ≡ picked H ns ++ picked H ms
picked-append H [] ms = refl
picked-append H (n ∷ ns) ms = ap (with_found (slice_get H n)) (picked-append H ns ms) ∙ with_found-append (slice_get H n) (picked H ns) (picked H ms)

-- of numbers in two parts
pub picked_parts : (H : List UpdateView) (ns : List ℕ) (k : ℕ) → picked H (take k ns) ++ picked H (drop k ns) ≡ picked H ns
picked_parts H ns k = sym (picked-append H (take k ns) (drop k ns)) ∙ ap (picked H) (take-append-drop k ns)

-- the numbers are those of updates
abbrev pub AreWithin : List UpdateView → List ℕ → Type 0
AreWithin H ns = (n : ℕ) → Member n ns → n < length H

-- a longer list has the same updates under the same numbers
pub picked_longer : (H K : List UpdateView) (ns : List ℕ) → AreWithin H ns → picked (H ++ K) ns ≡ picked H ns
picked_longer H K [] within = refl
picked_longer H K (n ∷ ns) within = ap (λ (o : Option UpdateView). with_found o (picked (H ++ K) ns)) (slice_get-append_left H K n (within n (inl refl))) ∙ ap (with_found (slice_get H n)) (picked_longer H K ns (λ m k. within m (inr k)))

pub picked_last : (H : List UpdateView) (u : UpdateView) → picked (H ++ u ∷ []) (length H ∷ []) ≡ u ∷ []
picked_last H u = ap (λ (o : Option UpdateView). with_found o []) (slice_get_push H u)

pub picked_length : (H : List UpdateView) (ns : List ℕ) → AreWithin H ns → length (picked H ns) ≡ length ns
picked_length H [] within = refl
picked_length H (n ∷ ns) within = go (slice_get H n) refl (picked_length H ns (λ m k. within m (inr k)))
  where
    go : (o : Option UpdateView) → slice_get H n ≡ o → length (picked H ns) ≡ length ns → length (with_found o (picked H ns)) ≡ suc (length ns)
    go None e ih = absurd (no_gap H n (within n (inl refl)) e)
    go (Some u) e ih = ap suc ih

-- the update at a place is that under the number at that place
pub picked_at : (H : List UpdateView) (ns : List ℕ) → AreWithin H ns → (i n : ℕ) → slice_get ns i ≡ Some n → slice_get (picked H ns) i ≡ slice_get H n
picked_at H [] within i n e = cc
picked_at H (m ∷ ns) within i n e = go (slice_get H m) refl i e (λ j. picked_at H ns (λ k l. within k (inr l)) j n)
  where
    go : (o : Option UpdateView) → slice_get H m ≡ o → (i : ℕ) → slice_get (m ∷ ns) i ≡ Some n → ((j : ℕ) → slice_get ns j ≡ Some n → slice_get (picked H ns) j ≡ slice_get H n) → slice_get (with_found o (picked H ns)) i ≡ slice_get H n
    go None f i e ih = absurd (no_gap H m (within m (inl refl)) f)
    go (Some u) f zero e ih = let g : m ≡ n = cc in sym f ∙ ap (slice_get H) g
    go (Some u) f (suc j) e ih = ih j e

pub picked_past : (H : List UpdateView) (ns : List ℕ) → AreWithin H ns → (i : ℕ) → slice_get ns i ≡ None → slice_get (picked H ns) i ≡ None
picked_past H [] within i e = refl
picked_past H (m ∷ ns) within i e = go (slice_get H m) refl i e (λ j. picked_past H ns (λ k l. within k (inr l)) j)
  where
    go : (o : Option UpdateView) → slice_get H m ≡ o → (i : ℕ) → slice_get (m ∷ ns) i ≡ None → ((j : ℕ) → slice_get ns j ≡ None → slice_get (picked H ns) j ≡ None) → slice_get (with_found o (picked H ns)) i ≡ None
    go None f i e ih = absurd (no_gap H m (within m (inl refl)) f)
    go (Some u) f zero e ih = cc
    go (Some u) f (suc j) e ih = ih j e

-- a picked update stands under one of the numbers
pub picked_number : (H : List UpdateView) (ns : List ℕ) (u : UpdateView) → Member u (picked H ns) → (n : ℕ) × Member n ns × (slice_get H n ≡ Some u)
picked_number H [] u m = absurd m
picked_number H (n ∷ ns) u m = go (slice_get H n) refl m (picked_number H ns u)
  where
    wider : (k : ℕ) × Member k ns × (slice_get H k ≡ Some u) → (k : ℕ) × Member k (n ∷ ns) × (slice_get H k ≡ Some u)
    wider (k, l, e) = (k, inr l, e)

    go : (o : Option UpdateView) → slice_get H n ≡ o → Member u (with_found o (picked H ns)) → (Member u (picked H ns) → (k : ℕ) × Member k ns × (slice_get H k ≡ Some u)) → (k : ℕ) × Member k (n ∷ ns) × (slice_get H k ≡ Some u)
    go None e m ih = wider (ih m)
    go (Some w) e (inl f) ih = (n, inl refl, e ∙ ap Some f)
    go (Some w) e (inr m) ih = wider (ih m)

pub number_picked : (H : List UpdateView) (ns : List ℕ) (u : UpdateView) (n : ℕ) → Member n ns → slice_get H n ≡ Some u → Member u (picked H ns)
number_picked H [] u n m e = absurd m
number_picked H (k ∷ ns) u n (inl f) e = subst (λ (o : Option UpdateView). Member u (with_found o (picked H ns))) (sym e ∙ ap (slice_get H) (sym f)) (inl refl)
number_picked H (k ∷ ns) u n (inr m) e = go (slice_get H k) (number_picked H ns u n m e)
  where
    go : (o : Option UpdateView) → Member u (picked H ns) → Member u (with_found o (picked H ns))
    go None m = m
    go (Some w) m = inr m

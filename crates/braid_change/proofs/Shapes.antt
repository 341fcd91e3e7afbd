-- Patches of which none is backwards and no two neighbours overlap are listed in order.
use Rattle.std.proofs.Common.{◌≡◌, ℕ, ◌+◌, ◌≤◌, List, [], ◌∷◌, Bool, true, false, cond, None, Some, refl, subst, arith, length}
use Rattle.std.specs.List.{position_from}
use Rattle.std.proofs.lemmas.Bool.{ltb-false}
use Rattle.braid_change.specs.Changes.{patches_of, content_len, is_backwards, do_overlap, neighbours, first_backwards, AreListed, AreNumbered, AreScalars}
use Rattle.braid_change.specs.Updates.{IsBuilt}
use Rattle.braid_change.specs.declared.change.Change.{Change}
use Rattle.braid_change.specs.declared.patch.Patch.{Patch}

-- where no item of a list passes, neither its first does nor one of the rest
none_of : {X : Type 0} (p : X → Bool) (n : ℕ) (x : X) (xs : List X) → position_from p n (x ∷ xs) ≡ None → (p x ≡ false) × (position_from p (n + 1) xs ≡ None)
none_of p n x xs h = go (p x) refl h
  where
    go : (b : Bool) → p x ≡ b → cond b (Some n) (position_from p (n + 1) xs) ≡ None → (p x ≡ false) × (position_from p (n + 1) xs ≡ None)
    go true e h = cc
    go false e h = (e, h)

listed_from : (ps : List Patch) (low m n : ℕ) (p : Patch) → low ≤ p.start → position_from is_backwards m (p ∷ ps) ≡ None → position_from do_overlap n (neighbours (p ∷ ps)) ≡ None → AreListed low (p ∷ ps)
listed_from [] low m n p le back over = (le, ltb-false p.end p.start (none_of is_backwards m p [] back).0, tt)
listed_from (q ∷ ps) low m n p le back over =
    let b = none_of is_backwards m p (q ∷ ps) back in
    let o = none_of do_overlap n (p, q) (neighbours (q ∷ ps)) over in
    (le, ltb-false p.end p.start b.0, listed_from ps p.end (m + 1) (n + 1) q (ltb-false q.start p.end o.0) b.1 o.1)

pub listed : (ps : List Patch) → first_backwards ps ≡ None → position_from do_overlap 0 (neighbours ps) ≡ None → AreListed 0 ps
listed [] back over = tt
listed (p ∷ ps) back over = listed_from ps 0 0 0 p (omega arith) back over

-- what the tests of `build` say together
pub built : (parents : List (List ℕ)) (change : Change) (ps : List Patch) → ps ≡ patches_of change → length parents ≤ 32 → length ps ≤ 1000 → first_backwards ps ≡ None → position_from do_overlap 0 (neighbours ps) ≡ None → content_len change ≤ 1048576 → AreNumbered (patches_of change) → AreScalars change → IsBuilt parents change
built parents change ps e few some back over short numbered scalar =
    record {
      few_parents = few;
      shaped = record { few = subst (λ (qs : List Patch). length qs ≤ 1000) e some; listed = subst (AreListed 0) e (listed ps back over); short = short; numbered = numbered };
      scalar = scalar;
    }

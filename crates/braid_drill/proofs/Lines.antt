-- Whether a dialer's link is up, by what it tells.
use Rattle.std.proofs.Common.{◌≡◌, ℕ, List, [], ◌∷◌, ◌++◌, Option, Some, None, refl}
use Rattle.braid_io.specs.Outside.{with_last}
use Rattle.braid_drill.specs.declared.line.Line.{Line}
use Rattle.braid_drill.specs.declared.line.Line.TheVariants.{Free, Busy}
use Rattle.braid_drill.specs.Told.{servers_on}

-- where one link was up behind others, there were no others
pub no_others : (line : Line) (before : Option (List (List ℕ))) (server : List ℕ) → Some (servers_on line) ≡ with_last before server → Some [] ≡ before
no_others line None server e = let z : Some (servers_on line) ≡ None = e in cc
no_others (Free s) (Some []) server e = let z : Some [] ≡ Some (server ∷ []) = e in cc
no_others (Free s) (Some (x ∷ xs)) server e = let z : Some [] ≡ Some (x ∷ (xs ++ server ∷ [])) = e in cc
no_others (Busy a) (Some []) server e = refl
no_others (Busy a) (Some (x ∷ [])) server e = let z : Some (a ∷ []) ≡ Some (x ∷ server ∷ []) = e in cc
no_others (Busy a) (Some (x ∷ y ∷ ys)) server e = let z : Some (a ∷ []) ≡ Some (x ∷ y ∷ (ys ++ server ∷ [])) = e in cc

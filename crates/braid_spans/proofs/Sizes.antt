-- How many elements runs hold, and how many of them nothing deletes.
use Rattle.std.proofs.Common.{◌≡◌, ℕ, ◌+◌, ◌-◌, ◌<◌, ◌≤◌, List, [], ◌∷◌, Option, Some, None, length, get_or, arith, All, take, drop, suc, ap}
use Rattle.std.specs.List.{remove}
use Rattle.std.proofs.lemmas.List.Elements.{All-tail, All-append, All-take, All-drop}
use Rattle.std.proofs.lemmas.List.Sums.{sum_by-remove}
use Rattle.braid_spans.specs.declared.run.Run.{Run}
use Rattle.braid_spans.proofs.Lists.{sum_by-cons}
use Rattle.braid_spans.specs.Kept.{AreCounted, size_in, undeleted_of, undeleted_in}

undeleted_least : (o : Option ℕ) (n : ℕ) → undeleted_of o n ≤ n
undeleted_least None n = omega arith
undeleted_least (Some m) n = omega arith

pub undeleted_one : (r : Run) → undeleted_of r.newest r.len ≤ r.len
undeleted_one r = undeleted_least r.newest r.len

pub undeleted_below : (rs : List Run) → undeleted_in rs ≤ size_in rs
undeleted_below [] = omega arith
undeleted_below (r ∷ rs) =
    let a : undeleted_in (r ∷ rs) ≡ undeleted_of r.newest r.len + undeleted_in rs = sum_by-cons (λ (x : Run). undeleted_of x.newest x.len) r rs in
    let b : size_in (r ∷ rs) ≡ r.len + size_in rs = sum_by-cons (λ (x : Run). x.len) r rs in omega (arith, a, b, undeleted_one r, undeleted_below rs)

-- runs that are not empty are no more than their elements
pub count_below : (rs : List Run) → All (λ (r : Run). 0 < r.len) rs → length rs ≤ size_in rs
count_below [] all = omega arith
count_below (r ∷ rs) all =
    let b : size_in (r ∷ rs) ≡ r.len + size_in rs = sum_by-cons (λ (x : Run). x.len) r rs in
    let h : 0 < r.len = all 0 r (omega arith) in
    omega (arith, b, h, count_below rs (All-tail (λ (x : Run). 0 < x.len) r rs all))

-- what is counted after a run is taken out
pub counted_remove : (rs : List Run) (i n k : ℕ) (r : Run) → i < length rs → r ≡ get_or rs i r → k ≡ undeleted_of r.newest r.len → AreCounted rs n → AreCounted (remove rs i) (n - k)
counted_remove rs i n k r l e f counted = record {
  some = All-append (λ (x : Run). 0 < x.len) (take i rs) (drop (suc i) rs) (All-take (λ (x : Run). 0 < x.len) i rs counted.some) (All-drop (λ (x : Run). 0 < x.len) (suc i) rs counted.some);
  size = omega (arith, size, counted.size);
  undeleted = omega (arith, less, at, f, counted.undeleted);
}
  where
    less : undeleted_in (remove rs i) + undeleted_of (get_or rs i r).newest (get_or rs i r).len ≡ undeleted_in rs
    less = sum_by-remove (λ (x : Run). undeleted_of x.newest x.len) rs i r l

    at : undeleted_of r.newest r.len ≡ undeleted_of (get_or rs i r).newest (get_or rs i r).len
    at = ap (λ (x : Run). undeleted_of x.newest x.len) e

    size : size_in (remove rs i) + (get_or rs i r).len ≡ size_in rs
    size = sum_by-remove (λ (x : Run). x.len) rs i r l

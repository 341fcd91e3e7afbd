-- What the walk over arrival numbers has marked.
use Rattle.std.proofs.Common.{◌≡◌, ◌↔◌, ℕ, ◌+◌, ◌<◌, ◌≤◌, List, [], ◌∷◌, Bool, length, take, get_or, slice_get, Some, zero, suc, arith, refl, sym, subst, ◌∙◌, inl, inr}
use Rattle.std.specs.List.{Contains, AllZip}
use Rattle.std.proofs.lemmas.Option.{none-some, same_Some, slice_get_within, slice_get_read}
use Rattle.std.proofs.lemmas.List.{take_all}
use Rattle.std.proofs.lemmas.List.Elements.{Contains-get_or, Contains-push_cases}
use Rattle.braid_ids.specs.MarkSets.{IsMarked}
use Rattle.braid_graph.specs.Entries.{GraphEntry, ids_of, Holds, HoldsAll, IsHistoryGraph}
use Rattle.braid_graph.specs.Ancestries.{IsAncestor, Covers, MarksAncestry}
use Rattle.braid_graph.specs.Inside.{IsNumberOf, IsLinked, IsKept, IsParentNumber, AllMarked}
use Rattle.braid_graph.specs.declared.links.Links.{Links}
use Rattle.braid_ids.proofs.Members.{Member, contains_member, member_contains, place_of}
use Rattle.braid_graph.proofs.Newest.{entry_at, one_number}
use Rattle.braid_graph.proofs.Kept.{take_next, zip_at, zip_length}

-- a held identifier has a number
pub number_of : (es : List GraphEntry) (v : List ℕ) → Holds es v → (n : ℕ) × IsNumberOf es v n
number_of es v held = place_of (ids_of es) v (contains_member (ids_of es) v held)

pub number_within : (es : List GraphEntry) (v : List ℕ) (n : ℕ) → IsNumberOf es v n → n < length es
number_within es v n at = let e = entry_at es n v at in slice_get_within es n e.0 e.1

-- parents stand before their children
pub parent_before : (es : List GraphEntry) → IsHistoryGraph es → (n m : ℕ) → IsParentNumber es n m → m < n
parent_before es h n m (e, v, at, c, is) =
    let r = number_of (take n es) v (h.parents_first n e at v c) in
    let w = number_within (take n es) v r.0 r.1 in
    let same : m ≡ r.0 = one_number es h v m r.0 is (in_take es n v r.0 r.1) in
    omega (arith, short n es)
  where
    in_take : (es : List GraphEntry) (k : ℕ) (v : List ℕ) (n : ℕ) → IsNumberOf (take k es) v n → IsNumberOf es v n
    in_take es zero v n at = absurd (none-some v at)
    in_take [] (suc k) v n at = absurd (none-some v at)
    in_take (d ∷ es) (suc k) v zero at = at
    in_take (d ∷ es) (suc k) v (suc n) at = in_take es k v n at

    short : (k : ℕ) (es : List GraphEntry) → length (take k es) ≤ k
    short zero es = omega arith
    short (suc k) [] = omega arith
    short (suc k) (d ∷ es) = let s = short k es in omega arith

-- the numbers that are kept for an entry are its parents'
zip_right : {A B : Type 0} (R : A → B → Type 0) (xs : List A) (ys : List B) → AllZip R xs ys → (y : B) → Member y ys → (x : A) × Member x xs × R x y
zip_right R [] [] z y m = absurd m
zip_right R [] (v ∷ ys) z y m = absurd z
zip_right R (u ∷ xs) [] z y m = absurd z
zip_right R (u ∷ xs) (v ∷ ys) z y (inl e) = (u, inl refl, subst (R u) e z.0)
zip_right R (u ∷ xs) (v ∷ ys) z y (inr m) = let r = zip_right R xs ys z.1 y m in (r.0, inr r.1, r.2)

zip_left : {A B : Type 0} (R : A → B → Type 0) (xs : List A) (ys : List B) → AllZip R xs ys → (x : A) → Member x xs → (y : B) × Member y ys × R x y
zip_left R [] ys z x m = absurd m
zip_left R (u ∷ xs) [] z x m = absurd z
zip_left R (u ∷ xs) (v ∷ ys) z x (inl e) = (v, inl refl, subst (λ (t : _). R t v) e z.0)
zip_left R (u ∷ xs) (v ∷ ys) z x (inr m) = let r = zip_left R xs ys z.1 x m in (r.0, inr r.1, r.2)

entry_within : (es : List GraphEntry) (n : ℕ) → n < length es → (e : GraphEntry) × (slice_get es n ≡ Some e)
entry_within [] n l = absurd (omega arith)
entry_within (e ∷ es) zero l = (e, refl)
entry_within (e ∷ es) (suc n) l = entry_within es n (omega arith)

pub parent_numbers : (es : List GraphEntry) (links : List Links) (n : ℕ) (k : Links) → IsHistoryGraph es → AllZip (IsLinked es) es links → n < length es → slice_get links n ≡ Some k → (m : ℕ) → Contains k.parents.items m ↔ IsParentNumber es n m
parent_numbers es links n k h z l at m = go (entry_within es n l)
  where
    go : (e : GraphEntry) × (slice_get es n ≡ Some e) → Contains k.parents.items m ↔ IsParentNumber es n m
    go (e, here) =
        let is = zip_at (IsLinked es) es links z n e k here at in (
          λ c. let r = zip_right (IsNumberOf es) e.parents k.parents.items is.parents m (contains_member k.parents.items m c) in (e, r.0, here, member_contains e.parents r.0 r.1, r.2),
          λ (d, v, there, c, number).
              let same : d ≡ e = same_Some d e (sym there ∙ here) in
              let r = zip_left (IsNumberOf es) e.parents k.parents.items is.parents v (contains_member e.parents v (subst (λ (t : GraphEntry). Contains t.parents v) same c)) in
              let one : r.0 ≡ m = one_number es h v r.0 m r.2 number in
              member_contains k.parents.items m (subst (λ (t : ℕ). Member t k.parents.items) one r.1),
        )

pub parent_number_within : (es : List GraphEntry) (n m : ℕ) → IsParentNumber es n m → m < length es
parent_number_within es n m (e, v, at, c, is) = number_within es v m is

pub all_marked_next : (es : List GraphEntry) (F : List (List ℕ)) (i n : ℕ) (id : List ℕ) (marks : List Bool) → IsHistoryGraph es → AllMarked es (take i F) marks → slice_get F i ≡ Some id → IsNumberOf es id n → IsMarked marks n → AllMarked es (take (i + 1) F) marks
all_marked_next es F i n id marks h all at is marked m v place c = elim (Contains-push_cases (take i F) id v (subst (λ (t : List (List ℕ)). Contains t v) (take_next F i id at) c)) [
  | inl before ↦ all m v place before
  | inr same ↦ subst (IsMarked marks) (one_number es h v n m (subst (λ (t : List ℕ). IsNumberOf es t n) same is) place) marked
]

pub all_marked_all : (es : List GraphEntry) (F : List (List ℕ)) (i : ℕ) (marks : List Bool) → length F ≤ i → AllMarked es (take i F) marks → AllMarked es F marks
all_marked_all es F i marks l all = subst (λ (t : List (List ℕ)). AllMarked es t marks) (take_all i F l) all

-- marked are all of the lower where its members are in the ancestry of the upper
pub covers_marked : (es : List GraphEntry) (upper lower : List (List ℕ)) (marks : List Bool) → HoldsAll es lower → MarksAncestry es upper marks → AllMarked es lower marks ↔ Covers es upper lower
covers_marked es upper lower marks held has = (
  λ all v c.
      let r = number_of es v (held v c) in
      let e = entry_at es r.0 v r.1 in
      subst (IsAncestor es upper) e.2 ((has.exact r.0 e.0 e.1).0 (all r.0 v r.1 c)),
  λ covers n v at c. let e = entry_at es n v at in (has.exact n e.0 e.1).1 (subst (IsAncestor es upper) (sym e.2) (covers v c)),
)

-- the same from what a graph keeps
pub parents_kept : (es own : List GraphEntry) (links : List Links) (flags : List Bool) (n : ℕ) (k : Links) → own ≡ es → IsKept own links flags → n < length es → k ≡ get_or links n k → (m : ℕ) → Contains k.parents.items m ↔ IsParentNumber es n m
parents_kept es own links flags n k view kept l at =
    let e = entry_within es n l in
    let own_kept : IsKept es links flags = subst (λ (t : List GraphEntry). IsKept t links flags) view kept in
    let long = zip_length (IsLinked es) es links own_kept.linked in
    parent_numbers es links n k own_kept.history own_kept.linked l (slice_get_read links (length links) n k (λ i. length links) (omega arith) at)

pub parent_small : (es own : List GraphEntry) (links : List Links) (flags : List Bool) (n : ℕ) (k : Links) (ns : List ℕ) (i : ℕ) → own ≡ es → IsKept own links flags → n < length es → k ≡ get_or links n k → ns ≡ k.parents.items → i < length ns → get_or ns i 0 < length es
parent_small es own links flags n k ns i view kept l at same within =
    parent_number_within es n (get_or ns i 0) ((parents_kept es own links flags n k view kept l at (get_or ns i 0)).0 (subst (λ (t : List ℕ). Contains t (get_or ns i 0)) same (Contains-get_or ns i 0 within)))

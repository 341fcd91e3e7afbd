-- Places of rows: where they are, which stay, and that each has one row.
use Rattle.std.proofs.Common.{◌≡◌, ℕ, ◌+◌, ◌<◌, ◌≤◌, List, [], ◌∷◌, ◌++◌, length, take, drop, Option, Some, MatchOption, refl, sym, ap, subst, inl, inr, ◌⊎◌, arith, suc, zero}
use Rattle.std.proofs.lemmas.List.{take-append-drop}
use Rattle.std.proofs.lemmas.List.Elements.{All-append, All-take, All-drop, All-nil, All-cons, All-same}
use Rattle.braid_tree.specs.declared.at.At.{At}
use Rattle.braid_tree.specs.Rows.{Row, Stamp, HasPlace, KeepsPlaces, AreNewOrdinals, IsKnownRow, AreKnown, PutsRun, run_rows, place}
use Rattle.braid_tree.specs.Inside.{IsPlaceOf, HaveOwnPlaces}

pub place_number : (rows : List Row) (at : At) → HasPlace rows at → (k : ℕ) × (k < length rows) × IsPlaceOf rows at k
place_number [] at h = absurd h
place_number (r ∷ rows) at (inl e) = (zero, omega arith, e)
place_number (r ∷ rows) at (inr h) = let p = place_number rows at h in (suc p.0, omega (arith, p.1), p.2)

pub place_left : (xs ys : List Row) (at : At) → HasPlace xs at → HasPlace (xs ++ ys) at
place_left [] ys at h = absurd h
place_left (r ∷ xs) ys at (inl e) = inl e
place_left (r ∷ xs) ys at (inr h) = inr (place_left xs ys at h)

pub place_right : (xs ys : List Row) (at : At) → HasPlace ys at → HasPlace (xs ++ ys) at
place_right [] ys at h = h
place_right (r ∷ xs) ys at h = inr (place_right xs ys at h)

pub place_cases : (xs ys : List Row) (at : At) → HasPlace (xs ++ ys) at → HasPlace xs at ⊎ HasPlace ys at
place_cases [] ys at h = inr h
place_cases (r ∷ xs) ys at (inl e) = inl (inl e)
place_cases (r ∷ xs) ys at (inr h) = elim (place_cases xs ys at h) [ inl a ↦ inl (inr a) | inr b ↦ inr b ]

-- a place of a run is one of its version, from its first ordinal on and below its end
pub place_of_run : (version : ℕ) (origin : Option At) (n : ℕ) (cs : List ℕ) (at : At) → HasPlace (run_rows version origin n cs) at → (at.version ≡ version) × (n ≤ at.ordinal) × (at.ordinal < n + length cs)
place_of_run version origin n [] at h = absurd h
place_of_run version origin n (c ∷ cs) at (inl e) =
    let v : version ≡ at.version = ap (λ (a : At). a.version) e in let o : n ≡ at.ordinal = ap (λ (a : At). a.ordinal) e in (sym v, omega (arith, o), omega (arith, o))
place_of_run version origin n (c ∷ cs) at (inr h) = let p = place_of_run version (Some (place version n)) (n + 1) cs at h in (p.0, omega (arith, p.1), omega (arith, p.2))

-- what a run's rows do to the places: those that were stay
pub keeps_put : (rows new : List Row) (version : ℕ) (after : Option At) (n : ℕ) (text : List ℕ) → PutsRun rows new version after n text → KeepsPlaces rows new
keeps_put rows new version after n text (p, l, e) at h = subst (λ (t : List Row). HasPlace t at) (sym e) (elim (place_cases (take p rows) (drop p rows) at (subst (λ (t : List Row). HasPlace t at) (sym (take-append-drop p rows)) h)) [
  | inl a ↦ place_left (take p rows) (run_rows version after n text ++ drop p rows) at a
  | inr b ↦ place_right (take p rows) (run_rows version after n text ++ drop p rows) at (place_right (run_rows version after n text) (drop p rows) at b)
])

-- and the others are those of the run
pub places_put : (rows new : List Row) (version : ℕ) (after : Option At) (n : ℕ) (text : List ℕ) → PutsRun rows new version after n text → (at : At) → HasPlace new at
    → HasPlace rows at ⊎ ((at.version ≡ version) × (n ≤ at.ordinal) × (at.ordinal < n + length text))
places_put rows new version after n text (p, l, e) at h = elim (place_cases (take p rows) (run_rows version after n text ++ drop p rows) at (subst (λ (t : List Row). HasPlace t at) e h)) [
  | inl a ↦ inl (subst (λ (t : List Row). HasPlace t at) (take-append-drop p rows) (place_left (take p rows) (drop p rows) at a))
  | inr b ↦ elim (place_cases (run_rows version after n text) (drop p rows) at b) [
    | inl r ↦ inr (place_of_run version after n text at r)
    | inr d ↦ inl (subst (λ (t : List Row). HasPlace t at) (take-append-drop p rows) (place_right (take p rows) (drop p rows) at d))
  ]
]

-- the next ordinal of the version is that behind the run
pub next_put : (rows new : List Row) (version : ℕ) (after : Option At) (n : ℕ) (text : List ℕ) → PutsRun rows new version after n text → AreNewOrdinals rows version n → AreNewOrdinals new version (n + length text)
next_put rows new version after n text put next m le h = elim (places_put rows new version after n text put (place version m) h) [
  | inl old ↦ next m (omega (arith, le)) old
  | inr (v, lo, hi) ↦ absurd (let below : m < n + length text = hi in omega (arith, below, le))
]

known_run : (vs : List Stamp) (version : ℕ) (origin : Option At) (n : ℕ) (cs : List ℕ) → version < length vs → MatchOption origin (Unit {0}) (λ (at : At). at.version < length vs) → AreKnown vs (run_rows version origin n cs)
known_run vs version origin n [] lt o = All-nil (IsKnownRow vs)
known_run vs version origin n (c ∷ cs) lt o =
    All-cons (IsKnownRow vs) (record { at = place version n; char = c; origin = origin }) (run_rows version (Some (place version n)) (n + 1) cs) (record { place_known = lt; origin_known = o })
    (known_run vs version (Some (place version n)) (n + 1) cs lt lt)

pub known_put : (vs : List Stamp) (rows new : List Row) (version : ℕ) (after : Option At) (n : ℕ) (text : List ℕ) → AreKnown vs rows → version < length vs
    → MatchOption after (Unit {0}) (λ (at : At). at.version < length vs) → PutsRun rows new version after n text → AreKnown vs new
known_put vs rows new version after n text known lt o (p, l, e) = All-same (IsKnownRow vs) new (take p rows ++ (run_rows version after n text ++ drop p rows)) e
    (All-append (IsKnownRow vs) (take p rows) (run_rows version after n text ++ drop p rows) (All-take (IsKnownRow vs) p rows known)
    (All-append (IsKnownRow vs) (run_rows version after n text) (drop p rows) (known_run vs version after n text lt o) (All-drop (IsKnownRow vs) p rows known)))

-- lists with places of their own, one behind the other
own_append : (xs ys : List Row) → HaveOwnPlaces xs → HaveOwnPlaces ys → ((at : At) → HasPlace xs at → HasPlace ys at → ⊥) → HaveOwnPlaces (xs ++ ys)
own_append [] ys a b apart = b
own_append (r ∷ xs) ys a b apart = (
  λ h. elim (place_cases xs ys r.at h) [ inl m ↦ a.0 m | inr m ↦ apart r.at (inl refl) m ],
  own_append xs ys a.1 b (λ at m n. apart at (inr m) n),
)

own_parts : (xs ys : List Row) → HaveOwnPlaces (xs ++ ys) → HaveOwnPlaces xs × HaveOwnPlaces ys × ((at : At) → HasPlace xs at → HasPlace ys at → ⊥)
own_parts [] ys a = (tt, a, λ at m n. m)
own_parts (r ∷ xs) ys a = let p = own_parts xs ys a.1 in (
  (λ m. a.0 (place_left xs ys r.at m), p.0),
  p.1,
  λ at m n. elim m [ inl e ↦ a.0 (place_right xs ys r.at (subst (HasPlace ys) (sym e) n)) | inr o ↦ p.2 at o n ],
)

own_run : (version : ℕ) (origin : Option At) (n : ℕ) (cs : List ℕ) → HaveOwnPlaces (run_rows version origin n cs)
own_run version origin n [] = tt
own_run version origin n (c ∷ cs) = (
  λ h. (let p = place_of_run version (Some (place version n)) (n + 1) cs (place version n) h in let l : n + 1 ≤ n = p.1 in absurd (omega (arith, l))),
  own_run version (Some (place version n)) (n + 1) cs,
)

-- a run at the next ordinal leaves each place one row
pub own_put : (rows new : List Row) (version : ℕ) (after : Option At) (n : ℕ) (text : List ℕ) → HaveOwnPlaces rows → AreNewOrdinals rows version n → PutsRun rows new version after n text → HaveOwnPlaces new
own_put rows new version after n text own next (p, l, e) = subst HaveOwnPlaces (sym e) (
    own_append (take p rows) (run_rows version after n text ++ drop p rows) parts.0
    (own_append (run_rows version after n text) (drop p rows) (own_run version after n text) parts.1 (λ at m h. fresh at m (place_right (take p rows) (drop p rows) at h)))
    (λ at h m. elim (place_cases (run_rows version after n text) (drop p rows) at m) [ inl r ↦ fresh at r (place_left (take p rows) (drop p rows) at h) | inr d ↦ parts.2 at h d ])
    )
  where
    parts : HaveOwnPlaces (take p rows) × HaveOwnPlaces (drop p rows) × ((at : At) → HasPlace (take p rows) at → HasPlace (drop p rows) at → ⊥)
    parts = own_parts (take p rows) (drop p rows) (subst HaveOwnPlaces (sym (take-append-drop p rows)) own)

    fresh : (at : At) → HasPlace (run_rows version after n text) at → HasPlace (take p rows ++ drop p rows) at → ⊥
    fresh at m h =
        let q = place_of_run version after n text at m in
        let is : at ≡ place version at.ordinal = (λ i. record { version = q.0 i; ordinal = at.ordinal }) in
        next at.ordinal q.1 (subst (λ (a : At). HasPlace rows a) is (subst (λ (t : List Row). HasPlace t at) (take-append-drop p rows) h))

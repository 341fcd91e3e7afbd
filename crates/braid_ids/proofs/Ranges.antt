-- Rising ranges: one more among them, and where a number is found.
use Rattle.std.proofs.Common.{◌≡◌, ◌↔◌, ◌⊎◌, ℕ, suc, zero, ◌+◌, ◌<◌, ◌≤◌, List, [], ◌∷◌, ◌++◌, length, get_or, Some, None, slice_get, ◌-◌, ap, sym, subst, ◌∙◌, inl, inr, arith, refl}
use Rattle.std.proofs.Math.ListN.{set}
use Rattle.std.proofs.lemmas.Bool.{lt-ltb, le-ltb, cases_lt}
use Rattle.std.proofs.lemmas.Option.{none-some, same_Some, get_or_from_slice_get}
use Rattle.std.specs.List.Sorted.{IsNonDecreasingBy}
use Rattle.braid_ids.specs.declared.piece.Piece.{Piece}
use Rattle.braid_ids.specs.Pieces.{IsIn, ArePieces, EndWithin, BeginsBeforeLast, AreAll, KeepPieces, merged, with_piece}
use Rattle.braid_ids.proofs.Members.{no_gap}

-- the three ways in which a range is put beside the first of others
pub with_behind : (m p : Piece) (ps : List Piece) → p.to < m.from → with_piece m (p ∷ ps) ≡ p ∷ with_piece m ps
with_behind m p ps l = rw (lt-ltb p.to m.from l)

pub with_before : (m p : Piece) (ps : List Piece) → m.from ≤ p.to → m.to < p.from → with_piece m (p ∷ ps) ≡ m ∷ with_piece p ps
with_before m p ps a b = rw (le-ltb p.to m.from a, lt-ltb m.to p.from b)

pub with_merged : (m p : Piece) (ps : List Piece) → m.from ≤ p.to → p.from ≤ m.to → with_piece m (p ∷ ps) ≡ with_piece (merged m p) ps
with_merged m p ps a b = rw (le-ltb p.to m.from a, le-ltb m.to p.from b)

pub rise_lower : (low high : ℕ) (ps : List Piece) → low ≤ high → ArePieces high ps → ArePieces low ps
rise_lower low high [] l r = tt
rise_lower low high (p ∷ ps) l r = (omega (arith, r.0), r.1, r.2)

pub rise_with : (low : ℕ) (m : Piece) (ps : List Piece) → low ≤ m.from → m.from < m.to → ArePieces low ps → ArePieces low (with_piece m ps)
rise_with low m [] a b r = (a, b, tt)
rise_with low m (p ∷ ps) a b r =
    elim (cases_lt p.to m.from) [
      | inl l ↦ subst (ArePieces low) (sym (with_behind m p ps l)) (r.0, r.1, rise_with (p.to + 1) m ps (omega arith) b r.2)
      | inr g ↦ elim (cases_lt m.to p.from) [
        | inl l ↦ subst (ArePieces low) (sym (with_before m p ps g l)) (a, b, rise_with (m.to + 1) p ps (omega arith) r.1 (rise_lower (m.to + 1) (p.to + 1) ps (omega (arith, r.1)) r.2))
        | inr h ↦ subst (ArePieces low) (sym (with_merged m p ps g h)) (rise_with low (merged m p) ps (omega (arith, r.0)) (omega (arith, r.1)) (rise_lower low (p.to + 1) ps (omega (arith, r.0, r.1)) r.2))
      ]
    ]

pub within_with : (size : ℕ) (m : Piece) (ps : List Piece) → m.to ≤ size → EndWithin size ps → EndWithin size (with_piece m ps)
within_with size m [] a r = (a, tt)
within_with size m (p ∷ ps) a r =
    elim (cases_lt p.to m.from) [
      | inl l ↦ subst (EndWithin size) (sym (with_behind m p ps l)) (r.0, within_with size m ps a r.1)
      | inr g ↦ elim (cases_lt m.to p.from) [
        | inl l ↦ subst (EndWithin size) (sym (with_before m p ps g l)) (a, within_with size p ps r.0 r.1)
        | inr h ↦ subst (EndWithin size) (sym (with_merged m p ps g h)) (within_with size (merged m p) ps (omega (arith, r.0)) r.1)
      ]
    ]

abbrev pub Within : Piece → ℕ → Type 0
Within m n = (m.from ≤ n) × (n < m.to)

in_merged : (m p : Piece) (n : ℕ) → m.from < m.to → p.from < p.to → m.from ≤ p.to → p.from ≤ m.to → Within (merged m p) n ↔ (Within p n ⊎ Within m n)
in_merged m p n a b g h = (
  λ w. elim (cases_lt n p.from) [
    | inl l ↦ inr (omega (arith, w.0, w.1), omega (arith, w.0, w.1))
    | inr k ↦ elim (cases_lt n p.to) [ inl l ↦ inl (k, l) | inr t ↦ inr (omega (arith, w.0, w.1), omega (arith, w.0, w.1)) ]
  ],
  λ s. elim s [ inl w ↦ (omega (arith, w.0, w.1), omega (arith, w.0, w.1)) | inr w ↦ (omega (arith, w.0, w.1), omega (arith, w.0, w.1)) ],
)

-- the numbers of ranges with one more are theirs and its own
pub in_with : (low : ℕ) (m : Piece) (ps : List Piece) (n : ℕ) → m.from < m.to → ArePieces low ps → IsIn (with_piece m ps) n ↔ (IsIn ps n ⊎ Within m n)
in_with low m [] n a r = (λ s. elim s [ inl w ↦ inr w | inr e ↦ absurd e ], λ s. elim s [ inl e ↦ absurd e | inr w ↦ inl w ])
in_with low m (p ∷ ps) n a r =
    elim (cases_lt p.to m.from) [
      | inl l ↦ subst (λ (t : List Piece). IsIn t n ↔ (IsIn (p ∷ ps) n ⊎ Within m n)) (sym (with_behind m p ps l)) (
          let h = in_with (p.to + 1) m ps n a r.2 in (
            λ s. elim s [ inl w ↦ inl (inl w) | inr k ↦ elim (h.0 k) [ inl i ↦ inl (inr i) | inr w ↦ inr w ] ],
            λ s. elim s [ inl k ↦ elim k [ inl w ↦ inl w | inr i ↦ inr (h.1 (inl i)) ] | inr w ↦ inr (h.1 (inr w)) ],
          )
          )
      | inr g ↦ elim (cases_lt m.to p.from) [
        | inl l ↦ subst (λ (t : List Piece). IsIn t n ↔ (IsIn (p ∷ ps) n ⊎ Within m n)) (sym (with_before m p ps g l)) (
            let h = in_with (p.to + 1) p ps n r.1 r.2 in (
              λ s. elim s [ inl w ↦ inr w | inr k ↦ elim (h.0 k) [ inl i ↦ inl (inr i) | inr w ↦ inl (inl w) ] ],
              λ s. elim s [ inl k ↦ elim k [ inl w ↦ inr (h.1 (inr w)) | inr i ↦ inr (h.1 (inl i)) ] | inr w ↦ inl w ],
            )
            )
        | inr k ↦ subst (λ (t : List Piece). IsIn t n ↔ (IsIn (p ∷ ps) n ⊎ Within m n)) (sym (with_merged m p ps g k)) (
            let h = in_with (p.to + 1) (merged m p) ps n (omega (arith, r.1)) r.2 in
            let both = in_merged m p n a r.1 g k in (
              λ s. elim (h.0 s) [ inl i ↦ inl (inr i) | inr w ↦ elim (both.0 w) [ inl v ↦ inl (inl v) | inr v ↦ inr v ] ],
              λ s. elim s [ inl j ↦ elim j [ inl w ↦ h.1 (inr (both.1 (inl w))) | inr i ↦ h.1 (inl i) ] | inr w ↦ h.1 (inr (both.1 (inr w))) ],
            )
            )
      ]
    ]

-- no number below the first range is in one
pub in_from : (low : ℕ) (ps : List Piece) (n : ℕ) → ArePieces low ps → IsIn ps n → low ≤ n
in_from low [] n r i = absurd i
in_from low (p ∷ ps) n r i = elim i [ inl w ↦ omega (arith, r.0, w.0) | inr k ↦ let l = in_from (p.to + 1) ps n r.2 k in omega (arith, r.0, r.1) ]

-- a range that begins no earlier than the last
pub last_with : (low : ℕ) (m : Piece) (ps : List Piece) (k : ℕ) (d : Piece) → m.from < m.to → ArePieces low ps → (BeginsBeforeLast ps m → ⊥) → suc k ≡ length ps
    → ((get_or ps k d).to < m.from → with_piece m ps ≡ ps ++ m ∷ []) × (m.from ≤ (get_or ps k d).to → with_piece m ps ≡ set ps k (merged m (get_or ps k d)))
last_with low m [] k d a r b e = absurd (omega arith)
last_with low m (p ∷ []) zero d a r b e =
    (λ l. with_behind m p [] l, λ g. with_merged m p [] g (elim (cases_lt m.from p.from) [ inl l ↦ absurd (b l) | inr h ↦ omega arith ]))
last_with low m (p ∷ []) (suc k) d a r b e = absurd (omega arith)
last_with low m (p ∷ q ∷ ps) zero d a r b e = absurd (omega arith)
last_with low m (p ∷ q ∷ ps) (suc k) d a r b e =
    let h = last_with (p.to + 1) m (q ∷ ps) k d a r.2 b (omega arith) in
    let l : p.to < m.from = omega (arith, begins (p.to + 1) m (q ∷ ps) r.2 b (omega arith)) in
    (λ t. with_behind m p (q ∷ ps) l ∙ ap (λ (t : List Piece). p ∷ t) (h.0 t), λ t. with_behind m p (q ∷ ps) l ∙ ap (λ (t : List Piece). p ∷ t) (h.1 t))
  where
    begins : (low : ℕ) (m : Piece) (ps : List Piece) → ArePieces low ps → (BeginsBeforeLast ps m → ⊥) → 0 < length ps → low ≤ m.from
    begins low m [] r b l = absurd (omega arith)
    begins low m (p ∷ []) r b l = elim (cases_lt m.from p.from) [ inl h ↦ absurd (b h) | inr h ↦ omega (arith, r.0) ]
    begins low m (p ∷ q ∷ ps) r b l = let h = begins (p.to + 1) m (q ∷ ps) r.2 b (omega arith) in omega (arith, r.0, r.1)

-- the last range by its place
last_at : (ps : List Piece) (q : Piece) → slice_get ps (length ps - 1) ≡ Some q → (k : ℕ) × (suc k ≡ length ps) × (length ps - 1 ≡ k) × (get_or ps k q ≡ q)
last_at [] q e = absurd (none-some q e)
last_at (p ∷ ps) q e =
    let l : length (p ∷ ps) - 1 ≡ length ps = omega arith in
    (length ps, refl, l, get_or_from_slice_get (p ∷ ps) (length ps) q q (subst (λ (k : ℕ). slice_get (p ∷ ps) k ≡ Some q) l e))

no_last : (ps : List Piece) → slice_get ps (length ps - 1) ≡ None → ps ≡ []
no_last [] e = refl
no_last (p ∷ ps) e = let l : length (p ∷ ps) - 1 < length (p ∷ ps) = omega arith in absurd (no_gap (p ∷ ps) (length (p ∷ ps) - 1) l e)

before_at : (ps : List Piece) (m : Piece) (k : ℕ) (d : Piece) → suc k ≡ length ps → (m.from < (get_or ps k d).from) ↔ BeginsBeforeLast ps m
before_at [] m k d e = absurd (omega arith)
before_at (p ∷ []) m zero d e = (λ l. l, λ l. l)
before_at (p ∷ []) m (suc k) d e = absurd (omega arith)
before_at (p ∷ q ∷ ps) m zero d e = absurd (omega arith)
before_at (p ∷ q ∷ ps) m (suc k) d e = before_at (q ∷ ps) m k d (omega arith)

pub before_last : (ps : List Piece) (m q : Piece) → slice_get ps (length ps - 1) ≡ Some q → (m.from < q.from) ↔ BeginsBeforeLast ps m
before_last ps m q e =
    let at = last_at ps q e in
    subst (λ (t : Piece). (m.from < t.from) ↔ BeginsBeforeLast ps m) at.3 (before_at ps m at.0 q at.1)

pub before_none : (ps : List Piece) (m : Piece) → slice_get ps (length ps - 1) ≡ None → BeginsBeforeLast ps m → ⊥
before_none ps m e b = subst (λ (t : List Piece). BeginsBeforeLast t m) (no_last ps e) b

pub pushed : (m q : Piece) (ps : List Piece) → m.from < m.to → ArePieces 0 ps → (BeginsBeforeLast ps m → ⊥) → slice_get ps (length ps - 1) ≡ Some q → q.to < m.from → ps ++ m ∷ [] ≡ with_piece m ps
pushed m q ps a r b e past =
    let at = last_at ps q e in
    let l : (get_or ps at.0 q).to < m.from = subst (λ (t : Piece). t.to < m.from) (sym at.3) past in
    sym ((last_with 0 m ps at.0 q a r b at.1).0 l)

pub joined_last : (m q : Piece) (ps : List Piece) → m.from < m.to → ArePieces 0 ps → (BeginsBeforeLast ps m → ⊥) → slice_get ps (length ps - 1) ≡ Some q → m.from ≤ q.to → set ps (length ps - 1) (merged m q) ≡ with_piece m ps
joined_last m q ps a r b e le =
    let at = last_at ps q e in
    let l : m.from ≤ (get_or ps at.0 q).to = subst (λ (t : Piece). m.from ≤ t.to) (sym at.3) le in
    sym (subst (λ (t : Piece). with_piece m ps ≡ set ps (length ps - 1) (merged m t)) at.3 (subst (λ (k : ℕ). with_piece m ps ≡ set ps k (merged m (get_or ps at.0 q))) (sym at.2) ((last_with 0 m ps at.0 q a r b at.1).1 l)))

-- ranges of all numbers below the size
none_are_all : (size : ℕ) → (size ≡ 0) ↔ AreAll size []
none_are_all size = (λ e. λ n l. absurd (omega arith), λ all. elim (cases_lt 0 size) [ inl l ↦ absurd (all 0 l) | inr g ↦ omega arith ])

first_is_all : (size : ℕ) (p : Piece) (ps : List Piece) → KeepPieces size (p ∷ ps) → ((p.from ≡ 0) × (p.to ≡ size)) ↔ AreAll size (p ∷ ps)
first_is_all size p ps keep =
    let rise = keep.rise in
    let within = keep.within in (
      λ e. λ n l. inl (omega (arith, e.0), omega (arith, e.1)),
      λ all. (
        elim (all 0 (omega (arith, rise.1, within.0))) [ inl w ↦ omega (arith, w.0) | inr i ↦ let l = in_from (p.to + 1) ps 0 rise.2 i in absurd (omega arith) ],
        elim (cases_lt p.to size) [
          | inl l ↦ elim (all p.to l) [ inl w ↦ absurd (omega (arith, w.1)) | inr i ↦ let g = in_from (p.to + 1) ps p.to rise.2 i in absurd (omega arith) ]
          | inr g ↦ omega (arith, within.0)
        ],
      ),
    )

-- the first range, and whether ranges are all numbers below the size
pub first_all : (size : ℕ) (ps : List Piece) (p : Piece) → KeepPieces size ps → slice_get ps 0 ≡ Some p → ((p.from ≡ 0) × (p.to ≡ size)) ↔ AreAll size ps
first_all size [] p keep e = absurd (none-some p e)
first_all size (q ∷ ps) p keep e = subst (λ (t : Piece). ((t.from ≡ 0) × (t.to ≡ size)) ↔ AreAll size (q ∷ ps)) (same_Some q p e) (first_is_all size q ps keep)

pub none_all : (size : ℕ) (ps : List Piece) → slice_get ps 0 ≡ None → (size ≡ 0) ↔ AreAll size ps
none_all size [] e = none_are_all size
none_all size (p ∷ ps) e = absurd (none-some p (sym e))

-- the ends of rising ranges rise
ends_from : (low : ℕ) (ps : List Piece) (k : ℕ) (d : Piece) → ArePieces low ps → k < length ps → low ≤ (get_or ps k d).to
ends_from low [] k d r l = absurd (omega arith)
ends_from low (p ∷ ps) zero d r l = omega (arith, r.0, r.1)
ends_from low (p ∷ ps) (suc k) d r l = let h = ends_from (p.to + 1) ps k d r.2 (omega arith) in omega (arith, r.0, r.1)

pub ends_rise : (low : ℕ) (ps : List Piece) → ArePieces low ps → IsNonDecreasingBy (λ (p : Piece). p.to) ps
ends_rise low ps r = λ i j d le l. go low ps r i j d le l
  where
    go : (low : ℕ) (ps : List Piece) → ArePieces low ps → (i j : ℕ) (d : Piece) → i ≤ j → j < length ps → (get_or ps i d).to ≤ (get_or ps j d).to
    go low [] r i j d le l = absurd (omega arith)
    go low (p ∷ ps) r zero zero d le l = omega arith
    go low (p ∷ ps) r zero (suc j) d le l = let h = ends_from (p.to + 1) ps j d r.2 (omega arith) in omega arith
    go low (p ∷ ps) r (suc i) zero d le l = absurd (omega arith)
    go low (p ∷ ps) r (suc i) (suc j) d le l = go (p.to + 1) ps r.2 i j d (omega arith) (omega arith)

-- where a number is found among rising ranges of which the first k end at it or below, and the others above it
pub found_at : (low : ℕ) (ps : List Piece) (n k : ℕ) (d : Piece) → ArePieces low ps → k < length ps → ((i : ℕ) → i < k → (get_or ps i d).to ≤ n) → n < (get_or ps k d).to → IsIn ps n ↔ ((get_or ps k d).from ≤ n)
found_at low [] n k d r l below above = absurd (omega arith)
found_at low (p ∷ ps) n zero d r l below above = (
  λ i. elim i [ inl w ↦ w.0 | inr j ↦ let h = in_from (p.to + 1) ps n r.2 j in absurd (omega arith) ],
  λ le. inl (le, above),
)
found_at low (p ∷ ps) n (suc k) d r l below above =
    let h = found_at (p.to + 1) ps n k d r.2 (omega arith) (λ i le. below (suc i) (omega arith)) above in
    let past : p.to ≤ n = below 0 (omega arith) in (
      λ i. elim i [ inl w ↦ absurd (omega (arith, w.1)) | inr j ↦ h.0 j ],
      λ le. inr (h.1 le),
    )

-- a number of a range is in one
pub in_at : (ps : List Piece) (n k : ℕ) (d : Piece) → k < length ps → (get_or ps k d).from ≤ n → n < (get_or ps k d).to → IsIn ps n
in_at [] n k d l from to = absurd (omega arith)
in_at (p ∷ ps) n zero d l from to = inl (from, to)
in_at (p ∷ ps) n (suc k) d l from to = inr (in_at ps n k d (omega arith) from to)

-- all numbers of ranges are below a greater size
pub within_more : (size more : ℕ) (ps : List Piece) → size ≤ more → EndWithin size ps → EndWithin more ps
within_more size more [] l w = tt
within_more size more (p ∷ ps) l w = (omega (arith, w.0), within_more size more ps l w.1)

-- a number at or above all ends is in no range
pub found_nowhere : (ps : List Piece) (n : ℕ) (d : Piece) → ((i : ℕ) → i < length ps → (get_or ps i d).to ≤ n) → IsIn ps n → ⊥
found_nowhere [] n d below i = i
found_nowhere (p ∷ ps) n d below i =
    let past : p.to ≤ n = below 0 (omega arith) in
    elim i [ inl w ↦ omega (arith, w.1) | inr j ↦ found_nowhere ps n d (λ k l. below (suc k) (omega arith)) j ]

-- there are no more ranges than numbers
pub few_ranges : (low size : ℕ) (ps : List Piece) → low ≤ size → ArePieces low ps → EndWithin size ps → low + length ps ≤ size
few_ranges low size [] l r w = omega arith
few_ranges low size (p ∷ []) l r w = omega (arith, r.0, r.1, w.0)
few_ranges low size (p ∷ q ∷ ps) l r w = let h = few_ranges (p.to + 1) size (q ∷ ps) (omega (arith, r.2.0, r.2.1, w.1.0)) r.2 w.1 in omega (arith, r.0, r.1)

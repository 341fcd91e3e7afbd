-- The flags that rising ranges stand for: which are set, and how many ranges they show.
use Rattle.std.proofs.Common.{◌≡◌, ◌↔◌, ◌⊎◌, ℕ, suc, zero, ◌+◌, ◌-◌, ◌<◌, ◌≤◌, ◌^◌, Bool, true, false, List, [], ◌∷◌, ◌++◌, length, replicate, get_or, sym, subst, ◌∙◌, inl, inr, arith, refl, length-append}
use Rattle.std.proofs.lemmas.Bool.{cases_lt}
use Rattle.std.proofs.lemmas.List.{length-replicate, get_or-replicate, get_or_append_left, get_or-append_right}
use Rattle.std.proofs.Math.ListN.{get_or-eq_default}
use Rattle.braid_ids.specs.declared.piece.Piece.{Piece}
use Rattle.braid_ids.specs.MarkSets.{IsMarked, pieces_after, pieces_of}
use Rattle.braid_ids.specs.Pieces.{IsIn, ArePieces, EndWithin, AreAll, KeepPieces, with_piece, flags_in}
use Rattle.braid_ids.proofs.Ranges.{Within, within_more, rise_lower, in_from, rise_with, within_with, in_with}

pub length_flags : (low size : ℕ) (ps : List Piece) → low ≤ size → ArePieces low ps → EndWithin size ps → low + length (flags_in low size ps) ≡ size
length_flags low size [] l r w = omega (arith, length-replicate (size - low) false)
length_flags low size (p ∷ ps) l r w =
    let rest = flags_in p.to size ps in
    let h = length_flags p.to size ps w.0 (rise_lower p.to (p.to + 1) ps (omega arith) r.2) w.1 in
    omega (arith, r.0, r.1, w.0, length-append (replicate (p.from - low) false) (replicate (p.to - p.from) true ++ rest), length-append (replicate (p.to - p.from) true) rest, length-replicate (p.from - low) false, length-replicate (p.to - p.from) true)

no_mark : (k n : ℕ) → get_or (replicate k false) n false ≡ false
no_mark k n = elim (cases_lt n k) [ inl l ↦ get_or-replicate k n false false l | inr g ↦ get_or-eq_default (replicate k false) false (omega (arith, length-replicate k false)) ]

-- the number `low + n` is in a range where the flag at n is set
pub marked_in : (low size : ℕ) (ps : List Piece) (n : ℕ) → ArePieces low ps → EndWithin size ps → IsMarked (flags_in low size ps) n ↔ IsIn ps (low + n)
marked_in low size [] n r w = (λ m. let none = no_mark (size - low) n in absurd (cc), λ i. absurd i)
marked_in low size (p ∷ ps) n r w =
    let gap = replicate (p.from - low) false in
    let ones = replicate (p.to - p.from) true in
    let rest = flags_in p.to size ps in
    let short : length gap ≡ p.from - low = length-replicate (p.from - low) false in
    let long : length ones ≡ p.to - p.from = length-replicate (p.to - p.from) true in
    elim (cases_lt n (p.from - low)) [
      | inl l ↦
          let here : get_or (gap ++ (ones ++ rest)) n false ≡ false = get_or_append_left gap (ones ++ rest) false n (omega arith) ∙ no_mark (p.from - low) n in
          (λ m. absurd (cc), λ i. elim i [ inl k ↦ absurd (omega (arith, k.0)) | inr j ↦ let k = in_from (p.to + 1) ps (low + n) r.2 j in absurd (omega (arith, r.1)) ])
      | inr g ↦
          let past : get_or (gap ++ (ones ++ rest)) n false ≡ get_or (ones ++ rest) (n - (p.from - low)) false = get_or-append_right gap (ones ++ rest) (p.from - low) n false short g in
          elim (cases_lt (n - (p.from - low)) (p.to - p.from)) [
            | inl l ↦
                let here : get_or (gap ++ (ones ++ rest)) n false ≡ true = past ∙ (get_or_append_left ones rest false (n - (p.from - low)) (omega arith) ∙ get_or-replicate (p.to - p.from) (n - (p.from - low)) true false l) in
                (λ m. inl (omega (arith, r.0), omega (arith, r.0)), λ i. here)
            | inr h ↦
                let here : get_or (gap ++ (ones ++ rest)) n false ≡ get_or rest (n - (p.from - low) - (p.to - p.from)) false = past ∙ get_or-append_right ones rest (p.to - p.from) (n - (p.from - low)) false long h in
                let same : p.to + (n - (p.from - low) - (p.to - p.from)) ≡ low + n = omega (arith, r.0, r.1) in
                let more = marked_in p.to size ps (n - (p.from - low) - (p.to - p.from)) (rise_lower p.to (p.to + 1) ps (omega arith) r.2) w.1 in (
                  λ m. inr (subst (IsIn ps) same (more.0 (sym here ∙ m))),
                  λ i. elim i [ inl k ↦ absurd (omega (arith, k.1, r.0, r.1)) | inr j ↦ here ∙ more.1 (subst (IsIn ps) (sym same) j) ],
                )
          ]
    ]

pub marks_in : (size : ℕ) (ps : List Piece) (n : ℕ) → KeepPieces size ps → IsMarked (flags_in 0 size ps) n ↔ IsIn ps n
marks_in size ps n keep = let same : 0 + n ≡ n = omega arith in subst (λ (k : ℕ). IsMarked (flags_in 0 size ps) n ↔ IsIn ps k) same (marked_in 0 size ps n keep.rise keep.within)

pub size_is : (size : ℕ) (ps : List Piece) → KeepPieces size ps → length (flags_in 0 size ps) ≡ size
size_is size ps keep = let h = length_flags 0 size ps (omega arith) keep.rise keep.within in omega arith

-- what flags of one kind add to the number of ranges
pieces_gap : (k : ℕ) (flags : List Bool) → pieces_after false (replicate k false ++ flags) ≡ pieces_after false flags
pieces_gap zero flags = refl
pieces_gap (suc k) flags = let h = pieces_gap k flags in omega arith

pieces_more : (k : ℕ) (flags : List Bool) → pieces_after true (replicate k true ++ flags) ≡ pieces_after true flags
pieces_more zero flags = refl
pieces_more (suc k) flags = let h = pieces_more k flags in omega arith

pieces_ones : (k : ℕ) (flags : List Bool) → 0 < k → pieces_after false (replicate k true ++ flags) ≡ 1 + pieces_after true flags
pieces_ones zero flags l = absurd (omega arith)
pieces_ones (suc k) flags l = let h = pieces_more k flags in omega arith

pieces_behind : (k : ℕ) (flags : List Bool) → 0 < k → pieces_after true (replicate k false ++ flags) ≡ pieces_after false (replicate k false ++ flags)
pieces_behind zero flags l = absurd (omega arith)
pieces_behind (suc k) flags l = refl

-- ranges that do not touch the flag before them are as many behind either flag
pieces_apart : (low size : ℕ) (ps : List Piece) → ArePieces (low + 1) ps → pieces_after true (flags_in low size ps) ≡ pieces_after false (flags_in low size ps)
pieces_apart low size [] r = go (size - low)
  where
    go : (k : ℕ) → pieces_after true (replicate k false) ≡ pieces_after false (replicate k false)
    go zero = refl
    go (suc k) = refl
pieces_apart low size (p ∷ ps) r = pieces_behind (p.from - low) (replicate (p.to - p.from) true ++ flags_in p.to size ps) (omega (arith, r.0))

pieces_none : (k : ℕ) → pieces_after false (replicate k false) ≡ 0
pieces_none zero = refl
pieces_none (suc k) = let h = pieces_none k in omega arith

pieces_from : (low size : ℕ) (ps : List Piece) → ArePieces low ps → pieces_after false (flags_in low size ps) ≡ length ps
pieces_from low size [] r = pieces_none (size - low)
pieces_from low size (p ∷ ps) r =
    let rest = flags_in p.to size ps in
    let a = pieces_gap (p.from - low) (replicate (p.to - p.from) true ++ rest) in
    let b = pieces_ones (p.to - p.from) rest (omega (arith, r.1)) in
    let c = pieces_apart p.to size ps r.2 in
    let d = pieces_from p.to size ps (rise_lower p.to (p.to + 1) ps (omega arith) r.2) in
    omega arith

pub pieces_are : (size : ℕ) (ps : List Piece) → KeepPieces size ps → length ps ≡ pieces_of (flags_in 0 size ps)
pieces_are size ps keep = sym (pieces_from 0 size ps keep.rise)

-- what marks keep after one more range
pub added : (size : ℕ) (m : Piece) (ps qs : List Piece) → KeepPieces size ps → m.from < m.to → m.to ≤ size → qs ≡ with_piece m ps → KeepPieces size qs
added size m ps qs keep a l e = subst (KeepPieces size) (sym e) (record { rise = rise_with 0 m ps (omega arith) a keep.rise; within = within_with size m ps l keep.within; small = keep.small })

pub marks_added : (size : ℕ) (m : Piece) (ps qs : List Piece) → KeepPieces size ps → m.from < m.to → m.to ≤ size → qs ≡ with_piece m ps → (n : ℕ) → IsMarked (flags_in 0 size qs) n ↔ (IsMarked (flags_in 0 size ps) n ⊎ Within m n)
marks_added size m ps qs keep a l e n =
    let new = marks_in size qs n (added size m ps qs keep a l e) in
    let old = marks_in size ps n keep in
    let both = in_with 0 m ps n a keep.rise in (
      λ k. elim (both.0 (subst (λ (t : List Piece). IsIn t n) e (new.0 k))) [ inl i ↦ inl (old.1 i) | inr w ↦ inr w ],
      λ s. new.1 (subst (λ (t : List Piece). IsIn t n) (sym e) (both.1 (elim s [ inl k ↦ inl (old.0 k) | inr w ↦ inr w ]))),
    )

-- all numbers below the size are marked where the ranges have all
pub all_marked : (size : ℕ) (ps : List Piece) → KeepPieces size ps → AreAll size ps ↔ ((n : ℕ) → n < length (flags_in 0 size ps) → IsMarked (flags_in 0 size ps) n)
all_marked size ps keep =
    let long = size_is size ps keep in (
      λ all. λ n l. (marks_in size ps n keep).1 (all n (omega arith)),
      λ all. λ n l. (marks_in size ps n keep).0 (all n (omega arith)),
    )

-- ranges of a set of numbers below a greater size
pub keep_more : (size more : ℕ) (ps : List Piece) → size ≤ more → more < 2 ^ 32 → KeepPieces size ps → KeepPieces more ps
keep_more size more ps l small keep = record { rise = keep.rise; within = within_more size more ps l keep.within; small = small }

pub marks_kept : (size more : ℕ) (ps : List Piece) → KeepPieces size ps → KeepPieces more ps → (n : ℕ) → IsMarked (flags_in 0 more ps) n ↔ IsMarked (flags_in 0 size ps) n
marks_kept size more ps old new n =
    let a = marks_in size ps n old in
    let b = marks_in more ps n new in
    (λ m. a.1 (b.0 m), λ m. b.1 (a.0 m))

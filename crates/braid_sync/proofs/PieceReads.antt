-- One read of a piece, in the words of every source.
use Rattle.std.proofs.Common.{◌≡◌, ◌+◌, ◌-◌, ◌≤◌, ℕ, List, [], ◌∷◌, ◌++◌, Some, take, drop, refl, ap, sym, subst, ◌∙◌, append_assoc, arith}
use Rattle.std.proofs.lemmas.List.{take-append-drop, drop-drop, drop-take}
use Rattle.braid_io.specs.Outside.{Moves}
use Rattle.braid_sync.specs.Pieces.{PieceView, piece_intake}

-- a window without its first bytes
window : (n m : ℕ) (bytes : List ℕ) → n ≤ m → drop n (take m bytes) ≡ take (m - n) (drop n bytes)
window n m bytes w = let e : n + (m - n) ≡ m = omega arith in subst (λ (k : ℕ). drop n (take k bytes) ≡ take (m - n) (drop n bytes)) e (drop-take n (m - n) bytes)

-- the bytes given were the first of the window, and its others are left
pub piece_gives : (buffer : List ℕ) (at to n faults : ℕ) (buf : List ℕ) (old new : PieceView) → old.left ≡ take (to - at) (drop at buffer) → old.faults ≡ faults → n ≤ to - at → take n buf ≡ take n old.left
    → new ≡ record { left = take (to - (at + n)) (drop (at + n) buffer); faults = faults } → Moves (take n buf) (piece_intake old) (piece_intake new)
piece_gives buffer at to n faults buf old new left same few bytes is =
    let fewer : (to - at) - n ≡ to - (at + n) = omega arith in
    let rest : drop n old.left ≡ new.left =
    ap (drop n) left ∙ window n (to - at) (drop at buffer) few ∙ ap (λ (t : List ℕ). take ((to - at) - n) t) (drop-drop n at buffer) ∙ ap (λ (k : ℕ). take k (drop (at + n) buffer)) fewer ∙ sym (ap (λ (p : PieceView). p.left) is) in
    let whole : old.left ≡ take n buf ++ new.left = sym (take-append-drop n old.left) ∙ ap (λ (t : List ℕ). t ++ drop n old.left) (sym bytes) ∙ ap (λ (t : List ℕ). take n buf ++ t) rest in
    record {
      taken = refl;
      left = ap Some (ap (λ (t : List ℕ). t ++ 0 ∷ []) whole ∙ append_assoc (take n buf) new.left (0 ∷ []));
      faults = ap (λ (p : PieceView). p.faults) is ∙ sym same;
    }

-- A window of a buffer.
use Rattle.std.proofs.Common.{◌≡◌, ℕ, ◌+◌, ◌-◌, ◌≤◌, List, length, take, drop, sym, ap, ◌∙◌, arith}
use Rattle.std.proofs.lemmas.List.{drop-take, drop-drop, length-take-le}
use Rattle.std.proofs.Common.{length-drop}

-- the window without its first bytes
pub window_passed : (buffer : List ℕ) (from to count : ℕ) → from + count ≤ to → take (to - (from + count)) (drop (from + count) buffer) ≡ drop count (take (to - from) (drop from buffer))
window_passed buffer from to count w =
    let size : to - from ≡ count + (to - (from + count)) = omega arith in
    sym (ap (λ (n : ℕ). drop count (take n (drop from buffer))) size ∙ drop-take count (to - (from + count)) (drop from buffer) ∙ ap (take (to - (from + count))) (drop-drop count from buffer))

-- the number of its bytes
pub window_size : (buffer : List ℕ) (from to : ℕ) → to ≤ length buffer → length (take (to - from) (drop from buffer)) ≡ to - from
window_size buffer from to w = length-take-le (to - from) (drop from buffer) (omega (arith, length-drop from buffer))

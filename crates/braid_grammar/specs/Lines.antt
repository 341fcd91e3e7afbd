-- Lines of bytes: each goes up to and with an LF (RFC 9112, section 2.2).
use Rattle.std.specs.Prelude.{◌≡◌, ℕ, List, [], ◌∷◌, ◌++◌, ◌==◌, flat_map, if◌then◌else◌}
use Rattle.braid_ids.specs.Lists.{Lacks}

-- one line: no LF but the one at its end
pub record IsLine (line : List ℕ) : Type 0 where
  pub inside : List ℕ
  pub lacks : Lacks 10 inside
  pub ends : line ≡ inside ++ 10 ∷ []

-- lines one after the other
abbrev pub join : List (List ℕ) → List ℕ
join lines = flat_map (λ line. line) lines

-- the lines that end in the bytes, where a line had begun before them
abbrev pub lines_from : List ℕ → List ℕ → List (List ℕ)
lines_from begun [] = []
lines_from begun (b ∷ bs) = if b == 10 then (begun ++ b ∷ []) ∷ lines_from [] bs else lines_from (begun ++ b ∷ []) bs

-- the lines that end in the bytes, from the first on
abbrev pub lines_of : List ℕ → List (List ℕ)
lines_of bytes = lines_from [] bytes

-- the line that has begun in the bytes and does not end in them, where one had begun before them
abbrev pub begun_from : List ℕ → List ℕ → List ℕ
begun_from begun [] = begun
begun_from begun (b ∷ bs) = if b == 10 then begun_from [] bs else begun_from (begun ++ b ∷ []) bs

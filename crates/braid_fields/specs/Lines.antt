-- Lines: what ends them, and which are empty (after RFC 9112, section 2.2, where a LF alone ends a line too).
use Rattle.std.specs.Prelude.{◌≡◌, ℕ, ◌⊎◌, ◌==◌, ◌&&◌, Bool, false, List, [], ◌∷◌, if◌then◌else◌}

-- the end of a line: LF, with or without one CR directly before it
abbrev pub IsLineEnd : List ℕ → Type 0
IsLineEnd bytes = (bytes ≡ 10 ∷ []) ⊎ (bytes ≡ 13 ∷ 10 ∷ [])

-- whether a line is its end alone
abbrev pub is_empty_line : List ℕ → Bool
is_empty_line [] = false
is_empty_line (b ∷ []) = b == 10
is_empty_line (b ∷ c ∷ []) = (b == 13) && (c == 10)
is_empty_line (b ∷ c ∷ d ∷ bytes) = false

-- whether there is a last byte that passes the test
abbrev pub ends : (ℕ → Bool) → List ℕ → Bool
ends test [] = false
ends test (byte ∷ []) = test byte
ends test (byte ∷ other ∷ bytes) = ends test (other ∷ bytes)

-- whether the last byte is a LF
abbrev pub ends_line : List ℕ → Bool
ends_line bytes = ends (λ byte. byte == 10) bytes

-- what stands before the end of a line: its bytes up to where no more than an end is left
abbrev pub content_of : List ℕ → List ℕ
content_of [] = []
content_of (b ∷ bytes) = if is_empty_line (b ∷ bytes) then [] else b ∷ content_of bytes

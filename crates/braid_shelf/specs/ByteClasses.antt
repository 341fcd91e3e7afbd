-- Which bytes stand where in a header list (RFC 8941, section 3, and the tokens of RFC 9110, section 5.6.2).
use Rattle.std.specs.Prelude.{◌≡◌, ℕ, ◌==◌, ◌||◌, ◌&&◌, nat_le, Bool, true, false, List, [], ◌∷◌, codes}
use Rattle.std.specs.List.{AllByRecursion, list_any}

abbrev pub is_digit : ℕ → Bool
is_digit byte = nat_le 48 byte && nat_le byte 57

abbrev pub is_lower : ℕ → Bool
is_lower byte = nat_le 97 byte && nat_le byte 122

abbrev pub is_letter : ℕ → Bool
is_letter byte = is_lower byte || (nat_le 65 byte && nat_le byte 90)

-- a Token begins with a letter or `*`
abbrev pub begins_token : ℕ → Bool
begins_token byte = is_letter byte || byte == 42

-- and goes on with token characters, `:` and `/`
abbrev pub is_in_token : ℕ → Bool
is_in_token byte = is_letter byte || is_digit byte || list_any (λ mark. byte == mark) (codes "!#$%&'*+-.^_`|~:/")

-- a key begins with a small letter or `*`
abbrev pub begins_key : ℕ → Bool
begins_key byte = is_lower byte || byte == 42

-- and goes on with small letters, digits, `_`, `-`, `.` and `*`
abbrev pub is_in_key : ℕ → Bool
is_in_key byte = is_lower byte || is_digit byte || list_any (λ mark. byte == mark) (codes "_-.*")

-- a byte that a String may hold: from space to tilde
abbrev pub is_printable : ℕ → Bool
is_printable byte = nat_le 0x20 byte && nat_le byte 0x7e

-- a byte that a backslash stands before within a String: a quote or a backslash
abbrev pub is_escaped : ℕ → Bool
is_escaped byte = byte == 34 || byte == 92

abbrev pub is_space : ℕ → Bool
is_space byte = byte == 32

-- a space or a tab
abbrev pub is_blank : ℕ → Bool
is_blank byte = byte == 32 || byte == 9

-- each byte passes the test
abbrev pub Are : (ℕ → Bool) → List ℕ → Type 0
Are test bytes = AllByRecursion (λ byte. test byte ≡ true) bytes

-- the first byte, where there is one, passes the test
abbrev pub begins : (ℕ → Bool) → List ℕ → Bool
begins test [] = false
begins test (byte ∷ bytes) = test byte

-- a first byte that passes the first test, and then bytes that pass the second
abbrev pub IsWord : (ℕ → Bool) → (ℕ → Bool) → List ℕ → Type 0
IsWord first more [] = ⊥
IsWord first more (byte ∷ bytes) = (first byte ≡ true) × Are more bytes

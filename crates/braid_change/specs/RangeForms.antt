-- The form of a patch's range, `text [start:end]`, read from the left; and what keeps a value from having it.
use Rattle.std.specs.Prelude.{◌≡◌, ◌≢◌, ℕ, ◌+◌, ◌≤◌, ◌<◌, ◌^◌, ◌==◌, ◌⊎◌, Bool, true, false, not, List, [], ◌∷◌, ◌++◌, length, codes}
use Rattle.std.specs.Char.{is_ascii_digit}
use Rattle.std.specs.Str.{all_ascii_digits}
use Rattle.std.specs.Str.Parse.{digits_value}
use Rattle.std.specs.List.{list_all, take_while}
use Rattle.braid_change.specs.declared.range.RangeFault.{RangeFault}
use Rattle.braid_change.specs.declared.range.RangeFault.TheVariants.{Unit, Form, Number}

abbrev pub is_space : ℕ → Bool
is_space byte = byte == 32

abbrev pub is_other : ℕ → Bool
is_other byte = not (is_space byte)

-- the list begins with a byte that passes
abbrev pub starts : (ℕ → Bool) → List ℕ → Bool
starts p [] = false
starts p (x ∷ xs) = p x

-- one or more spaces
pub record IsGap (gap : List ℕ) : Type 0 where
  pub some : 0 < length gap
  pub spaces : list_all is_space gap ≡ true

-- 1 to 10 digits that write this number, which is below 2^32; leading zeros are fine
pub record IsNumber (digits : List ℕ) (n : ℕ) : Type 0 where
  pub some : 0 < length digits
  pub short : length digits ≤ 10
  pub decimal : all_ascii_digits digits ≡ true
  pub value : n ≡ digits_value 10 digits
  pub small : n < 2 ^ 32

-- digits that are more than 10, or write a number from 2^32 on
pub record IsTooLarge (digits : List ℕ) : Type 0 where
  pub decimal : all_ascii_digits digits ≡ true
  pub large : (10 < length digits) ⊎ (2 ^ 32 ≤ digits_value 10 digits)

-- what is left of a value after its unit and spaces
abbrev pub AfterGap : List ℕ → List ℕ → Type 0
AfterGap value rest = (gap : List ℕ) × IsGap gap × (value ≡ codes "text" ++ (gap ++ rest))

-- what is left after the bracket
abbrev pub AfterBracket : List ℕ → List ℕ → Type 0
AfterBracket value rest = AfterGap value (91 ∷ rest)

-- what is left after the start of the range
abbrev pub AfterStart : List ℕ → ℕ → List ℕ → Type 0
AfterStart value start rest = (digits : List ℕ) × IsNumber digits start × AfterBracket value (digits ++ rest)

-- what is left after the colon
abbrev pub AfterColon : List ℕ → ℕ → List ℕ → Type 0
AfterColon value start rest = AfterStart value start (58 ∷ rest)

-- what is left after the end of the range
abbrev pub AfterEnd : List ℕ → ℕ → ℕ → List ℕ → Type 0
AfterEnd value start end rest = (digits : List ℕ) × IsNumber digits end × AfterColon value start (digits ++ rest)

-- what is left after the closing bracket
abbrev pub AfterClose : List ℕ → ℕ → ℕ → List ℕ → Type 0
AfterClose value start end rest = AfterEnd value start end (93 ∷ rest)

-- the value is this range: `text`, one or more spaces, `[`, a number, `:`, a number, `]`, and nothing more
abbrev pub IsRange : List ℕ → ℕ → ℕ → Type 0
IsRange value start end = AfterClose value start end []

-- what is left where a value departs from the form: it begins with a byte that may not follow there, or is empty where more has to follow
pub data IsDeparture (value rest : List ℕ) : Type 0 where
  no_gap : value ≡ codes "text" → rest ≡ [] → IsDeparture value rest
  no_bracket : AfterGap value rest → starts is_space rest ≡ false → starts (λ b. b == 91) rest ≡ false
      → IsDeparture value rest
  no_start : AfterBracket value rest → starts is_ascii_digit rest ≡ false → IsDeparture value rest
  no_colon : (start : ℕ) → AfterStart value start rest → starts is_ascii_digit rest ≡ false
      → starts (λ b. b == 58) rest ≡ false → IsDeparture value rest
  no_end : (start : ℕ) → AfterColon value start rest → starts is_ascii_digit rest ≡ false → IsDeparture value rest
  no_close : (start end : ℕ) → AfterEnd value start end rest → starts is_ascii_digit rest ≡ false
      → starts (λ b. b == 93) rest ≡ false → IsDeparture value rest
  more : (start end : ℕ) → AfterClose value start end rest → rest ≢ [] → IsDeparture value rest

-- a number at the front of what is left is too large
abbrev pub BeginsTooLarge : List ℕ → Type 0
BeginsTooLarge rest = (digits after : List ℕ) × IsTooLarge digits × (starts is_ascii_digit after ≡ false)
    × (rest ≡ digits ++ after)

-- the fault of a value that is no range. Form has the place of the byte that departs, or the length
abbrev pub IsRangeFault : List ℕ → RangeFault → Type 0
IsRangeFault value Unit = take_while is_other value ≢ codes "text"
IsRangeFault value (Form at) = (rest : List ℕ) × IsDeparture value rest × (at + length rest ≡ length value)
IsRangeFault value Number =
    ((rest : List ℕ) × AfterBracket value rest × BeginsTooLarge rest)
    ⊎ ((start : ℕ) × (rest : List ℕ) × AfterColon value start rest × BeginsTooLarge rest)

-- the fault of bytes that do not begin with this one, at the end of a value of `len` bytes
abbrev pub IsByteFault : ℕ → ℕ → List ℕ → RangeFault → Type 0
IsByteFault byte len rest Unit = ⊥
IsByteFault byte len rest (Form at) = (starts (λ b. b == byte) rest ≡ false) × (at + length rest ≡ len)
IsByteFault byte len rest Number = ⊥

-- the fault of bytes that do not begin with a number, at the end of a value of `len` bytes
abbrev pub IsNumberFault : ℕ → List ℕ → RangeFault → Type 0
IsNumberFault len rest Unit = ⊥
IsNumberFault len rest (Form at) = (starts is_ascii_digit rest ≡ false) × (at + length rest ≡ len)
IsNumberFault len rest Number = BeginsTooLarge rest

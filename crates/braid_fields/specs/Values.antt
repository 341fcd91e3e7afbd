-- What the values of the known fields tell.
use Rattle.std.specs.Prelude.{ℕ, ◌^◌, ◌==◌, ◌&&◌, not, nat_eq, nat_le, nat_lt, Bool, List, [], ◌∷◌, drop, length, map, codes, pos, negsuc, Option, Some, None, option_and_then, bytes_eq, if◌then◌else◌}
use Rattle.std.specs.List.{list_all, take_while, starts_with}
use Rattle.std.specs.Char.{is_ascii_digit}
use Rattle.std.specs.Str.Parse.{digits_value}
use Rattle.braid_shelf.specs.declared.item.Item.{Item}
use Rattle.braid_shelf.specs.declared.item.Item.TheVariants as items
use Rattle.braid_shelf.specs.declared.member.Member.{Member}
use Rattle.braid_shelf.specs.ByteClasses.{is_digit}
use Rattle.braid_shelf.specs.Lists.{is_string, has_no_params, strings_in, SpellsList, string_member}
use Rattle.braid_shelf.specs.Reading.{Outcome, Read, Bad, Found, list_at, front_of, after}
use Rattle.braid_fields.specs.declared.range.TextRange.{TextRange}
use Rattle.braid_change.specs.RangeForms.{is_space, is_other}

-- a value that is a list of these Strings, without parameters
abbrev pub SpellsStrings : List (List ℕ) → List ℕ → Type 0
SpellsStrings strings value = SpellsList (map string_member strings) value

-- the strings of a list that was read, where each member is a String without parameters
abbrev pub strings_found : Outcome Found → Option (List (List ℕ))
strings_found (Read found rest) = if list_all is_string found.members then Some (strings_in found.members) else None
strings_found (Bad left kind) = None

-- the strings of a value that is a list of Strings without parameters
unfoldable pub strings_in_value : List ℕ → Option (List (List ℕ))
strings_in_value value = strings_found (list_at value)

-- the number of an Integer that is not negative
abbrev pub natural_of : Item → Option ℕ
natural_of (items.Int (pos n)) = Some n
natural_of (items.Int (negsuc n)) = None
natural_of (items.Str text) = None
natural_of (items.Token word) = None
natural_of (items.Bool flag) = None

-- the number of one Integer that is not negative, without parameters
abbrev pub count_in : List Member → Option ℕ
count_in [] = None
count_in (member ∷ []) = if has_no_params member.params then natural_of member.item else None
count_in (member ∷ other ∷ members) = None

-- the number of a list that was read, where it is one
abbrev pub count_found : Outcome Found → Option ℕ
count_found (Read found rest) = count_in found.members
count_found (Bad left kind) = None

-- the number of a value that is one Integer, not negative and without parameters
unfoldable pub count_in_value : List ℕ → Option ℕ
count_in_value value = count_found (list_at value)

-- whether bytes are 1 to 15 digits
abbrev pub are_length_digits : List ℕ → Bool
are_length_digits value = nat_le 1 (length value) && nat_le (length value) 15 && list_all is_digit value

-- the number of a value that is 1 to 15 digits
unfoldable pub length_in_value : List ℕ → Option ℕ
length_in_value value = if are_length_digits value then Some (digits_value 10 value) else None

-- whether the bytes up to the first space are not `text`
unfoldable pub has_other_unit : List ℕ → Bool
has_other_unit value = not (bytes_eq (take_while is_other value) (codes "text"))

-- what follows a byte at the front
abbrev pub after_byte : ℕ → List ℕ → Option (List ℕ)
after_byte byte [] = None
after_byte byte (b ∷ bytes) = if b == byte then Some bytes else None

-- what follows one or more spaces at the front
abbrev pub after_gap : List ℕ → Option (List ℕ)
after_gap bytes = if nat_lt 0 (length (front_of is_space bytes)) then Some (after is_space bytes) else None

-- what follows `text` at the front
abbrev pub after_unit : List ℕ → Option (List ℕ)
after_unit bytes = if starts_with nat_eq bytes (codes "text") then Some (drop 4 bytes) else None

-- a number and what follows it
pub record Numbered : Type 0 where
  pub number : ℕ
  pub rest : List ℕ

-- whether 1 to 10 digits write a number below 2^32
abbrev pub is_small : List ℕ → Bool
is_small digits = nat_lt 0 (length digits) && nat_le (length digits) 10 && nat_lt (digits_value 10 digits) (2 ^ 32)

-- the number that digits write, where it fits, and what follows them
abbrev pub number_from : List ℕ → List ℕ → Option Numbered
number_from digits rest = if is_small digits then Some (record { number = digits_value 10 digits; rest = rest })
    else None

-- the number at the front, and what follows its digits
abbrev pub number_at : List ℕ → Option Numbered
number_at bytes = number_from (front_of is_ascii_digit bytes) (after is_ascii_digit bytes)

-- the range, where nothing is left behind its bracket
abbrev pub nothing_behind : TextRange → List ℕ → Option TextRange
nothing_behind range [] = Some range
nothing_behind range (b ∷ bytes) = None

-- the range, from what follows the colon
abbrev pub range_from : ℕ → List ℕ → Option TextRange
range_from start bytes =
    option_and_then
    (λ (n : Numbered). option_and_then (nothing_behind (record { start = start; end = n.number }))
    (after_byte 93 n.rest)) (number_at bytes)

-- the range, from what follows the bracket
abbrev pub range_after : List ℕ → Option TextRange
range_after bytes =
    option_and_then (λ (n : Numbered). option_and_then (range_from n.number) (after_byte 58 n.rest)) (number_at bytes)

-- the range that a value is: `text`, one or more spaces, `[`, a number, `:`, a number, `]`, and nothing more
unfoldable pub range_in_value : List ℕ → Option TextRange
range_in_value value =
    option_and_then range_after (option_and_then (after_byte 91) (option_and_then after_gap (after_unit value)))

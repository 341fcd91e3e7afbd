-- Where and why a value is no header list: the first fault from the left, by its kind and place.
-- `left` counts the bytes from the place of a fault to the end of the value.
use Rattle.std.specs.Prelude.{◌≡◌, ◌≢◌, ℕ, suc, ◌+◌, ◌<◌, ◌⊎◌, ◌==◌, ◌||◌, Bool, true, false, List, [], ◌∷◌, ◌++◌, length}
use Rattle.std.specs.List.{flat_map}
use Rattle.braid_ids.specs.Identifiers.{escaped}
use Rattle.braid_shelf.specs.declared.fault.ShelfKind.{ShelfKind}
use Rattle.braid_shelf.specs.declared.fault.ShelfKind.TheVariants.{BadItem, BadKey, LongInteger, TrailingComma, MissingComma, Unclosed, NotCarried, NotString, NotCount}
use Rattle.braid_shelf.specs.declared.fault.ShelfFault.{ShelfFault}
use Rattle.braid_shelf.specs.declared.fault.ShelfFault.TheVariants as faults
use Rattle.braid_shelf.specs.declared.item.Item.{Item}
use Rattle.braid_shelf.specs.declared.item.Item.TheVariants as items
use Rattle.braid_shelf.specs.declared.param.Param.{Param}
use Rattle.braid_shelf.specs.declared.member.Member.{Member}
use Rattle.braid_shelf.specs.ByteClasses.{Are, begins, is_digit, is_space, is_blank, begins_token, is_in_token, begins_key, is_in_key, is_printable, is_escaped}
use Rattle.braid_shelf.specs.Lists.{AreDigits, SpellsItem, IsKey, kept, StandsBehind, SpellsList, is_string, AreStrings, count_member}

-- the sign of an Integer, or none
abbrev pub IsSign : List ℕ → Type 0
IsSign sign = (sign ≡ []) ⊎ (sign ≡ 45 ∷ [])

-- an item begins with `"`, `-`, a digit, a letter, `*` or `?`, and one that is not carried with `:` or `(`
abbrev pub begins_item : ℕ → Bool
begins_item byte =
    byte == 34 || byte == 45 || is_digit byte || begins_token byte || byte == 63 || byte == 58 || byte == 40

-- an item that should begin where these bytes do, and does not or breaks off
pub data IsItemFault : List ℕ → ℕ → ShelfKind → Type 0 where
  -- a String that the value ends within, at its quote
  unclosed : (text end bytes : List ℕ) → Are is_printable text → (end ≡ []) ⊎ (end ≡ 92 ∷ [])
      → bytes ≡ 34 ∷ (flat_map escaped text ++ end) → IsItemFault bytes (length bytes) Unclosed
  -- a byte that no String has, at that byte
  no_character : (text : List ℕ) (byte : ℕ) (rest bytes : List ℕ) → Are is_printable text → is_printable byte ≡ false
      → bytes ≡ 34 ∷ (flat_map escaped text ++ byte ∷ rest) → IsItemFault bytes (suc (length rest)) BadItem
  -- a `\` that is followed by neither `"` nor `\`, at the `\`
  no_escape : (text : List ℕ) (byte : ℕ) (rest bytes : List ℕ) → Are is_printable text → is_escaped byte ≡ false
      → bytes ≡ 34 ∷ (flat_map escaped text ++ 92 ∷ byte ∷ rest) → IsItemFault bytes (suc (suc (length rest))) BadItem
  -- a `-` without a digit after it, at the `-`
  no_digit : (rest : List ℕ) → begins is_digit rest ≡ false → IsItemFault (45 ∷ rest) (suc (length rest)) BadItem
  -- more than 15 digits, at the item's first byte
  long : (sign digits rest bytes : List ℕ) → IsSign sign → Are is_digit digits → 15 < length digits
      → bytes ≡ sign ++ (digits ++ rest) → IsItemFault bytes (length bytes) LongInteger
  -- a Decimal, at its first byte
  decimal : (sign digits rest bytes : List ℕ) → IsSign sign → AreDigits digits → bytes ≡ sign ++ (digits ++ 46 ∷ rest)
      → IsItemFault bytes (length bytes) NotCarried
  -- a `?` that neither 0 nor 1 follows, at the `?`
  no_boolean : (rest : List ℕ) → begins (λ byte. byte == 48 || byte == 49) rest ≡ false
      → IsItemFault (63 ∷ rest) (suc (length rest)) BadItem
  -- a Byte Sequence or an Inner List, at its first byte
  not_carried : (byte : ℕ) (rest : List ℕ) → (byte ≡ 58) ⊎ (byte ≡ 40)
      → IsItemFault (byte ∷ rest) (suc (length rest)) NotCarried
  -- any other byte, at that byte
  no_item : (byte : ℕ) (rest : List ℕ) → begins_item byte ≡ false
      → IsItemFault (byte ∷ rest) (suc (length rest)) BadItem
  -- the end of the value
  ended : IsItemFault [] 0 BadItem

-- what may follow an item: a Token goes on as long as its bytes do, and an Integer is followed by no digit and no point
abbrev pub EndsItem : Item → List ℕ → Type 0
EndsItem (items.Str text) rest = Unit {0}
EndsItem (items.Token word) rest = begins is_in_token rest ≡ false
EndsItem (items.Int number) rest = begins (λ byte. is_digit byte || byte == 46) rest ≡ false
EndsItem (items.Bool flag) rest = Unit {0}

-- bytes that begin with an item, as far as it goes, and what is left behind it
pub record TakesItem (item : Item) (bytes rest : List ℕ) : Type 0 where
  pub text : List ℕ
  pub spelled : SpellsItem item text
  pub ends : EndsItem item rest
  pub cut : bytes ≡ text ++ rest

-- likewise the value of a parameter
pub data TakesValue : Item → List ℕ → List ℕ → Type 0 where
  left_out : (rest : List ℕ) → begins (λ byte. byte == 61) rest ≡ false → TakesValue (items.Bool true) rest rest
  given : (value : Item) (bytes rest : List ℕ) → TakesItem value bytes rest → TakesValue value (61 ∷ bytes) rest

-- likewise a parameter behind its `;`
pub record TakesParam (param : Param) (bytes rest : List ℕ) : Type 0 where
  pub spaces : List ℕ
  pub value_bytes : List ℕ
  pub are_spaces : Are is_space spaces
  pub key : IsKey param.key
  pub key_ends : begins is_in_key value_bytes ≡ false
  pub value : TakesValue param.value value_bytes rest
  pub cut : bytes ≡ spaces ++ (param.key ++ value_bytes)

-- likewise parameters, in the order in which they stand, up to a byte that is no `;`
abbrev pub TakesParams : List Param → List ℕ → List ℕ → Type 0
TakesParams [] bytes rest = (bytes ≡ rest) × (begins (λ byte. byte == 59) rest ≡ false)
TakesParams (param ∷ params) bytes rest =
    (more between : List ℕ) × (bytes ≡ 59 ∷ more) × TakesParam param more between × TakesParams params between rest

-- likewise a member
pub record TakesMember (member : Member) (bytes rest : List ℕ) : Type 0 where
  pub between : List ℕ
  pub params : List Param
  pub item : TakesItem member.item bytes between
  pub params_taken : TakesParams params between rest
  pub params_kept : member.params ≡ kept params

-- a parameter behind its `;` that has no key, at the place where no key begins, or a value that is none
pub data IsParamFault : List ℕ → ℕ → ShelfKind → Type 0 where
  no_key : (spaces rest : List ℕ) → Are is_space spaces → begins is_space rest ≡ false → begins begins_key rest ≡ false
      → IsParamFault (spaces ++ rest) (length rest) BadKey
  no_value : (spaces key rest : List ℕ) (left : ℕ) (kind : ShelfKind) → Are is_space spaces → IsKey key
      → IsItemFault rest left kind → IsParamFault (spaces ++ (key ++ 61 ∷ rest)) left kind

-- parameters, of which the last has a fault
abbrev pub IsParamsFault : List Param → List ℕ → ℕ → ShelfKind → Type 0
IsParamsFault [] bytes left kind = (more : List ℕ) × (bytes ≡ 59 ∷ more) × IsParamFault more left kind
IsParamsFault (param ∷ params) bytes left kind =
    (more between : List ℕ) × (bytes ≡ 59 ∷ more) × TakesParam param more between
    × IsParamsFault params between left kind

-- a member that should begin where these bytes do: a fault within it, or in what follows it
pub data IsMemberFault : List ℕ → ℕ → ShelfKind → Type 0 where
  no_item : (bytes : List ℕ) (left : ℕ) (kind : ShelfKind) → IsItemFault bytes left kind → IsMemberFault bytes left kind
  no_params : (item : Item) (params : List Param) (bytes between : List ℕ) (left : ℕ) (kind : ShelfKind)
      → TakesItem item bytes between → IsParamsFault params between left kind → IsMemberFault bytes left kind
  -- another byte than a comma behind a member, at that byte
  no_comma : (member : Member) (blanks : List ℕ) (byte : ℕ) (rest bytes : List ℕ)
      → TakesMember member bytes (blanks ++ byte ∷ rest) → Are is_blank blanks → is_blank byte ≡ false
      → (byte == 44) ≡ false
      → IsMemberFault bytes (suc (length rest)) MissingComma
  -- a comma that no member follows, at the comma
  no_member : (member : Member) (before after bytes : List ℕ) → TakesMember member bytes (before ++ 44 ∷ after)
      → Are is_blank before → Are is_blank after → IsMemberFault bytes (suc (length after)) TrailingComma

-- what is passed over where a member is to begin: spaces at the value's beginning, spaces and tabs after a comma
abbrev pub passed_before : List Member → ℕ → Bool
passed_before [] = is_space
passed_before (member ∷ members) = is_blank

-- a value that begins with whole members, each with a comma after it, and where the next should begin the bytes
-- that are left have a fault
pub record IsListFault (value : List ℕ) (at : ℕ) (kind : ShelfKind) : Type 0 where
  pub members : List Member
  pub rest : List ℕ
  pub left : ℕ
  pub behind : StandsBehind members value rest
  pub some_left : 0 < length rest
  pub starts : begins (passed_before members) rest ≡ false
  pub fault : IsMemberFault rest left kind
  pub place : at + left ≡ length value

-- what the answer of `read_list` says of a value that is no list
abbrev pub IsShelfFault : List ℕ → ShelfFault → Type 0
IsShelfFault value (faults.Bad at kind) = IsListFault value at kind
IsShelfFault value faults.Memory = Unit {0}

-- a value whose first member that is no String without parameters begins at a place
pub record IsNotString (value : List ℕ) (at : ℕ) : Type 0 where
  pub strings : List Member
  pub member : Member
  pub rest : List ℕ
  pub after : List ℕ
  pub behind : StandsBehind strings value rest
  pub are_strings : AreStrings strings
  pub taken : TakesMember member rest after
  pub no_string : is_string member ≡ false
  pub place : at + length rest ≡ length value

-- a value that is no list of Strings without parameters: no list, or one with another member
pub data IsStringsFault : List ℕ → ℕ → ShelfKind → Type 0 where
  no_list : (value : List ℕ) (at : ℕ) (kind : ShelfKind) → IsListFault value at kind → IsStringsFault value at kind
  no_string : (value : List ℕ) (at : ℕ) (members : List Member) → SpellsList members value → IsNotString value at
      → IsStringsFault value at NotString

-- a value that is no count: no list, or another list than one Integer that is not negative, without parameters
pub data IsCountFault : List ℕ → ℕ → ShelfKind → Type 0 where
  no_list : (value : List ℕ) (at : ℕ) (kind : ShelfKind) → IsListFault value at kind → IsCountFault value at kind
  no_count : (value : List ℕ) (members : List Member) → SpellsList members value → ((number : ℕ)
      → members ≢ count_member number ∷ []) → IsCountFault value 0 NotCount

-- what the answers of `read_strings` and `read_count` say of other values
abbrev pub IsStringsShelfFault : List ℕ → ShelfFault → Type 0
IsStringsShelfFault value (faults.Bad at kind) = IsStringsFault value at kind
IsStringsShelfFault value faults.Memory = Unit {0}

abbrev pub IsCountShelfFault : List ℕ → ShelfFault → Type 0
IsCountShelfFault value (faults.Bad at kind) = IsCountFault value at kind
IsCountShelfFault value faults.Memory = Unit {0}

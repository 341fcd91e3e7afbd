-- How header lists are spelled (RFC 8941, sections 3.1 and 3.3, with Strings, Tokens, Integers and Booleans).
use Rattle.std.specs.Prelude.{◌≡◌, ℕ, ◌≤◌, Bool, true, false, ◌&&◌, List, [], ◌∷◌, ◌++◌, length, ℤ, pos, neg_ℤ, if◌then◌else◌, nat_eq}
use Rattle.std.specs.List.{fold, flat_map, AllByRecursion}
use Rattle.std.specs.Cmp.Lexicographic.{pointwise}
use Rattle.std.specs.Str.Parse.{digits_value}
use Rattle.braid_ids.specs.Identifiers.{spelled_id}
use Rattle.braid_shelf.specs.declared.item.Item.{Item}
use Rattle.braid_shelf.specs.declared.item.Item.TheVariants as items
use Rattle.braid_shelf.specs.declared.param.Param.{Param}
use Rattle.braid_shelf.specs.declared.member.Member.{Member}
use Rattle.braid_shelf.specs.ByteClasses.{Are, IsWord, is_digit, is_space, is_blank, begins_token, is_in_token, begins_key, is_in_key, is_printable}

-- the digits of an Integer: 1 to 15 of them
pub record AreDigits (digits : List ℕ) : Type 0 where
  pub some : 1 ≤ length digits
  pub few : length digits ≤ 15
  pub are_digits : Are is_digit digits

-- digits with or without a `-` before them, and the number that they write; `-0` is 0
pub data SpellsInteger : ℤ → List ℕ → Type 0 where
  natural : (digits : List ℕ) → AreDigits digits → SpellsInteger (pos (digits_value 10 digits)) digits
  signed : (digits : List ℕ) → AreDigits digits → SpellsInteger (neg_ℤ (pos (digits_value 10 digits))) (45 ∷ digits)

-- an item: characters within quotes with a `\` before each `"` and `\`, a Token, an Integer, or `?0` or `?1`
pub data SpellsItem : Item → List ℕ → Type 0 where
  string : (text : List ℕ) → Are is_printable text → SpellsItem (items.Str text) (spelled_id text)
  token : (word : List ℕ) → IsWord begins_token is_in_token word → SpellsItem (items.Token word) word
  integer : (number : ℤ) (text : List ℕ) → SpellsInteger number text → SpellsItem (items.Int number) text
  not_true : SpellsItem (items.Bool false) (63 ∷ 48 ∷ [])
  is_true : SpellsItem (items.Bool true) (63 ∷ 49 ∷ [])

-- the key of a parameter
abbrev pub IsKey : List ℕ → Type 0
IsKey key = IsWord begins_key is_in_key key

-- what follows a key: `=` and an item; a value that is left out is true
pub data SpellsValue : Item → List ℕ → Type 0 where
  left_out : SpellsValue (items.Bool true) []
  given : (value : Item) (text : List ℕ) → SpellsItem value text → SpellsValue value (61 ∷ text)

-- a parameter: `;`, spaces, its key and its value
pub record SpellsParam (param : Param) (text : List ℕ) : Type 0 where
  pub spaces : List ℕ
  pub value_text : List ℕ
  pub are_spaces : Are is_space spaces
  pub key : IsKey param.key
  pub value : SpellsValue param.value value_text
  pub spelled : text ≡ 59 ∷ (spaces ++ (param.key ++ value_text))

-- parameters, one behind the other, in the order in which they stand
abbrev pub SpellsParams : List Param → List ℕ → Type 0
SpellsParams [] text = text ≡ []
SpellsParams (param ∷ params) text = (front rest : List ℕ) × SpellsParam param front × SpellsParams params rest
    × (text ≡ front ++ rest)

-- a parameter beside others: a key that is there keeps its place and takes the later value, and a new one comes last
abbrev pub put : List Param → Param → List Param
put [] param = param ∷ []
put (first ∷ params) param =
    if pointwise nat_eq param.key first.key then record { key = first.key; value = param.value } ∷ params
    else first ∷ put params param

-- an entry of a map from keys to values, as a parameter
abbrev pub param_of : List ℕ × Item → Param
param_of entry = record { key = entry.0; value = entry.1 }

-- the parameters that count, of those that stand there
abbrev pub kept : List Param → List Param
kept params = fold put [] params

-- a member: an item, and its parameters behind it
pub record SpellsMember (member : Member) (text : List ℕ) : Type 0 where
  pub item_text : List ℕ
  pub params_text : List ℕ
  pub params : List Param
  pub item : SpellsItem member.item item_text
  pub params_spelled : SpellsParams params params_text
  pub params_kept : member.params ≡ kept params
  pub spelled : text ≡ item_text ++ params_text

-- members that others follow: each with a comma behind it, and spaces and tabs around the comma
pub record SpellsBeforeComma (member : Member) (text : List ℕ) : Type 0 where
  pub front : List ℕ
  pub before : List ℕ
  pub after : List ℕ
  pub member_spelled : SpellsMember member front
  pub before_are_blanks : Are is_blank before
  pub after_are_blanks : Are is_blank after
  pub spelled : text ≡ front ++ (before ++ 44 ∷ after)

abbrev pub SpellsFollowed : List Member → List ℕ → Type 0
SpellsFollowed [] text = text ≡ []
SpellsFollowed (member ∷ members) text = (front rest : List ℕ) × SpellsBeforeComma member front
    × SpellsFollowed members rest × (text ≡ front ++ rest)

-- bytes of a value that stand behind spaces and whole members, each with a comma after it
pub record StandsBehind (members : List Member) (value rest : List ℕ) : Type 0 where
  pub spaces : List ℕ
  pub front : List ℕ
  pub are_spaces : Are is_space spaces
  pub front_spelled : SpellsFollowed members front
  pub cut : value ≡ spaces ++ (front ++ rest)

-- the value of a header field that is a list of these members: spaces alone, or spaces, the members with a comma
-- after each but the last, and spaces and tabs
pub data SpellsList : List Member → List ℕ → Type 0 where
  empty : (value : List ℕ) → Are is_space value → SpellsList [] value
  full : (members : List Member) (last : Member) (value text end : List ℕ) → StandsBehind members value (text ++ end)
      → SpellsMember last text → Are is_blank end → SpellsList (members ++ last ∷ []) value

-- a String without parameters
abbrev pub string_member : List ℕ → Member
string_member text = record { item = items.Str text; params = [] }

abbrev pub is_string_item : Item → Bool
is_string_item (items.Str text) = true
is_string_item (items.Token word) = false
is_string_item (items.Int number) = false
is_string_item (items.Bool flag) = false

abbrev pub has_no_params : List Param → Bool
has_no_params [] = true
has_no_params (param ∷ params) = false

-- whether a member is a String without parameters
abbrev pub is_string : Member → Bool
is_string member = is_string_item member.item && has_no_params member.params

abbrev pub AreStrings : List Member → Type 0
AreStrings members = AllByRecursion (λ member. is_string member ≡ true) members

-- an Integer that is not negative, without parameters
abbrev pub count_member : ℕ → Member
count_member number = record { item = items.Int (pos number); params = [] }

-- the texts of the members that are Strings
abbrev pub text_of : Item → List (List ℕ)
text_of (items.Str text) = text ∷ []
text_of (items.Token word) = []
text_of (items.Int number) = []
text_of (items.Bool flag) = []

abbrev pub strings_in : List Member → List (List ℕ)
strings_in members = flat_map (λ member. text_of member.item) members

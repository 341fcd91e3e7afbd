-- How a header list is read from the left, up to its end or its first fault, for the contracts of the readers of
-- parts. Lemmas tie it to the spellings of `Lists` and the faults of `Faults`.
use Rattle.std.specs.Prelude.{◌≡◌, ℕ, zero, suc, ◌==◌, ◌||◌, nat_lt, Bool, true, false, List, [], ◌∷◌, ◌++◌, length, take, drop, Result, Ok, Err, Option, Some, None, if◌then◌else◌, ℤ, pos, neg_ℤ}
use Rattle.std.specs.List.{prefix_len}
use Rattle.std.specs.Str.Parse.{digits_value}
use Rattle.braid_shelf.specs.declared.fault.ShelfKind.{ShelfKind}
use Rattle.braid_shelf.specs.declared.fault.ShelfKind.TheVariants.{BadItem, BadKey, LongInteger, TrailingComma, MissingComma, Unclosed, NotCarried}
use Rattle.braid_shelf.specs.declared.fault.Stop.{Stop}
use Rattle.braid_shelf.specs.declared.fault.Stop.TheVariants as stops
use Rattle.braid_shelf.specs.declared.item.Item.{Item}
use Rattle.braid_shelf.specs.declared.item.Item.TheVariants as items
use Rattle.braid_shelf.specs.declared.param.Param.{Param}
use Rattle.braid_shelf.specs.declared.member.Member.{Member}
use Rattle.braid_shelf.specs.ByteClasses.{is_digit, is_space, is_blank, begins_token, is_in_token, begins_key, is_in_key, is_printable, is_escaped, begins}
use Rattle.braid_shelf.specs.Lists.{put, is_string}

-- what reading gives: a value and the bytes after it, or a fault at the byte from which on so many bytes are left
pub data Outcome (A : Type 0) : Type 0 where
  Read : A → List ℕ → Outcome A
  Bad : ℕ → ShelfKind → Outcome A

-- reading goes on where the first reading ended
abbrev pub then_read : {A B : Type 0} → Outcome A → (A → List ℕ → Outcome B) → Outcome B
then_read (Read x rest) next = next x rest
then_read (Bad left kind) next = Bad left kind

-- what a call returned, seen by view, is what reading gives, unless memory ran out
abbrev pub Stops : {A : Type 0} → Stop → Outcome A → Type 0
Stops (stops.Bad left kind) outcome = outcome ≡ Bad left kind
Stops stops.Memory outcome = Unit {0}

abbrev pub Gives : {X A : Type 0} → (X → A × List ℕ) → Result X Stop → Outcome A → Type 0
Gives view (Ok x) outcome = outcome ≡ Read (view x).0 (view x).1
Gives view (Err stop) outcome = Stops stop outcome

-- the front of bytes that pass a test, and what follows it
abbrev pub front_of : (ℕ → Bool) → List ℕ → List ℕ
front_of test bytes = take (prefix_len test bytes) bytes

abbrev pub after : (ℕ → Bool) → List ℕ → List ℕ
after test bytes = drop (prefix_len test bytes) bytes

-- what follows the quote of a String, at which so many bytes were left; `text` was read already
unfoldable pub string_from : ℕ → List ℕ → List ℕ → Outcome (List ℕ)
string_from quote text [] = Bad quote Unclosed
string_from quote text (b ∷ []) =
    if b == 34 then Read text [] else (if is_printable b then Bad quote Unclosed else Bad 1 BadItem)
string_from quote text (b ∷ c ∷ bytes) =
    if b == 34 then Read text (c ∷ bytes)
    else (if is_printable b then
    (if b == 92 then (if is_escaped c then string_from quote (text ++ c ∷ []) bytes
    else Bad (suc (suc (length bytes))) BadItem)
    else string_from quote (text ++ b ∷ []) (c ∷ bytes))
    else Bad (suc (suc (length bytes))) BadItem)

-- digits of an Integer at whose first byte so many bytes were left
unfoldable pub digits_at : ℕ → (ℕ → ℤ) → List ℕ → Outcome Item
digits_at first sign bytes =
    let count = prefix_len is_digit bytes in
    if count == 0 then Bad first BadItem
    else (if nat_lt 15 count then Bad first LongInteger
    else (if begins (λ b. b == 46) (drop count bytes) then Bad first NotCarried
    else Read (items.Int (sign (digits_value 10 (take count bytes)))) (drop count bytes)))

unfoldable pub integer_at : List ℕ → Outcome Item
integer_at [] = Bad 0 BadItem
integer_at (b ∷ bytes) = if b == 45 then digits_at (suc (length bytes)) (λ n. neg_ℤ (pos n)) bytes
    else digits_at (suc (length bytes)) pos (b ∷ bytes)

-- what follows the question mark of a Boolean, at which so many bytes were left
unfoldable pub boolean_from : ℕ → List ℕ → Outcome Item
boolean_from first [] = Bad first BadItem
boolean_from first (b ∷ bytes) =
    if b == 48 then Read (items.Bool false) bytes
    else (if b == 49 then Read (items.Bool true) bytes else Bad first BadItem)

-- an item, by its first byte
unfoldable pub item_at : List ℕ → Outcome Item
item_at [] = Bad 0 BadItem
item_at (b ∷ bytes) =
    if b == 34 then then_read (string_from (suc (length bytes)) [] bytes) (λ text rest. Read (items.Str text) rest)
    else (if b == 45 || is_digit b then integer_at (b ∷ bytes)
    else (if begins_token b then Read (items.Token (front_of is_in_token (b ∷ bytes))) (after is_in_token (b ∷ bytes))
    else (if b == 63 then boolean_from (suc (length bytes)) bytes
    else (if b == 58 || b == 40 then Bad (suc (length bytes)) NotCarried
    else Bad (suc (length bytes)) BadItem))))

unfoldable pub key_at : List ℕ → Outcome (List ℕ)
key_at bytes = if begins begins_key bytes then Read (front_of is_in_key bytes) (after is_in_key bytes)
    else Bad (length bytes) BadKey

-- what follows a key: an item after `=`, or nothing
unfoldable pub value_at : List ℕ → List ℕ → Outcome Param
value_at key bytes =
    if begins (λ b. b == 61) bytes
    then then_read (item_at (drop 1 bytes)) (λ value rest. Read (record { key = key; value = value }) rest)
    else Read (record { key = key; value = items.Bool true }) bytes

-- a parameter after its semicolon
unfoldable pub param_at : List ℕ → Outcome Param
param_at bytes = then_read (key_at (after is_space bytes)) value_at

-- steps, one after the other, as long as what is left passes a test; `most` is at least the number of steps
abbrev pub while_read : {S : Type 0} → (List ℕ → Bool) → (S → List ℕ → Outcome S) → ℕ → S → List ℕ → Outcome S
while_read test step zero so_far bytes = Read so_far bytes
while_read test step (suc most) so_far bytes =
    if test bytes then then_read (step so_far bytes) (while_read test step most) else Read so_far bytes

abbrev pub begins_param : List ℕ → Bool
begins_param bytes = begins (λ b. b == 59) bytes

abbrev pub param_step : List Param → List ℕ → Outcome (List Param)
param_step params bytes = then_read (param_at (drop 1 bytes)) (λ param rest. Read (put params param) rest)

-- parameters, where some were read before
unfoldable pub params_at : List Param → List ℕ → Outcome (List Param)
params_at params bytes = while_read begins_param param_step (length bytes) params bytes

unfoldable pub member_at : List ℕ → Outcome Member
member_at bytes =
    then_read (item_at bytes)
    (λ item rest. then_read (params_at [] rest) (λ params end. Read (record { item = item; params = params }) end))

-- the comma before a further member, or the end
unfoldable pub separator_at : List ℕ → Outcome (Unit {0})
separator_at [] = Read tt []
separator_at (b ∷ bytes) =
    if b == 44 then (if length (after is_blank bytes) == 0 then Bad (suc (length bytes)) TrailingComma
    else Read tt (after is_blank bytes))
    else Bad (suc (length bytes)) MissingComma

-- the members that were read, and how many bytes were left at the first of them that is no String alone
pub record Found : Type 0 where
  pub members : List Member
  pub other : Option ℕ

abbrev pub first_other : Option ℕ → ℕ → Member → Option ℕ
first_other (Some first) left member = Some first
first_other None left member = if is_string member then None else Some left

abbrev pub with_member : Found → ℕ → Member → Found
with_member found left member =
    record { members = found.members ++ member ∷ []; other = first_other found.other left member }

abbrev pub is_some_left : List ℕ → Bool
is_some_left [] = false
is_some_left (b ∷ bytes) = true

abbrev pub member_step : Found → List ℕ → Outcome Found
member_step found bytes =
    then_read (member_at bytes)
    (λ member rest. then_read (separator_at (after is_blank rest))
    (λ _ more. Read (with_member found (length bytes) member) more))

-- members, where some were read before
unfoldable pub members_at : Found → List ℕ → Outcome Found
members_at found bytes = while_read is_some_left member_step (length bytes) found bytes

abbrev pub no_members : Found
no_members = record { members = []; other = None }

-- a whole list
unfoldable pub list_at : List ℕ → Outcome Found
list_at value = members_at no_members (after is_space value)

-- Worked values, read by the definitions.
use Rattle.std.proofs.Common.{◌≡◌, [], ◌∷◌, Some, true, refl, codes, pos}
use Rattle.braid_shelf.specs.declared.fault.ShelfKind.TheVariants.{BadKey, LongInteger, MissingComma, Unclosed, NotCarried}
use Rattle.braid_shelf.specs.declared.item.Item.TheVariants as items
use Rattle.braid_shelf.specs.Reading.{Read, Bad, string_from, digits_at, integer_at, boolean_from, item_at, key_at, value_at, param_at, params_at, member_at, separator_at, members_at, list_at}

-- `a;q=1, "b\"c" ,?1`
members : list_at (codes "a;q=1, \"b\\\"c\" ,?1") ≡ Read (record {
  members = record { item = items.Token (codes "a"); params = record { key = codes "q"; value = items.Int (pos 1) } ∷ [] } ∷ record { item = items.Str (codes "b\"c"); params = [] } ∷ record { item = items.Bool true; params = [] } ∷ [];
  other = Some 17;
}) []
unfolding string_from digits_at integer_at boolean_from item_at key_at value_at param_at params_at member_at separator_at members_at list_at
members = refl

decimal : list_at (codes "1.5") ≡ Bad 3 NotCarried
unfolding digits_at integer_at item_at member_at members_at list_at
decimal = refl

missing : list_at (codes "\"a\" \"b\"") ≡ Bad 3 MissingComma
unfolding string_from item_at params_at member_at separator_at members_at list_at
missing = refl

unclosed : list_at (codes "\"a") ≡ Bad 2 Unclosed
unfolding string_from item_at member_at members_at list_at
unclosed = refl

no_key : list_at (codes "a;Q") ≡ Bad 1 BadKey
unfolding item_at key_at value_at param_at params_at member_at members_at list_at
no_key = refl

long : list_at (codes "9999999999999999") ≡ Bad 16 LongInteger
unfolding digits_at integer_at item_at member_at members_at list_at
long = refl

-- Lists of Strings.
use Rattle.std.proofs.Common.{◌≡◌, ℕ, suc, ◌-◌, ◌<◌, ◌≤◌, true, List, [], ◌∷◌, ◌++◌, length, Some, None, map, refl, sym, ap, ◌∙◌, subst, append_assoc, arith, get_or}
use Rattle.std.specs.List.{AllByRecursion}
use Rattle.std.proofs.lemmas.Bool.{and_from, le-leb}
use Rattle.std.proofs.lemmas.List.{append-nil}
use Rattle.braid_ids.specs.Identifiers.{IsIdentifier, IsPrintable, spelled_id, spelled_ids}
use Rattle.braid_shelf.specs.declared.fault.ShelfKind.TheVariants.{NotString}
use Rattle.braid_shelf.specs.declared.fault.ShelfFault.{ShelfFault}
use Rattle.braid_shelf.specs.declared.fault.ShelfFault.TheVariants as faults
use Rattle.braid_shelf.specs.declared.item.Item.{Item}
use Rattle.braid_shelf.specs.declared.item.Item.TheVariants as items
use Rattle.braid_shelf.specs.declared.param.Param.{Param}
use Rattle.braid_shelf.specs.declared.member.Member.{Member}
use Rattle.braid_shelf.specs.ByteClasses.{Are, is_printable}
use Rattle.braid_shelf.specs.Lists.{string, SpellsMember, SpellsBeforeComma, SpellsFollowed, StandsBehind, SpellsList, empty, full, is_string, AreStrings, string_member, text_of, strings_in}
use Rattle.braid_shelf.specs.Faults as kinds
use Rattle.braid_shelf.specs.Faults.{IsShelfFault, IsStringsFault, IsStringsShelfFault, IsNotString}
use Rattle.braid_shelf.specs.Stops.{IsOther}

-- members that are Strings without parameters are their texts

one_string : (item : Item) (params : List Param) → is_string (record { item = item; params = params }) ≡ true → map string_member (text_of item) ≡ record { item = item; params = params } ∷ []
one_string (items.Str text) [] h = refl
one_string (items.Str text) (param ∷ params) h = absurd cc
one_string (items.Token word) params h = absurd cc
one_string (items.Int number) params h = absurd cc
one_string (items.Bool flag) params h = absurd cc

map-append : (texts others : List (List ℕ)) → map string_member (texts ++ others) ≡ map string_member texts ++ map string_member others
map-append [] others = refl
map-append (text ∷ texts) others = ap (λ (x : List Member). string_member text ∷ x) (map-append texts others)

all_strings : (members : List Member) → AreStrings members → map string_member (strings_in members) ≡ members
all_strings [] h = refl
all_strings (member ∷ members) h =
    map-append (text_of member.item) (strings_in members)
    ∙ ap (λ (x : List Member). x ++ map string_member (strings_in members)) (one_string member.item member.params h.0)
    ∙ ap (λ (x : List Member). member ∷ x) (all_strings members h.1)

pub strings_listed : (members : List Member) (strings : List (List ℕ)) (value : List ℕ) → SpellsList members value → IsOther value members None → strings ≡ strings_in members → SpellsList (map string_member strings) value
strings_listed members strings value s h e = subst (λ (x : List Member). SpellsList x value) (sym (ap (map string_member) e ∙ all_strings members h)) s

pub strings_push : (members : List Member) (member : Member) → strings_in (members ++ member ∷ []) ≡ strings_in members ++ text_of member.item
strings_push [] member = append-nil (text_of member.item)
strings_push (first ∷ members) member = ap (λ (x : List (List ℕ)). text_of first.item ++ x) (strings_push members member) ∙ sym (append_assoc (text_of first.item) (strings_in members) (text_of member.item))

pub other_fault : (value : List ℕ) (members : List Member) (left : ℕ) → SpellsList members value → IsOther value members (Some left) → IsStringsFault value (length value - left) NotString
other_fault value members left s h =
    let place : h.0 ≡ length value - left = omega (arith, h.1) in
    kinds.no_string value (length value - left) members s (subst (IsNotString value) place h.2)

pub no_strings : (fault : ShelfFault) (value : List ℕ) → IsShelfFault value fault → IsStringsShelfFault value fault
no_strings (faults.Bad at kind) value f = kinds.no_list value at kind f
no_strings faults.Memory value f = tt

-- identifiers are spelled as a list

are_printable : (bytes : List ℕ) → ((k : ℕ) → k < length bytes → IsPrintable (get_or bytes k 0)) → Are is_printable bytes
are_printable [] h = tt
are_printable (byte ∷ bytes) h =
    let first = h 0 (omega arith) in
    (and_from _ _ (le-leb 0x20 byte first.0) (le-leb byte 0x7e first.1), are_printable bytes (λ k l. h (suc k) (omega (arith, l))))

id_member : (id : List ℕ) → IsIdentifier id → SpellsMember (string_member id) (spelled_id id)
id_member id h = record {
  item_text = spelled_id id;
  params_text = [];
  params = [];
  item = string id (are_printable id h.printable);
  params_spelled = refl;
  params_kept = refl;
  spelled = sym (append-nil (spelled_id id));
}

record Parts (id : List ℕ) (ids : List (List ℕ)) : Type 0 where
  before : List Member
  last : Member
  front : List ℕ
  text : List ℕ
  members : map string_member (id ∷ ids) ≡ before ++ last ∷ []
  followed : SpellsFollowed before front
  last_spelled : SpellsMember last text
  spelled : spelled_ids (id ∷ ids) ≡ front ++ text

parts : (id : List ℕ) (ids : List (List ℕ)) → AllByRecursion IsIdentifier (id ∷ ids) → Parts id ids
parts id [] h = record { before = []; last = string_member id; front = []; text = spelled_id id; members = refl; followed = refl; last_spelled = id_member id h.0; spelled = append-nil (spelled_id id) }
parts id (other ∷ ids) h =
    let later = parts other ids h.1 in
    let one : SpellsBeforeComma (string_member id) (spelled_id id ++ 44 ∷ 32 ∷ []) =
    record { front = spelled_id id; before = []; after = 32 ∷ []; member_spelled = id_member id h.0; before_are_blanks = tt; after_are_blanks = (refl, tt); spelled = refl } in
    record {
      before = string_member id ∷ later.before;
      last = later.last;
      front = (spelled_id id ++ 44 ∷ 32 ∷ []) ++ later.front;
      text = later.text;
      members = ap (λ (x : List Member). string_member id ∷ x) later.members;
      followed = (spelled_id id ++ 44 ∷ 32 ∷ [], later.front, one, later.followed, refl);
      last_spelled = later.last_spelled;
      spelled = ap (λ x. spelled_id id ++ 44 ∷ 32 ∷ x) later.spelled ∙ sym (append_assoc (spelled_id id) (44 ∷ 32 ∷ []) (later.front ++ later.text)) ∙ sym (append_assoc (spelled_id id ++ 44 ∷ 32 ∷ []) later.front later.text);
    }

pub ids_listed : (ids : List (List ℕ)) → AllByRecursion IsIdentifier ids → SpellsList (map string_member ids) (spelled_ids ids)
ids_listed [] h = empty [] tt
ids_listed (id ∷ ids) h =
    let p = parts id ids h in
    let behind : StandsBehind p.before (spelled_ids (id ∷ ids)) (p.text ++ []) =
    record { spaces = []; front = p.front; are_spaces = tt; front_spelled = p.followed; cut = p.spelled ∙ ap (λ x. p.front ++ x) (sym (append-nil p.text)) } in
    subst (λ (x : List Member). SpellsList x (spelled_ids (id ∷ ids))) (sym p.members) (full p.before p.last (spelled_ids (id ∷ ids)) p.text [] behind p.last_spelled tt)

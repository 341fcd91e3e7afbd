-- Whole values: what is read is what stands there.
use Rattle.std.proofs.Common.{◌≡◌, ℕ, zero, suc, ◌+◌, ◌-◌, ◌<◌, ◌≤◌, Bool, true, false, cond, List, [], ◌∷◌, ◌++◌, length, Option, Some, None, refl, sym, ap, ◌∙◌, subst, append_assoc, arith, inl, inr, length-append}
use Rattle.std.proofs.lemmas.List.{append-nil}
use Rattle.braid_shelf.specs.declared.fault.ShelfKind.{ShelfKind}
use Rattle.braid_shelf.specs.declared.fault.ShelfKind.TheVariants.{MissingComma, TrailingComma}
use Rattle.braid_shelf.specs.declared.item.Item.{Item}
use Rattle.braid_shelf.specs.declared.param.Param.{Param}
use Rattle.braid_shelf.specs.declared.member.Member.{Member}
use Rattle.std.specs.List.{flat_map}
use Rattle.braid_ids.specs.Identifiers.{escaped}
use Rattle.braid_shelf.specs.ByteClasses.{Are, begins, is_blank, is_space}
use Rattle.braid_shelf.specs.Lists.{SpellsValue, left_out, given, SpellsParam, SpellsParams, SpellsMember, SpellsBeforeComma, SpellsFollowed, StandsBehind, SpellsList, empty, full, is_string, AreStrings}
use Rattle.braid_shelf.specs.Faults as faults
use Rattle.braid_shelf.specs.Faults.{IsItemFault, TakesItem, TakesValue, TakesParam, TakesParams, IsParamFault, IsParamsFault, TakesMember, IsMemberFault, passed_before, IsListFault, IsNotString}
use Rattle.braid_shelf.specs.Stops.{IsOther}
use Rattle.braid_shelf.specs.Reading.{Outcome, Read, Bad, then_read, while_read, front_of, after, member_at, separator_at, Found, no_members, first_other, with_member, is_some_left, member_step, members_at, list_at}
use Rattle.braid_shelf.proofs.Passing.{front_passes, after_stops, front_after, length_after}
use Rattle.braid_shelf.proofs.Params.{item_less, param_less}
use Rattle.braid_shelf.proofs.Members.{IsMemberRead, member_read, member_less, nothing, comma, IsSeparatorRead, separator_read}

-- from what is taken from the front of bytes to what is spelled there

value_spelled : (value : Item) (bytes rest : List ℕ) → TakesValue value bytes rest → (text : List ℕ) × SpellsValue value text × (bytes ≡ text ++ rest)
value_spelled value bytes rest (faults.left_out whole n) = ([], left_out, refl)
value_spelled value bytes rest (faults.given item more end t) = (61 ∷ t.text, given item t.text t.spelled, ap (λ x. 61 ∷ x) t.cut)

param_spelled : (param : Param) (bytes more rest : List ℕ) → bytes ≡ 59 ∷ more → TakesParam param more rest → (text : List ℕ) × SpellsParam param text × (bytes ≡ text ++ rest)
param_spelled param bytes more rest e t =
    let v = value_spelled param.value t.value_bytes rest t.value in
    let inner : t.spaces ++ (param.key ++ t.value_bytes) ≡ (t.spaces ++ (param.key ++ v.0)) ++ rest =
    ap (λ x. t.spaces ++ (param.key ++ x)) v.2 ∙ ap (λ x. t.spaces ++ x) (sym (append_assoc param.key v.0 rest)) ∙ sym (append_assoc t.spaces (param.key ++ v.0) rest) in (
      59 ∷ (t.spaces ++ (param.key ++ v.0)),
      record { spaces = t.spaces; value_text = v.0; are_spaces = t.are_spaces; key = t.key; value = v.1; spelled = refl },
      e ∙ ap (λ x. 59 ∷ x) (t.cut ∙ inner),
    )

params_spelled : (written : List Param) (bytes rest : List ℕ) → TakesParams written bytes rest → (text : List ℕ) × SpellsParams written text × (bytes ≡ text ++ rest)
params_spelled [] bytes rest t = ([], refl, t.0)
params_spelled (param ∷ written) bytes rest t =
    let p = param_spelled param bytes t.0 t.1 t.2 t.3 in
    let ps = params_spelled written t.1 rest t.4 in
    (p.0 ++ ps.0, (p.0, ps.0, p.1, ps.1, refl), p.2 ∙ ap (λ x. p.0 ++ x) ps.2 ∙ sym (append_assoc p.0 ps.0 rest))

pub member_spelled : (member : Member) (bytes rest : List ℕ) → TakesMember member bytes rest → (text : List ℕ) × SpellsMember member text × (bytes ≡ text ++ rest)
member_spelled member bytes rest t =
    let ps = params_spelled t.params t.between rest t.params_taken in (
      t.item.text ++ ps.0,
      record { item_text = t.item.text; params_text = ps.0; params = t.params; item = t.item.spelled; params_spelled = ps.1; params_kept = t.params_kept; spelled = refl },
      t.item.cut ∙ ap (λ x. t.item.text ++ x) ps.2 ∙ sym (append_assoc t.item.text ps.0 rest),
    )

-- one member more, with its comma

followed_push : (members : List Member) (member : Member) (front text : List ℕ) → SpellsFollowed members front → SpellsBeforeComma member text → SpellsFollowed (members ++ member ∷ []) (front ++ text)
followed_push [] member front text h s = (text, [], s, refl, ap (λ x. x ++ text) h ∙ sym (append-nil text))
followed_push (first ∷ members) member front text h s =
    (h.0, h.1 ++ text, h.2, followed_push members member h.1 text h.3 s, ap (λ x. x ++ text) h.4 ∙ append_assoc h.0 h.1 text)

behind_push : (members : List Member) (member : Member) (value bytes rest before blanks more : List ℕ) → StandsBehind members value bytes → TakesMember member bytes rest → Are is_blank before → Are is_blank blanks
    → rest ≡ before ++ 44 ∷ (blanks ++ more) → StandsBehind (members ++ member ∷ []) value more
behind_push members member value bytes rest before blanks more b t h k e =
    let m = member_spelled member bytes rest t in
    let text = m.0 ++ (before ++ 44 ∷ blanks) in
    let one : SpellsBeforeComma member text = record { front = m.0; before = before; after = blanks; member_spelled = m.1; before_are_blanks = h; after_are_blanks = k; spelled = refl } in
    let inner : before ++ 44 ∷ (blanks ++ more) ≡ (before ++ 44 ∷ blanks) ++ more = sym (append_assoc before (44 ∷ blanks) more) in
    let whole : bytes ≡ text ++ more = m.2 ∙ ap (λ x. m.0 ++ x) (e ∙ inner) ∙ sym (append_assoc m.0 (before ++ 44 ∷ blanks) more) in
    record {
      spaces = b.spaces;
      front = b.front ++ text;
      are_spaces = b.are_spaces;
      front_spelled = followed_push members member b.front text b.front_spelled one;
      cut = b.cut ∙ ap (λ x. b.spaces ++ (b.front ++ x)) whole ∙ ap (λ x. b.spaces ++ x) (sym (append_assoc b.front text more));
    }

pub behind_less : (members : List Member) (value rest : List ℕ) → StandsBehind members value rest → length rest ≤ length value
behind_less members value rest b =
    let l = ap length b.cut ∙ length-append b.spaces (b.front ++ rest) in
    let k = length-append b.front rest in
    omega arith

passed_after : (members : List Member) (member : Member) → passed_before (members ++ member ∷ []) ≡ is_blank
passed_after [] member = refl
passed_after (first ∷ members) member = refl

-- a fault lies within the bytes

item_fault_within : (bytes : List ℕ) (left : ℕ) (kind : ShelfKind) → IsItemFault bytes left kind → left ≤ length bytes
item_fault_within bytes left kind (faults.unclosed text end whole h x e) = omega arith
item_fault_within bytes left kind (faults.no_character text byte rest whole h x e) = let l = ap length e in let k = length-append (flat_map escaped text) (byte ∷ rest) in omega arith
item_fault_within bytes left kind (faults.no_escape text byte rest whole h x e) = let l = ap length e in let k = length-append (flat_map escaped text) (92 ∷ byte ∷ rest) in omega arith
item_fault_within bytes left kind (faults.no_digit rest x) = omega arith
item_fault_within bytes left kind (faults.long sign digits rest whole s d l e) = omega arith
item_fault_within bytes left kind (faults.decimal sign digits rest whole s d e) = omega arith
item_fault_within bytes left kind (faults.no_boolean rest x) = omega arith
item_fault_within bytes left kind (faults.not_carried byte rest x) = omega arith
item_fault_within bytes left kind (faults.no_item byte rest x) = omega arith
item_fault_within bytes left kind faults.ended = omega arith

param_fault_within : (bytes : List ℕ) (left : ℕ) (kind : ShelfKind) → IsParamFault bytes left kind → left ≤ length bytes
param_fault_within bytes left kind (faults.no_key spaces rest h n m) = let k = length-append spaces rest in omega arith
param_fault_within bytes left kind (faults.no_value spaces key rest l c h k f) =
    let i = item_fault_within rest l c f in
    let m = length-append spaces (key ++ 61 ∷ rest) in
    let n = length-append key (61 ∷ rest) in
    omega arith

params_fault_within : (written : List Param) (bytes : List ℕ) (left : ℕ) (kind : ShelfKind) → IsParamsFault written bytes left kind → left ≤ length bytes
params_fault_within [] bytes left kind t = let h = param_fault_within t.0 left kind t.2 in let l = ap length t.1 in omega arith
params_fault_within (param ∷ written) bytes left kind t =
    let h = params_fault_within written t.1 left kind t.4 in
    let k = param_less param t.0 t.1 t.3 in
    let l = ap length t.2 in
    omega arith

pub member_fault_within : (bytes : List ℕ) (left : ℕ) (kind : ShelfKind) → IsMemberFault bytes left kind → left ≤ length bytes
member_fault_within bytes left kind (faults.no_item whole l c f) = item_fault_within whole l c f
member_fault_within bytes left kind (faults.no_params item params whole between l c t f) =
    let h = params_fault_within params between l c f in
    let k = item_less item whole between t in
    omega arith
member_fault_within bytes left kind (faults.no_comma member blanks byte rest whole t h n m) =
    let k = member_less member whole (blanks ++ byte ∷ rest) t in
    let l = length-append blanks (byte ∷ rest) in
    omega arith
member_fault_within bytes left kind (faults.no_member member before end whole t h n) =
    let k = member_less member whole (before ++ 44 ∷ end) t in
    let l = length-append before (44 ∷ end) in
    omega arith

-- the place of the first member that is no String alone

strings_push : (members : List Member) (member : Member) → AreStrings members → is_string member ≡ true → AreStrings (members ++ member ∷ [])
strings_push [] member h e = (e, tt)
strings_push (first ∷ members) member h e = (h.0, strings_push members member h.1 e)

other_push : (value : List ℕ) (members : List Member) (other : Option ℕ) (member : Member) (bytes rest : List ℕ) → StandsBehind members value bytes → TakesMember member bytes rest → IsOther value members other
    → IsOther value (members ++ member ∷ []) (first_other other (length bytes) member)
other_push value members (Some left) member bytes rest b t h = h
other_push value members None member bytes rest b t h = go (is_string member) refl
  where
    go : (p : Bool) → is_string member ≡ p → IsOther value (members ++ member ∷ []) (cond p None (Some (length bytes)))
    go true e = strings_push members member h e
    go false e =
        let l = behind_less members value bytes b in
        (length value - length bytes, omega arith, record { strings = members; member = member; rest = bytes; after = rest; behind = b; are_strings = h; taken = t; no_string = e; place = omega arith })

-- what reading a whole value gives is what stands there
abbrev pub IsListRead : List ℕ → Outcome Found → Type 0
IsListRead value (Read found rest) = (rest ≡ []) × SpellsList found.members value × IsOther value found.members found.other
IsListRead value (Bad left kind) = (at : ℕ) × (at + left ≡ length value) × IsListFault value at kind

-- where the loop of a reader stands
pub data IsAt (value : List ℕ) (found : Found) (bytes : List ℕ) : Type 0 where
  going : StandsBehind found.members value bytes → 0 < length bytes → begins (passed_before found.members) bytes ≡ false → IsOther value found.members found.other → IsAt value found bytes
  done : bytes ≡ [] → SpellsList found.members value → IsOther value found.members found.other → IsAt value found bytes

bad_member : (value : List ℕ) (members : List Member) (bytes : List ℕ) (left : ℕ) (kind : ShelfKind) → StandsBehind members value bytes → 0 < length bytes → begins (passed_before members) bytes ≡ false → IsMemberFault bytes left kind
    → (at : ℕ) × (at + left ≡ length value) × IsListFault value at kind
bad_member value members bytes left kind b s n f =
    let l = behind_less members value bytes b in
    let w = member_fault_within bytes left kind f in
    (length value - left, omega arith, record { members = members; rest = bytes; left = left; behind = b; some_left = s; starts = n; fault = f; place = omega arith })

last_member : (value : List ℕ) (members : List Member) (member : Member) (bytes rest : List ℕ) → StandsBehind members value bytes → TakesMember member bytes rest → Are is_blank rest → SpellsList (members ++ member ∷ []) value
last_member value members member bytes rest b t h =
    let m = member_spelled member bytes rest t in
    full members member value m.0 rest (subst (StandsBehind members value) m.2 b) m.1 h

after_blanks : (rest more : List ℕ) → after is_blank rest ≡ more → rest ≡ front_of is_blank rest ++ more
after_blanks rest more e = sym (front_after is_blank rest) ∙ ap (λ x. front_of is_blank rest ++ x) e

from_separator : (value : List ℕ) (found : Found) (member : Member) (bytes rest : List ℕ) (outcome : Outcome (Unit {0})) (then : List ℕ → Outcome Found)
    → StandsBehind found.members value bytes → 0 < length bytes → begins (passed_before found.members) bytes ≡ false → IsOther value found.members found.other → TakesMember member bytes rest
    → IsSeparatorRead (after is_blank rest) outcome
    → ((more : List ℕ) → IsAt value (with_member found (length bytes) member) more → length more < length bytes → IsListRead value (then more))
    → IsListRead value (then_read outcome (λ _ more. then more))
from_separator value found member bytes rest (Bad left kind) then b s n o t (inl h) later =
    bad_member value found.members bytes left kind b s n
    (let e = after_blanks rest (h.0 ∷ h.1) h.2 in
    let f : IsMemberFault bytes (suc (length h.1)) MissingComma = faults.no_comma member (front_of is_blank rest) h.0 h.1 bytes (subst (TakesMember member bytes) e t) (front_passes is_blank rest)
    (subst (λ x. begins is_blank x ≡ false) h.2 (after_stops is_blank rest)) h.3 in
    rw (h.4, h.5) f)
from_separator value found member bytes rest (Bad left kind) then b s n o t (inr h) later =
    bad_member value found.members bytes left kind b s n
    (let e = after_blanks rest (44 ∷ h.0) h.1 in
    let f : IsMemberFault bytes (suc (length h.0)) TrailingComma = faults.no_member member (front_of is_blank rest) h.0 bytes (subst (TakesMember member bytes) e t) (front_passes is_blank rest) h.2 in
    rw (h.3, h.4) f)
from_separator value found member bytes rest (Read _ more) then b s n o t (nothing e f) later =
    let blank : Are is_blank rest = subst (Are is_blank) (sym (after_blanks rest [] e ∙ append-nil (front_of is_blank rest))) (front_passes is_blank rest) in
    later more (done f (last_member value found.members member bytes rest b t blank) (other_push value found.members found.other member bytes rest b t o)) (let l = ap length f in omega arith)
from_separator value found member bytes rest (Read _ more) then b s n o t (comma blanks h e k m) later =
    let cut = after_blanks rest (44 ∷ (blanks ++ more)) e in
    let behind = behind_push found.members member value bytes rest (front_of is_blank rest) blanks more b t (front_passes is_blank rest) h cut in
    let starts = subst (λ test. begins test more ≡ false) (sym (passed_after found.members member)) m in
    let l1 = member_less member bytes rest t in
    let l2 = length_after is_blank rest in
    let l3 = ap length e in
    let l4 = length-append blanks more in
    later more (going behind k starts (other_push value found.members found.other member bytes rest b t o)) (omega arith)

from_member : (value : List ℕ) (found : Found) (bytes : List ℕ) (outcome : Outcome Member) (then : Found → List ℕ → Outcome Found)
    → StandsBehind found.members value bytes → 0 < length bytes → begins (passed_before found.members) bytes ≡ false → IsOther value found.members found.other → IsMemberRead bytes outcome
    → ((grown : Found) (more : List ℕ) → IsAt value grown more → length more < length bytes → IsListRead value (then grown more))
    → IsListRead value (then_read (then_read outcome (λ member rest. then_read (separator_at (after is_blank rest)) (λ _ more. Read (with_member found (length bytes) member) more))) then)
from_member value found bytes (Bad left kind) then b s n o f later = bad_member value found.members bytes left kind b s n f
from_member value found bytes (Read member rest) then b s n o t later =
    subst (IsListRead value) (sym (regroup (separator_at (after is_blank rest))))
    (from_separator value found member bytes rest (separator_at (after is_blank rest)) (then (with_member found (length bytes) member)) b s n o t (separator_read (after is_blank rest))
    (λ more at lt. later (with_member found (length bytes) member) more at lt))
  where
    regroup : (outcome : Outcome (Unit {0})) → then_read (then_read outcome (λ _ more. Read (with_member found (length bytes) member) more)) then ≡ then_read outcome (λ _ more. then (with_member found (length bytes) member) more)
    regroup (Read _ more) = refl
    regroup (Bad left kind) = refl

members_from : (value : List ℕ) (most : ℕ) (found : Found) (bytes : List ℕ) → length bytes ≤ most → IsAt value found bytes → IsListRead value (while_read is_some_left member_step most found bytes)
members_from value zero found bytes h (going b s n o) = absurd (omega arith)
members_from value zero found bytes h (done e l o) = (e, l, o)
members_from value (suc most) found [] h (going b s n o) = absurd (omega arith)
members_from value (suc most) found [] h (done e l o) = (e, l, o)
members_from value (suc most) found (byte ∷ bytes) h (going b s n o) =
    from_member value found (byte ∷ bytes) (member_at (byte ∷ bytes)) (while_read is_some_left member_step most) b s n o (member_read (byte ∷ bytes))
    (λ grown more at lt. members_from value most grown more (omega arith) at)
members_from value (suc most) found (byte ∷ bytes) h (done e l o) = absurd cc

starts_at : (value : List ℕ) (rest : List ℕ) → after is_space value ≡ rest → IsAt value no_members rest
starts_at value [] e = done refl (empty value (subst (Are is_space) (sym whole) (front_passes is_space value))) tt
  where
    whole : value ≡ front_of is_space value
    whole = sym (front_after is_space value) ∙ ap (λ x. front_of is_space value ++ x) e ∙ append-nil (front_of is_space value)
starts_at value (b ∷ rest) e =
    going (record { spaces = front_of is_space value; front = []; are_spaces = front_passes is_space value; front_spelled = refl; cut = sym (front_after is_space value) ∙ ap (λ x. front_of is_space value ++ x) e })
    (omega arith) (subst (λ x. begins is_space x ≡ false) e (after_stops is_space value)) tt

-- what is read of a whole value is what stands there
pub list_read : (value : List ℕ) → IsListRead value (list_at value)
unfolding list_at members_at
list_read value = members_from value (length (after is_space value)) no_members (after is_space value) (omega arith) (starts_at value (after is_space value) refl)

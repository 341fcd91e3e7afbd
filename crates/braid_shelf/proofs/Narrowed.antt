-- Laws of lists of Strings and of counts.
use Rattle.std.proofs.Common.{◌≡◌, ℕ, zero, suc, ◌<◌, false, List, [], ◌∷◌, length, Option, Some, None, map, refl, sym, ap, ◌∙◌, arith, length-append}
use Rattle.braid_shelf.specs.declared.fault.ShelfKind.{ShelfKind}
use Rattle.braid_shelf.specs.declared.item.Item.{Item}
use Rattle.braid_shelf.specs.declared.member.Member.{Member}
use Rattle.braid_shelf.specs.ByteClasses.{begins, is_blank}
use Rattle.braid_shelf.specs.Lists.{SpellsList, AreStrings, string_member, count_member}
use Rattle.braid_shelf.specs.Faults as kinds
use Rattle.braid_shelf.specs.Faults.{TakesItem, TakesMember, passed_before, IsListFault, IsNotString, IsStringsFault, IsCountFault}
use Rattle.braid_shelf.specs.Reading.{Outcome, Read, Bad, then_read, while_read, after, member_at, separator_at, Found, first_other, with_member, is_some_left, member_step, members_at, list_at}
use Rattle.braid_shelf.proofs.Apart.{item_no_blank, item_some, no_space}
use Rattle.braid_shelf.proofs.Members.{member_only, members_go_on, members_break}
use Rattle.braid_shelf.proofs.Spelled.{behind_reads, list_only}
use Rattle.braid_shelf.proofs.Decided.{one_reading, not_both, one_fault}

-- the first other member stays the first

member_keeps : (found grown : Found) (bytes more : List ℕ) (left : ℕ) → found.other ≡ Some left → member_step found bytes ≡ Read grown more → grown.other ≡ Some left
member_keeps found grown bytes more left h e = outer (member_at bytes) e
  where
    inner : (member : Member) (outcome : Outcome (Unit {0})) → then_read outcome (λ _ more. Read (with_member found (length bytes) member) more) ≡ Read grown more → grown.other ≡ Some left
    inner member (Bad l k) e = absurd cc
    inner member (Read _ m) e =
        let same : with_member found (length bytes) member ≡ grown = cc in
        ap (λ (f : Found). f.other) (sym same) ∙ ap (λ o. first_other o (length bytes) member) h

    outer : (outcome : Outcome Member) → then_read outcome (λ member rest. then_read (separator_at (after is_blank rest)) (λ _ more. Read (with_member found (length bytes) member) more)) ≡ Read grown more → grown.other ≡ Some left
    outer (Bad l k) e = absurd cc
    outer (Read member rest) e = inner member (separator_at (after is_blank rest)) e

stays : (most : ℕ) (found end : Found) (bytes rest : List ℕ) (left : ℕ) → found.other ≡ Some left → while_read is_some_left member_step most found bytes ≡ Read end rest → end.other ≡ Some left
stays zero found end bytes rest left h e = let same : found ≡ end = cc in ap (λ (f : Found). f.other) (sym same) ∙ h
stays (suc most) found end [] rest left h e = let same : found ≡ end = cc in ap (λ (f : Found). f.other) (sym same) ∙ h
stays (suc most) found end (b ∷ bytes) rest left h e = go (member_step found (b ∷ bytes)) refl e (λ grown more k f. stays most grown end more rest left k f)
  where
    go : (outcome : Outcome Found) → member_step found (b ∷ bytes) ≡ outcome → then_read outcome (while_read is_some_left member_step most) ≡ Read end rest
        → ((grown : Found) (more : List ℕ) → grown.other ≡ Some left → while_read is_some_left member_step most grown more ≡ Read end rest → end.other ≡ Some left) → end.other ≡ Some left
    go (Bad l k) f e later = absurd cc
    go (Read grown more) f e later = later grown more (member_keeps found grown (b ∷ bytes) more left h f) e

members_stay : (found end : Found) (bytes rest : List ℕ) (left : ℕ) → found.other ≡ Some left → members_at found bytes ≡ Read end rest → end.other ≡ Some left
unfolding members_at
members_stay found end bytes rest left h e = stays (length bytes) found end bytes rest left h e

item_starts : (item : Item) (bytes rest : List ℕ) → TakesItem item bytes rest → (0 < length bytes) × (begins is_blank bytes ≡ false)
item_starts item bytes rest t =
    let s = item_some item t.text t.spelled in
    let l = ap length t.cut ∙ length-append t.text rest in
    (omega arith, ap (begins is_blank) t.cut ∙ item_no_blank item t.text rest t.spelled)

passes_none : (members : List Member) (bytes : List ℕ) → begins is_blank bytes ≡ false → begins (passed_before members) bytes ≡ false
passes_none [] bytes h = no_space bytes h
passes_none (member ∷ members) bytes h = h

-- reading finds the first other member where it stands
not_string_only : (value : List ℕ) (at : ℕ) (f : IsNotString value at) (found : Found) → list_at value ≡ Read found [] → found.other ≡ Some (length f.rest)
not_string_only value at f found e =
    let starts = item_starts f.member.item f.rest f.taken.between f.taken.item in
    let reads = behind_reads f.strings value f.rest f.behind starts.0 (passes_none f.strings f.rest starts.1) in
    let before = reads.2.other_is f.are_strings refl in
    go reads.0 before starts.0 (sym reads.1 ∙ e) (separator_at (after is_blank f.after)) refl
  where
    other : (found : Found) → found.other ≡ None → (with_member found (length f.rest) f.member).other ≡ Some (length f.rest)
    other found h = rw (h, f.no_string) refl

    go : (grown : Found) → grown.other ≡ None → 0 < length f.rest → members_at grown f.rest ≡ Read found [] → (outcome : Outcome (Unit {0})) → separator_at (after is_blank f.after) ≡ outcome → found.other ≡ Some (length f.rest)
    go grown n s e (Bad left kind) h =
        let bad = members_break grown f.member f.rest f.after left kind s (member_only f.member f.rest f.after f.taken) h in
        absurd cc
    go grown n s e (Read _ more) h =
        let one = members_go_on grown f.member f.rest f.after more s (member_only f.member f.rest f.after f.taken) h in
        members_stay (with_member grown (length f.rest) f.member) found more [] (length f.rest) (other grown n) (sym one ∙ e)

pub one_other : (members : List Member) (value : List ℕ) (at also : ℕ) → SpellsList members value → IsNotString value at → IsNotString value also → at ≡ also
one_other members value at also s f g =
    let a = list_only members value s in
    let x = not_string_only value at f a.0 a.1 in
    let y = not_string_only value also g a.0 a.1 in
    let same : length f.rest ≡ length g.rest = cc in
    let p = f.place in
    let q = g.place in
    omega arith

-- members that are all Strings have no other

all_texts : (texts : List (List ℕ)) → AreStrings (map string_member texts)
all_texts [] = tt
all_texts (text ∷ texts) = (refl, all_texts texts)

none_other : (members : List Member) (value : List ℕ) (at : ℕ) → SpellsList members value → AreStrings members → IsNotString value at → ⊥
none_other members value at s h f =
    let a = list_only members value s in
    let x = not_string_only value at f a.0 a.1 in
    let n = a.3 h in
    clash a.0.other x n
  where
    clash : (other : Option ℕ) → other ≡ Some (length f.rest) → other ≡ None → ⊥
    clash other x n = cc

pub one_strings_fault : (value : List ℕ) (at also : ℕ) (kind sort : ShelfKind) → IsStringsFault value at kind → IsStringsFault value also sort → (at ≡ also) × (kind ≡ sort)
one_strings_fault value at also kind sort (kinds.no_list v a k f) (kinds.no_list w b l g) = one_fault value at also kind sort f g
one_strings_fault value at also kind sort (kinds.no_list v a k f) (kinds.no_string w b members s g) = absurd (not_both members value at kind s f)
one_strings_fault value at also kind sort (kinds.no_string v a members s f) (kinds.no_list w b l g) = absurd (not_both members value also sort s g)
one_strings_fault value at also kind sort (kinds.no_string v a members s f) (kinds.no_string w b others t g) = (one_other members value at also s f g, refl)

pub strings_not_both : (strings : List (List ℕ)) (value : List ℕ) (at : ℕ) (kind : ShelfKind) → SpellsList (map string_member strings) value → IsStringsFault value at kind → ⊥
strings_not_both strings value at kind s (kinds.no_list v a k f) = not_both (map string_member strings) value at kind s f
strings_not_both strings value at kind s (kinds.no_string v a members t f) = none_other (map string_member strings) value at s (all_texts strings) f

pub one_count_fault : (value : List ℕ) (at also : ℕ) (kind sort : ShelfKind) → IsCountFault value at kind → IsCountFault value also sort → (at ≡ also) × (kind ≡ sort)
one_count_fault value at also kind sort (kinds.no_list v a k f) (kinds.no_list w b l g) = one_fault value at also kind sort f g
one_count_fault value at also kind sort (kinds.no_list v a k f) (kinds.no_count w members s g) = absurd (not_both members value at kind s f)
one_count_fault value at also kind sort (kinds.no_count v members s f) (kinds.no_list w b l g) = absurd (not_both members value also sort s g)
one_count_fault value at also kind sort (kinds.no_count v members s f) (kinds.no_count w others t g) = (refl, refl)

pub count_not_both : (number : ℕ) (value : List ℕ) (at : ℕ) (kind : ShelfKind) → SpellsList (count_member number ∷ []) value → IsCountFault value at kind → ⊥
count_not_both number value at kind s (kinds.no_list v a k f) = not_both (count_member number ∷ []) value at kind s f
count_not_both number value at kind s (kinds.no_count v members t g) = g number (one_reading members (count_member number ∷ []) value t s)

-- Whole values: what stands there is read.
use Rattle.std.proofs.Common.{◌≡◌, ℕ, suc, ◌<◌, Bool, true, false, ◌||◌, List, [], ◌∷◌, ◌++◌, length, Option, None, refl, sym, ap, ◌∙◌, subst, append_assoc, eqb, arith, inl, inr, length-append}
use Rattle.std.proofs.lemmas.Bool.{eqb-true, or_cases}
use Rattle.std.proofs.lemmas.List.{append-nil}
use Rattle.braid_shelf.specs.declared.fault.ShelfKind.{ShelfKind}
use Rattle.braid_shelf.specs.declared.fault.ShelfKind.TheVariants.{MissingComma, TrailingComma}
use Rattle.braid_shelf.specs.declared.item.Item.{Item}
use Rattle.braid_shelf.specs.declared.item.Item.TheVariants as items
use Rattle.braid_shelf.specs.declared.param.Param.{Param}
use Rattle.braid_shelf.specs.declared.member.Member.{Member}
use Rattle.braid_shelf.specs.ByteClasses.{Are, begins, is_blank, is_space, is_digit, is_in_token, is_in_key}
use Rattle.braid_shelf.specs.Lists.{SpellsItem, SpellsValue, left_out, given, SpellsParam, SpellsParams, SpellsMember, SpellsFollowed, StandsBehind, SpellsList, empty, full, is_string, AreStrings}
use Rattle.braid_shelf.specs.Faults as faults
use Rattle.braid_shelf.specs.Faults.{EndsItem, TakesItem, TakesValue, TakesParam, TakesParams, TakesMember, IsMemberFault, passed_before, IsListFault, IsNotString}
use Rattle.braid_shelf.specs.Reading.{Read, Bad, after, separator_at, Found, no_members, first_other, with_member, members_at, list_at}
use Rattle.braid_shelf.proofs.Passing.{after_is}
use Rattle.braid_shelf.proofs.Apart.{item_no_blank, item_some, no_space}
use Rattle.braid_shelf.proofs.Members.{member_only, member_item_fault, member_params_fault, separator_end, separator_comma, separator_last, separator_none, members_go_on, members_go_wrong, members_break, members_end}

-- what follows a part of a member in a list
data Follow : List ℕ → Type 0 where
  no_more : Follow []
  space : (rest : List ℕ) → Follow (32 ∷ rest)
  tab : (rest : List ℕ) → Follow (9 ∷ rest)
  comma : (rest : List ℕ) → Follow (44 ∷ rest)
  semicolon : (rest : List ℕ) → Follow (59 ∷ rest)

not_begun : (test : ℕ → Bool) → test 32 ≡ false → test 9 ≡ false → test 44 ≡ false → test 59 ≡ false → (rest : List ℕ) → Follow rest → begins test rest ≡ false
not_begun test a b c d rest no_more = refl
not_begun test a b c d rest (space more) = a
not_begun test a b c d rest (tab more) = b
not_begun test a b c d rest (comma more) = c
not_begun test a b c d rest (semicolon more) = d

ends_item : (item : Item) (rest : List ℕ) → Follow rest → EndsItem item rest
ends_item (items.Str text) rest f = tt
ends_item (items.Token word) rest f = not_begun is_in_token refl refl refl refl rest f
ends_item (items.Int number) rest f = not_begun (λ b. is_digit b || eqb b 46) refl refl refl refl rest f
ends_item (items.Bool flag) rest f = tt

item_takes : (item : Item) (text rest : List ℕ) → SpellsItem item text → Follow rest → TakesItem item (text ++ rest) rest
item_takes item text rest s f = record { text = text; spelled = s; ends = ends_item item rest f; cut = refl }

value_takes : (value : Item) (text rest : List ℕ) → SpellsValue value text → Follow rest → TakesValue value (text ++ rest) rest
value_takes value text rest left_out f = faults.left_out rest (not_begun (λ b. eqb b 61) refl refl refl refl rest f)
value_takes value text rest (given item t s) f = faults.given item (t ++ rest) rest (item_takes item t rest s f)

key_ends : (value : Item) (text rest : List ℕ) → SpellsValue value text → Follow rest → begins is_in_key (text ++ rest) ≡ false
key_ends value text rest left_out f = not_begun is_in_key refl refl refl refl rest f
key_ends value text rest (given item t s) f = refl

param_takes : (param : Param) (text rest : List ℕ) → SpellsParam param text → Follow rest → (more : List ℕ) × (text ++ rest ≡ 59 ∷ more) × TakesParam param more rest
param_takes param text rest s f = (
  (s.spaces ++ (param.key ++ s.value_text)) ++ rest,
  ap (λ x. x ++ rest) s.spelled,
  record {
    spaces = s.spaces;
    value_bytes = s.value_text ++ rest;
    are_spaces = s.are_spaces;
    key = s.key;
    key_ends = key_ends param.value s.value_text rest s.value f;
    value = value_takes param.value s.value_text rest s.value f;
    cut = append_assoc s.spaces (param.key ++ s.value_text) rest ∙ ap (λ x. s.spaces ++ x) (append_assoc param.key s.value_text rest);
  },
)

params_follow : (written : List Param) (text rest : List ℕ) → SpellsParams written text → Follow rest → Follow (text ++ rest)
params_follow [] text rest s f = subst Follow (ap (λ x. x ++ rest) (sym s)) f
params_follow (param ∷ written) text rest s f =
    let whole : text ++ rest ≡ 59 ∷ (((s.2.spaces ++ (param.key ++ s.2.value_text)) ++ s.1) ++ rest) = ap (λ x. x ++ rest) (s.4 ∙ ap (λ x. x ++ s.1) s.2.spelled) in
    subst Follow (sym whole) (semicolon (((s.2.spaces ++ (param.key ++ s.2.value_text)) ++ s.1) ++ rest))

params_takes : (written : List Param) (text rest : List ℕ) → SpellsParams written text → Follow rest → begins (λ b. eqb b 59) rest ≡ false → TakesParams written (text ++ rest) rest
params_takes [] text rest s f n = (ap (λ x. x ++ rest) s, n)
params_takes (param ∷ written) text rest s f n =
    let p = param_takes param s.0 (s.1 ++ rest) s.2 (params_follow written s.1 rest s.3 f) in
    (p.0, s.1 ++ rest, ap (λ x. x ++ rest) s.4 ∙ append_assoc s.0 s.1 rest ∙ p.1, p.2, params_takes written s.1 rest s.3 f n)

member_takes : (member : Member) (text rest : List ℕ) → SpellsMember member text → Follow rest → begins (λ b. eqb b 59) rest ≡ false → TakesMember member (text ++ rest) rest
member_takes member text rest s f n =
    let whole : text ++ rest ≡ s.item_text ++ (s.params_text ++ rest) = ap (λ x. x ++ rest) s.spelled ∙ append_assoc s.item_text s.params_text rest in
    record {
      between = s.params_text ++ rest;
      params = s.params;
      item = subst (λ x. TakesItem member.item x (s.params_text ++ rest)) (sym whole) (item_takes member.item s.item_text (s.params_text ++ rest) s.item (params_follow s.params s.params_text rest s.params_spelled f));
      params_taken = params_takes s.params s.params_text rest s.params_spelled f n;
      params_kept = s.params_kept;
    }

member_starts : (member : Member) (text rest : List ℕ) → SpellsMember member text → (0 < length (text ++ rest)) × (begins is_blank (text ++ rest) ≡ false)
member_starts member text rest s =
    let whole : text ++ rest ≡ s.item_text ++ (s.params_text ++ rest) = ap (λ x. x ++ rest) s.spelled ∙ append_assoc s.item_text s.params_text rest in
    let some = item_some member.item s.item_text s.item in
    let l = ap length whole ∙ length-append s.item_text (s.params_text ++ rest) in
    (omega arith, ap (begins is_blank) whole ∙ item_no_blank member.item s.item_text (s.params_text ++ rest) s.item)

followed_starts : (members : List Member) (front rest : List ℕ) → SpellsFollowed members front → 0 < length rest → begins is_blank rest ≡ false → (0 < length (front ++ rest)) × (begins is_blank (front ++ rest) ≡ false)
followed_starts [] front rest s h n = let e = ap (λ x. x ++ rest) s in (subst (λ x. 0 < length x) (sym e) h, subst (λ x. begins is_blank x ≡ false) (sym e) n)
followed_starts (member ∷ members) front rest s h n =
    let whole : front ++ rest ≡ s.2.front ++ ((s.2.before ++ 44 ∷ s.2.after) ++ (s.1 ++ rest)) =
    ap (λ x. x ++ rest) s.4 ∙ append_assoc s.0 s.1 rest ∙ ap (λ x. x ++ (s.1 ++ rest)) s.2.spelled ∙ append_assoc s.2.front (s.2.before ++ 44 ∷ s.2.after) (s.1 ++ rest) in
    let m = member_starts member s.2.front ((s.2.before ++ 44 ∷ s.2.after) ++ (s.1 ++ rest)) s.2.member_spelled in
    (subst (λ x. 0 < length x) (sym whole) m.0, subst (λ x. begins is_blank x ≡ false) (sym whole) m.1)

blank_follow : (b : ℕ) (rest : List ℕ) → is_blank b ≡ true → Follow (b ∷ rest)
blank_follow b rest h = elim (or_cases (eqb b 32) (eqb b 9) h) [
  | inl e ↦ subst (λ m. Follow (m ∷ rest)) (sym (eqb-true b 32 e)) (space rest)
  | inr e ↦ subst (λ m. Follow (m ∷ rest)) (sym (eqb-true b 9 e)) (tab rest)
]

blank_no_semicolon : (b : ℕ) → is_blank b ≡ true → eqb b 59 ≡ false
blank_no_semicolon b h = elim (or_cases (eqb b 32) (eqb b 9) h) [
  | inl e ↦ rw (eqb-true b 32 e) refl
  | inr e ↦ rw (eqb-true b 9 e) refl
]

comma_follows : (blanks more : List ℕ) → Are is_blank blanks → Follow (blanks ++ 44 ∷ more) × (begins (λ b. eqb b 59) (blanks ++ 44 ∷ more) ≡ false)
comma_follows [] more h = (comma more, refl)
comma_follows (b ∷ blanks) more h = (blank_follow b (blanks ++ 44 ∷ more) h.0, blank_no_semicolon b h.0)

end_follows : (blanks : List ℕ) → Are is_blank blanks → Follow blanks × (begins (λ b. eqb b 59) blanks ≡ false)
end_follows [] h = (no_more, refl)
end_follows (b ∷ blanks) h = (blank_follow b blanks h.0, blank_no_semicolon b h.0)

-- where whole members stand, each with its comma, reading goes on behind them
pub record GoesOn (found grown : Found) (members : List Member) : Type 0 where
  pub members_are : grown.members ≡ found.members ++ members
  pub other_is : AreStrings members → found.other ≡ None → grown.other ≡ None

none_more : (other : Option ℕ) (left : ℕ) (member : Member) → is_string member ≡ true → other ≡ None → first_other other left member ≡ None
none_more other left member h e = rw (e, h) refl

followed_reads : (members : List Member) (front rest : List ℕ) (found : Found) → SpellsFollowed members front → 0 < length rest → begins is_blank rest ≡ false
    → (grown : Found) × (members_at found (front ++ rest) ≡ members_at grown rest) × GoesOn found grown members
followed_reads [] front rest found s h n = (found, ap (λ x. members_at found (x ++ rest)) s, record { members_are = sym (append-nil found.members); other_is = λ a e. e })
followed_reads (member ∷ members) front rest found s h n =
    let more = s.1 ++ rest in
    let starts = followed_starts members s.1 rest s.3 h n in
    let behind = s.2.before ++ 44 ∷ (s.2.after ++ more) in
    let whole : front ++ rest ≡ s.2.front ++ behind =
    ap (λ x. x ++ rest) s.4 ∙ append_assoc s.0 s.1 rest ∙ ap (λ x. x ++ more) s.2.spelled ∙ append_assoc s.2.front (s.2.before ++ 44 ∷ s.2.after) more ∙ ap (λ x. s.2.front ++ x) (append_assoc s.2.before (44 ∷ s.2.after) more) in
    let some = member_starts member s.2.front behind s.2.member_spelled in
    let f = comma_follows s.2.before (s.2.after ++ more) s.2.before_are_blanks in
    let t = member_takes member s.2.front behind s.2.member_spelled f.0 f.1 in
    let passed : after is_blank (s.2.after ++ more) ≡ more = after_is is_blank s.2.after more s.2.after_are_blanks starts.1 in
    let separated : separator_at (after is_blank behind) ≡ Read tt more =
    ap separator_at (after_is is_blank s.2.before (44 ∷ (s.2.after ++ more)) s.2.before_are_blanks refl)
    ∙ separator_comma (s.2.after ++ more) (subst (λ x. 0 < length x) (sym passed) starts.0) ∙ ap (λ x. Read tt x) passed in
    let one = members_go_on found member (s.2.front ++ behind) behind more some.0 (member_only member (s.2.front ++ behind) behind t) separated in
    let grown = with_member found (length (s.2.front ++ behind)) member in
    let later = followed_reads members s.1 rest grown s.3 h n in (
      later.0,
      ap (members_at found) whole ∙ one ∙ later.1,
      record {
        members_are = later.2.members_are ∙ append_assoc found.members (member ∷ []) members;
        other_is = λ a e. later.2.other_is a.1 (none_more found.other (length (s.2.front ++ behind)) member a.0 e);
      },
    )

pub behind_reads : (members : List Member) (value rest : List ℕ) → StandsBehind members value rest → 0 < length rest → begins (passed_before members) rest ≡ false
    → (found : Found) × (list_at value ≡ members_at found rest) × GoesOn no_members found members
unfolding list_at
behind_reads [] value rest b h n =
    let whole : value ≡ b.spaces ++ rest = b.cut ∙ ap (λ x. b.spaces ++ (x ++ rest)) b.front_spelled in
    (no_members, ap (members_at no_members) (ap (after is_space) whole ∙ after_is is_space b.spaces rest b.are_spaces n), record { members_are = refl; other_is = λ a e. e })
behind_reads (member ∷ members) value rest b h n =
    let starts = followed_starts (member ∷ members) b.front rest b.front_spelled h n in
    let reads = followed_reads (member ∷ members) b.front rest no_members b.front_spelled h n in
    (reads.0, ap (members_at no_members) (ap (after is_space) b.cut ∙ after_is is_space b.spaces (b.front ++ rest) b.are_spaces (no_space (b.front ++ rest) starts.1)) ∙ reads.1, reads.2)

passes_no_member : (members : List Member) (member : Member) (text rest : List ℕ) → SpellsMember member text → begins (passed_before members) (text ++ rest) ≡ false
passes_no_member [] member text rest s = no_space (text ++ rest) (member_starts member text rest s).1
passes_no_member (first ∷ members) member text rest s = (member_starts member text rest s).1

no_bytes_left : (found : Found) (value : List ℕ) → Are is_space value → list_at value ≡ Read no_members []
unfolding list_at
no_bytes_left found value h = ap (members_at no_members) (ap (after is_space) (sym (append-nil value)) ∙ after_is is_space value [] h refl) ∙ members_end no_members

strings_before : (before : List Member) (last : Member) → AreStrings (before ++ last ∷ []) → AreStrings before × (is_string last ≡ true)
strings_before [] last h = (tt, h.0)
strings_before (first ∷ before) last h = let k = strings_before before last h.1 in ((h.0, k.0), k.1)

pub list_only : (members : List Member) (value : List ℕ) → SpellsList members value → (found : Found) × (list_at value ≡ Read found []) × (found.members ≡ members) × (AreStrings members → found.other ≡ None)
list_only members value (empty spaces h) = (no_members, no_bytes_left no_members spaces h, refl, λ a. refl)
list_only members value (full before last whole text end b s h) =
    let starts = member_starts last text end s in
    let reads = behind_reads before whole (text ++ end) b starts.0 (passes_no_member before last text end s) in
    let f = end_follows end h in
    let t = member_takes last text end s f.0 f.1 in
    let nothing : after is_blank end ≡ [] = ap (after is_blank) (sym (append-nil end)) ∙ after_is is_blank end [] h refl in
    let one = members_go_on reads.0 last (text ++ end) end [] starts.0 (member_only last (text ++ end) end t) (ap separator_at nothing ∙ separator_end) in
    let grown = with_member reads.0 (length (text ++ end)) last in (
      grown,
      reads.1 ∙ one ∙ members_end grown,
      ap (λ x. x ++ last ∷ []) reads.2.members_are,
      λ a. let k = strings_before before last a in none_more reads.0.other (length (text ++ end)) last k.1 (reads.2.other_is k.0 refl),
    )

bad_member : (found : Found) (bytes : List ℕ) (left : ℕ) (kind : ShelfKind) → 0 < length bytes → IsMemberFault bytes left kind → members_at found bytes ≡ Bad left kind
bad_member found bytes left kind h (faults.no_item whole l c f) = members_go_wrong found whole l c h (member_item_fault whole l c f)
bad_member found bytes left kind h (faults.no_params item params whole between l c t f) = members_go_wrong found whole l c h (member_params_fault item params whole between l c t f)
bad_member found bytes left kind h (faults.no_comma member blanks byte rest whole t k n m) =
    members_break found member whole (blanks ++ byte ∷ rest) (suc (length rest)) MissingComma h (member_only member whole (blanks ++ byte ∷ rest) t)
    (ap separator_at (after_is is_blank blanks (byte ∷ rest) k n) ∙ separator_none byte rest m)
bad_member found bytes left kind h (faults.no_member member before end whole t k n) =
    let nothing : after is_blank end ≡ [] = ap (after is_blank) (sym (append-nil end)) ∙ after_is is_blank end [] n refl in
    members_break found member whole (before ++ 44 ∷ end) (suc (length end)) TrailingComma h (member_only member whole (before ++ 44 ∷ end) t)
    (ap separator_at (after_is is_blank before (44 ∷ end) k refl) ∙ separator_last end (ap length nothing))

pub fault_only : (value : List ℕ) (at : ℕ) (kind : ShelfKind) (f : IsListFault value at kind) → list_at value ≡ Bad f.left kind
fault_only value at kind f =
    let reads = behind_reads f.members value f.rest f.behind f.some_left f.starts in
    reads.1 ∙ bad_member reads.0 f.rest f.left kind f.some_left f.fault

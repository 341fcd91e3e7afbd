-- Members and what follows them: what is read is what stands there, and what stands there is read.
use Rattle.std.proofs.Common.{◌≡◌, ℕ, suc, ◌<◌, ◌≤◌, Bool, true, false, cond, List, [], ◌∷◌, ◌++◌, length, None, refl, sym, ap, ◌∙◌, subst, eqb, arith, inl, inr, ◌⊎◌, length-append}
use Rattle.std.proofs.lemmas.Bool.{eqb-true, eqb-false, ne_eqb}
use Rattle.std.proofs.lemmas.List.{nil_from_length, append-nil}
use Rattle.braid_shelf.specs.declared.fault.ShelfKind.{ShelfKind}
use Rattle.braid_shelf.specs.declared.fault.ShelfKind.TheVariants.{MissingComma, TrailingComma}
use Rattle.braid_shelf.specs.declared.fault.Stop.{Stop}
use Rattle.braid_shelf.specs.declared.fault.Stop.TheVariants as stops
use Rattle.braid_shelf.specs.declared.item.Item.{Item}
use Rattle.braid_shelf.specs.declared.param.Param.{Param}
use Rattle.braid_shelf.specs.declared.member.Member.{Member}
use Rattle.braid_shelf.specs.ByteClasses.{Are, begins, is_blank}
use Rattle.braid_shelf.specs.Faults.{IsItemFault, TakesItem, IsParamsFault, TakesMember, IsMemberFault, no_item, no_params}
use Rattle.braid_shelf.specs.Reading.{Outcome, Read, Bad, Stops, then_read, front_of, after, item_at, params_at, member_at, separator_at, Found, with_member, is_some_left, member_step, members_at}
use Rattle.braid_shelf.proofs.Passing.{front_passes, after_stops, front_after, length_after}
use Rattle.braid_shelf.proofs.Loops.{Shrinks, steps_on, steps_badly}
use Rattle.braid_shelf.proofs.Items.{IsItemRead, item_read, item_only, item_fault_only}
use Rattle.braid_shelf.proofs.Params.{IsParamsRead, params_read, params_only, params_fault_only, item_less, params_less}

-- what reading a member gives is what stands there
abbrev pub IsMemberRead : List ℕ → Outcome Member → Type 0
IsMemberRead bytes (Read member rest) = TakesMember member bytes rest
IsMemberRead bytes (Bad left kind) = IsMemberFault bytes left kind

with_params : (item : Item) (bytes between : List ℕ) → TakesItem item bytes between → (outcome : Outcome (List Param)) → IsParamsRead [] between outcome
    → IsMemberRead bytes (then_read outcome (λ params end. Read (record { item = item; params = params }) end))
with_params item bytes between t (Read params rest) h = record { between = between; params = h.0; item = t; params_taken = h.2; params_kept = h.1 }
with_params item bytes between t (Bad left kind) h = no_params item h.0 bytes between left kind t h.1

with_item : (bytes : List ℕ) (outcome : Outcome Item) → IsItemRead bytes outcome
    → IsMemberRead bytes (then_read outcome (λ item rest. then_read (params_at [] rest) (λ params end. Read (record { item = item; params = params }) end)))
with_item bytes (Read item between) t = with_params item bytes between t (params_at [] between) (params_read [] between)
with_item bytes (Bad left kind) f = no_item bytes left kind f

pub member_read : (bytes : List ℕ) → IsMemberRead bytes (member_at bytes)
unfolding member_at
member_read bytes = with_item bytes (item_at bytes) (item_read bytes)

after_item : (item : Item) (bytes between : List ℕ) → TakesItem item bytes between → member_at bytes ≡ then_read (params_at [] between) (λ params end. Read (record { item = item; params = params }) end)
unfolding member_at
after_item item bytes between t = ap (λ o. then_read o (λ item rest. then_read (params_at [] rest) (λ params end. Read (record { item = item; params = params }) end))) (item_only item bytes between t)

pub member_only : (member : Member) (bytes rest : List ℕ) → TakesMember member bytes rest → member_at bytes ≡ Read member rest
member_only member bytes rest t =
    after_item member.item bytes t.between t.item
    ∙ ap (λ o. then_read o (λ params end. Read (record { item = member.item; params = params }) end)) (params_only t.params [] t.between rest t.params_taken)
    ∙ ap (λ params. Read (record { item = member.item; params = params }) rest) (sym t.params_kept)

pub member_less : (member : Member) (bytes rest : List ℕ) → TakesMember member bytes rest → length rest ≤ length bytes
member_less member bytes rest t =
    let h = item_less member.item bytes t.between t.item in
    let k = params_less t.params t.between rest t.params_taken in
    omega arith

-- what follows a member

pub separator_end : separator_at [] ≡ Read tt []
unfolding separator_at
separator_end = refl

pub separator_comma : (more : List ℕ) → 0 < length (after is_blank more) → separator_at (44 ∷ more) ≡ Read tt (after is_blank more)
unfolding separator_at
separator_comma more h = rw (ne_eqb (length (after is_blank more)) 0 (λ z. omega (arith, z))) refl

pub separator_last : (more : List ℕ) → length (after is_blank more) ≡ 0 → separator_at (44 ∷ more) ≡ Bad (suc (length more)) TrailingComma
unfolding separator_at
separator_last more h = rw h refl

pub separator_none : (b : ℕ) (more : List ℕ) → eqb b 44 ≡ false → separator_at (b ∷ more) ≡ Bad (suc (length more)) MissingComma
unfolding separator_at
separator_none b more h = rw h refl

-- what follows a member where the blanks behind it are passed: nothing, or a comma and more behind blanks
pub data Follows (bytes more : List ℕ) : Type 0 where
  nothing : bytes ≡ [] → more ≡ [] → Follows bytes more
  comma : (blanks : List ℕ) → Are is_blank blanks → bytes ≡ 44 ∷ (blanks ++ more) → 0 < length more → begins is_blank more ≡ false → Follows bytes more

abbrev pub IsSeparatorRead : List ℕ → Outcome (Unit {0}) → Type 0
IsSeparatorRead bytes (Read _ more) = Follows bytes more
IsSeparatorRead bytes (Bad left kind) =
    ((b : ℕ) × (rest : List ℕ) × (bytes ≡ b ∷ rest) × (eqb b 44 ≡ false) × (left ≡ suc (length rest)) × (kind ≡ MissingComma))
    ⊎ ((rest : List ℕ) × (bytes ≡ 44 ∷ rest) × Are is_blank rest × (left ≡ suc (length rest)) × (kind ≡ TrailingComma))

pub separator_read : (bytes : List ℕ) → IsSeparatorRead bytes (separator_at bytes)
unfolding separator_at
separator_read [] = nothing refl refl
separator_read (b ∷ bytes) = go (eqb b 44) (eqb (length (after is_blank bytes)) 0) refl refl
  where
    all_blank : length (after is_blank bytes) ≡ 0 → Are is_blank bytes
    all_blank e =
        let nil : after is_blank bytes ≡ [] = nil_from_length (after is_blank bytes) e in
        let whole : front_of is_blank bytes ≡ bytes = sym (append-nil (front_of is_blank bytes)) ∙ ap (λ x. front_of is_blank bytes ++ x) (sym nil) ∙ front_after is_blank bytes in
        subst (Are is_blank) whole (front_passes is_blank bytes)

    go : (p q : Bool) → eqb b 44 ≡ p → eqb (length (after is_blank bytes)) 0 ≡ q
        → IsSeparatorRead (b ∷ bytes) (cond p (cond q (Bad (suc (length bytes)) TrailingComma) (Read tt (after is_blank bytes))) (Bad (suc (length bytes)) MissingComma))
    go true true x y = inr (bytes, ap (λ m. m ∷ bytes) (eqb-true b 44 x), all_blank (eqb-true _ 0 y), refl, refl)
    go true false x y =
        let some = eqb-false (length (after is_blank bytes)) 0 y in
        comma (front_of is_blank bytes) (front_passes is_blank bytes) (ap (λ m. m ∷ bytes) (eqb-true b 44 x) ∙ ap (λ m. 44 ∷ m) (sym (front_after is_blank bytes))) (omega (arith, some)) (after_stops is_blank bytes)
    go false q x y = inl (b, bytes, refl, x, refl, refl)

follows_less : (bytes more : List ℕ) → Follows bytes more → (more ≡ []) ⊎ (length more < length bytes)
follows_less bytes more (nothing e f) = inl f
follows_less bytes more (comma blanks h e s n) = inr (let l = ap length e in let k = length-append blanks more in omega arith)

-- members, one behind the other

step_takes : (found grown : Found) (bytes rest : List ℕ) (outcome : Outcome Member) (between : Outcome (Unit {0})) → IsMemberRead bytes outcome → 0 < length bytes
    → ((member : Member) (behind : List ℕ) → outcome ≡ Read member behind → IsSeparatorRead (after is_blank behind) (separator_at (after is_blank behind)))
    → then_read outcome (λ member behind. then_read (separator_at (after is_blank behind)) (λ _ more. Read (with_member found (length bytes) member) more)) ≡ Read grown rest → length rest < length bytes
step_takes found grown bytes rest (Bad left kind) between h s f e = absurd cc
step_takes found grown bytes rest (Read member behind) between h s f e = go (separator_at (after is_blank behind)) (f member behind refl) e
  where
    go : (o : Outcome (Unit {0})) → IsSeparatorRead (after is_blank behind) o → then_read o (λ _ more. Read (with_member found (length bytes) member) more) ≡ Read grown rest → length rest < length bytes
    go (Bad left kind) g e = absurd cc
    go (Read _ more) g e =
        let same : more ≡ rest = cc in
        let k = member_less member bytes behind h in
        let l = length_after is_blank behind in
        let lt : length more < length bytes = elim (follows_less (after is_blank behind) more g) [ inl z ↦ (let n = ap length z in omega arith) | inr z ↦ omega arith ] in
        subst (λ x. length x < length bytes) same lt

pub members_shrink : Shrinks is_some_left member_step
members_shrink = record { empty = refl; takes = takes }
  where
    takes : (s t : Found) (bytes rest : List ℕ) → is_some_left bytes ≡ true → member_step s bytes ≡ Read t rest → length rest < length bytes
    takes s t [] rest e f = absurd cc
    takes s t (b ∷ bytes) rest e f =
        step_takes s t (b ∷ bytes) rest (member_at (b ∷ bytes)) (Read tt []) (member_read (b ∷ bytes)) (omega arith) (λ member behind x. separator_read (after is_blank behind)) f

some_left : (bytes : List ℕ) → 0 < length bytes → is_some_left bytes ≡ true
some_left [] h = absurd (omega arith)
some_left (b ∷ bytes) h = refl

pub members_go_on : (found : Found) (member : Member) (bytes behind more : List ℕ) → 0 < length bytes → member_at bytes ≡ Read member behind → separator_at (after is_blank behind) ≡ Read tt more
    → members_at found bytes ≡ members_at (with_member found (length bytes) member) more
unfolding members_at
members_go_on found member bytes behind more h e f =
    steps_on is_some_left member_step members_shrink found (with_member found (length bytes) member) bytes more (some_left bytes h)
    (ap (λ o. then_read o (λ member rest. then_read (separator_at (after is_blank rest)) (λ _ more. Read (with_member found (length bytes) member) more))) e
    ∙ ap (λ o. then_read o (λ _ more. Read (with_member found (length bytes) member) more)) f)

pub members_go_wrong : (found : Found) (bytes : List ℕ) (left : ℕ) (kind : ShelfKind) → 0 < length bytes → member_at bytes ≡ Bad left kind → members_at found bytes ≡ Bad left kind
unfolding members_at
members_go_wrong found bytes left kind h e =
    steps_badly is_some_left member_step members_shrink found bytes left kind (some_left bytes h)
    (ap (λ o. then_read o (λ member rest. then_read (separator_at (after is_blank rest)) (λ _ more. Read (with_member found (length bytes) member) more))) e)

pub members_break : (found : Found) (member : Member) (bytes behind : List ℕ) (left : ℕ) (kind : ShelfKind) → 0 < length bytes → member_at bytes ≡ Read member behind → separator_at (after is_blank behind) ≡ Bad left kind
    → members_at found bytes ≡ Bad left kind
unfolding members_at
members_break found member bytes behind left kind h e f =
    steps_badly is_some_left member_step members_shrink found bytes left kind (some_left bytes h)
    (ap (λ o. then_read o (λ member rest. then_read (separator_at (after is_blank rest)) (λ _ more. Read (with_member found (length bytes) member) more))) e
    ∙ ap (λ o. then_read o (λ _ more. Read (with_member found (length bytes) member) more)) f)

pub members_end : (found : Found) → members_at found [] ≡ Read found []
unfolding members_at
members_end found = refl

-- the loop of a reader goes on, stops at a member, and stops behind one
pub loop_less : (member : Member) (bytes behind more : List ℕ) → 0 < length bytes → member_at bytes ≡ Read member behind → separator_at (after is_blank behind) ≡ Read tt more → length more < length bytes
loop_less member bytes behind more h e f =
    step_takes (record { members = []; other = None }) (with_member (record { members = []; other = None }) (length bytes) member) bytes more (member_at bytes) (Read tt []) (member_read bytes) h (λ m b x. separator_read (after is_blank b))
    (ap (λ o. then_read o (λ member rest. then_read (separator_at (after is_blank rest)) (λ _ more. Read (with_member (record { members = []; other = None }) (length bytes) member) more))) e
    ∙ ap (λ o. then_read o (λ _ more. Read (with_member (record { members = []; other = None }) (length bytes) member) more)) f)

pub member_stops : (stop : Stop) (found : Found) (bytes : List ℕ) (whole : Outcome Found) → 0 < length bytes → Stops stop (member_at bytes) → members_at found bytes ≡ whole → Stops stop whole
member_stops (stops.Bad left kind) found bytes whole h e so_far = sym so_far ∙ members_go_wrong found bytes left kind h e
member_stops stops.Memory found bytes whole h e so_far = tt

pub separator_stops : (stop : Stop) (found : Found) (member : Member) (bytes behind : List ℕ) (whole : Outcome Found) → 0 < length bytes → member_at bytes ≡ Read member behind → Stops stop (separator_at (after is_blank behind)) → members_at found bytes ≡ whole → Stops stop whole
separator_stops (stops.Bad left kind) found member bytes behind whole h e f so_far = sym so_far ∙ members_break found member bytes behind left kind h e f
separator_stops stops.Memory found member bytes behind whole h e f so_far = tt

-- a fault within a member is read

pub member_item_fault : (bytes : List ℕ) (left : ℕ) (kind : ShelfKind) → IsItemFault bytes left kind → member_at bytes ≡ Bad left kind
unfolding member_at
member_item_fault bytes left kind f = ap (λ o. then_read o (λ item rest. then_read (params_at [] rest) (λ params end. Read (record { item = item; params = params }) end))) (item_fault_only bytes left kind f)

pub member_params_fault : (item : Item) (params : List Param) (bytes between : List ℕ) (left : ℕ) (kind : ShelfKind) → TakesItem item bytes between → IsParamsFault params between left kind → member_at bytes ≡ Bad left kind
member_params_fault item params bytes between left kind t f =
    after_item item bytes between t ∙ ap (λ o. then_read o (λ params end. Read (record { item = item; params = params }) end)) (params_fault_only params [] between left kind f)

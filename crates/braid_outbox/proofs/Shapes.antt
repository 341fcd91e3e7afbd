-- What the tests of updates and changes say.
use Rattle.std.proofs.Common.{◌≡◌, ℕ, ◌<◌, ◌≤◌, ◌^◌, List, [], ◌∷◌, true, ◌&&◌, nat_le, nat_lt, refl, arith, length, zero, suc, get_or, Less, Equal, Greater, Ordering}
use Rattle.std.proofs.lemmas.Bool.Decides.{nat_tests}
use Rattle.std.specs.List.Sorted.{IsStrictlySortedBy}
use Rattle.std.specs.Ordering.{is_lt}
use Rattle.std.specs.Str.{all_scalars}
use Rattle.braid_ids.specs.Identifiers.{IsIdentifier, IsPrintable, id_cmp}
use Rattle.braid_ids.specs.Frontiers.{IsRising}
use Rattle.braid_change.specs.declared.patch.Patch.{Patch}
use Rattle.braid_change.specs.declared.change.Change.{Change}
use Rattle.braid_change.specs.declared.change.Change.TheVariants.{Body, Patches}
use Rattle.braid_change.specs.Changes.{patches_of, content_len, AreListed, AreNumbered, HaveScalars, AreScalars, IsShaped}
use Rattle.braid_change.specs.Updates.{UpdateView, IsBuilt}
use Rattle.braid_tree.proofs.Member.{all_member, all_from_members}
use Rattle.braid_tree.proofs.Keys.{ids_strict}
use Rattle.braid_text.proofs.Whole.{and_cases}
use Rattle.braid_text.proofs.Same.{and_true}
use Rattle.braid_outbox.specs.Shapes.{are_listed, are_numbered, have_scalars, are_scalars, is_change, are_printable, is_identifier, is_rising, is_update}

-- what is asked of an update here: its name is an identifier, its parents rise, and it is built
pub record IsProper (u : UpdateView) : Type 0 where
  pub named : IsIdentifier u.id
  pub rising : IsRising u.parents
  pub built : IsBuilt u.parents u.change

pub le_from : (x y : ℕ) → nat_le x y ≡ true → x ≤ y
le_from x y h = grind (arith, nat_tests)

pub le_to : (x y : ℕ) → x ≤ y → nat_le x y ≡ true
le_to x y h = grind (arith, nat_tests)

pub lt_from : (x y : ℕ) → nat_lt x y ≡ true → x < y
lt_from x y h = grind (arith, nat_tests)

pub lt_to : (x y : ℕ) → x < y → nat_lt x y ≡ true
lt_to x y h = grind (arith, nat_tests)

listed_from : (low : ℕ) (ps : List Patch) → are_listed low ps ≡ true → AreListed low ps
listed_from low [] h = tt
listed_from low (p ∷ ps) h =
    let a = and_cases (nat_le low p.start) (nat_le p.start p.end && are_listed p.end ps) h in
    let b = and_cases (nat_le p.start p.end) (are_listed p.end ps) a.1 in
    (le_from low p.start a.0, le_from p.start p.end b.0, listed_from p.end ps b.1)

listed_to : (low : ℕ) (ps : List Patch) → AreListed low ps → are_listed low ps ≡ true
listed_to low [] h = refl
listed_to low (p ∷ ps) h =
    and_true (nat_le low p.start) (nat_le p.start p.end && are_listed p.end ps) (le_to low p.start h.0)
    (and_true (nat_le p.start p.end) (are_listed p.end ps) (le_to p.start p.end h.1) (listed_to p.end ps h.2))

numbered_from : (ps : List Patch) → are_numbered ps ≡ true → AreNumbered ps
numbered_from [] h = tt
numbered_from (p ∷ ps) h = let a = and_cases (nat_lt p.end (2 ^ 32)) (are_numbered ps) h in (lt_from p.end (2 ^ 32) a.0, numbered_from ps a.1)

numbered_to : (ps : List Patch) → AreNumbered ps → are_numbered ps ≡ true
numbered_to [] h = refl
numbered_to (p ∷ ps) h = and_true (nat_lt p.end (2 ^ 32)) (are_numbered ps) (lt_to p.end (2 ^ 32) h.0) (numbered_to ps h.1)

texts_from : (ps : List Patch) → have_scalars ps ≡ true → HaveScalars ps
texts_from [] h = tt
texts_from (p ∷ ps) h = let a = and_cases (all_scalars p.text) (have_scalars ps) h in (a.0, texts_from ps a.1)

texts_to : (ps : List Patch) → HaveScalars ps → have_scalars ps ≡ true
texts_to [] h = refl
texts_to (p ∷ ps) h = and_true (all_scalars p.text) (have_scalars ps) h.0 (texts_to ps h.1)

scalars_from : (c : Change) → are_scalars c ≡ true → AreScalars c
scalars_from (Body x) h = h
scalars_from (Patches ps) h = texts_from ps h

scalars_to : (c : Change) → AreScalars c → are_scalars c ≡ true
scalars_to (Body x) h = h
scalars_to (Patches ps) h = texts_to ps h

-- a change that passes the test has its shape and is of scalar values, and no other
pub shaped_from : (c : Change) → is_change c ≡ true → IsShaped c × AreScalars c
shaped_from c h =
    let ps : List Patch = patches_of c in
    let a = and_cases (nat_le (length ps) 1000) (are_listed 0 ps && (nat_le (content_len c) 1048576 && (are_numbered ps && are_scalars c))) h in
    let b = and_cases (are_listed 0 ps) (nat_le (content_len c) 1048576 && (are_numbered ps && are_scalars c)) a.1 in
    let d = and_cases (nat_le (content_len c) 1048576) (are_numbered ps && are_scalars c) b.1 in
    let e = and_cases (are_numbered ps) (are_scalars c) d.1 in (
      record { few = le_from (length ps) 1000 a.0; listed = listed_from 0 ps b.0; short = le_from (content_len c) 1048576 d.0; numbered = numbered_from ps e.0 },
      scalars_from c e.1,
    )

pub shaped_to : (c : Change) → IsShaped c → AreScalars c → is_change c ≡ true
shaped_to c s t =
    let ps : List Patch = patches_of c in
    and_true (nat_le (length ps) 1000) (are_listed 0 ps && (nat_le (content_len c) 1048576 && (are_numbered ps && are_scalars c))) (le_to (length ps) 1000 s.few)
    (and_true (are_listed 0 ps) (nat_le (content_len c) 1048576 && (are_numbered ps && are_scalars c)) (listed_to 0 ps s.listed)
    (and_true (nat_le (content_len c) 1048576) (are_numbered ps && are_scalars c) (le_to (content_len c) 1048576 s.short)
    (and_true (are_numbered ps) (are_scalars c) (numbered_to ps s.numbered) (scalars_to c t))))

pub built_from : (parents : List (List ℕ)) (c : Change) → length parents ≤ 32 → is_change c ≡ true → IsBuilt parents c
built_from parents c few h = let s = shaped_from c h in record { few_parents = few; shaped = s.0; scalar = s.1 }

printable_from : (bs : List ℕ) → are_printable bs ≡ true → (k : ℕ) → k < length bs → IsPrintable (get_or bs k 0)
printable_from [] h k l = absurd (omega (arith, l))
printable_from (b ∷ bs) h zero l = let a = and_cases (nat_le 0x20 b) (nat_le b 0x7e && are_printable bs) h in let c = and_cases (nat_le b 0x7e) (are_printable bs) a.1 in
    (le_from 0x20 b a.0, le_from b 0x7e c.0)
printable_from (b ∷ bs) h (suc k) l = let a = and_cases (nat_le 0x20 b) (nat_le b 0x7e && are_printable bs) h in let c = and_cases (nat_le b 0x7e) (are_printable bs) a.1 in
    printable_from bs c.1 k (omega (arith, l))

identifier_from : (v : List ℕ) → is_identifier v ≡ true → IsIdentifier v
identifier_from v h = let a = and_cases (nat_lt 0 (length v)) (nat_le (length v) 128 && are_printable v) h in let b = and_cases (nat_le (length v) 128) (are_printable v) a.1 in
    record { some = lt_from 0 (length v) a.0; short = le_from (length v) 128 b.0; printable = printable_from v b.1 }

lt_less : (o : Ordering) → is_lt o ≡ true → o ≡ Less
lt_less Less h = refl
lt_less Equal h = cc
lt_less Greater h = cc

rising_from : (vs : List (List ℕ)) → is_rising vs ≡ true → IsRising vs
unfolding IsStrictlySortedBy
rising_from [] h = tt
rising_from (v ∷ []) h = (tt, tt)
rising_from (v ∷ w ∷ ws) h = let p = and_cases (is_lt (id_cmp v w)) (is_rising (w ∷ ws)) h in more (lt_less (id_cmp v w) p.0) (rising_from (w ∷ ws) p.1)
  where
    more : id_cmp v w ≡ Less → IsRising (w ∷ ws) → IsRising (v ∷ w ∷ ws)
    more l r = ((l, all_from_members (λ (x : List ℕ). id_cmp v x ≡ Less) ws (λ x m. ids_strict.total.trans v w x l (all_member (λ (x : List ℕ). id_cmp w x ≡ Less) x ws r.0 m))), r)

-- an update that passes the test is so
pub update_from : (u : UpdateView) → is_update u ≡ true → IsProper u
update_from u h =
    let a = and_cases (is_identifier u.id) (is_rising u.parents && (nat_le (length u.parents) 32 && is_change u.change)) h in
    let b = and_cases (is_rising u.parents) (nat_le (length u.parents) 32 && is_change u.change) a.1 in
    let c = and_cases (nat_le (length u.parents) 32) (is_change u.change) b.1 in
    record { named = identifier_from u.id a.0; rising = rising_from u.parents b.0; built = built_from u.parents u.change (le_from (length u.parents) 32 c.0) c.1 }

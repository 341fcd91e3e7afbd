-- A value is found in one way between the spaces and tabs around it.
use Rattle.std.proofs.Common.{◌≡◌, ℕ, Bool, true, false, List, [], ◌∷◌, ◌++◌, refl, sym, ap, ◌∙◌, subst}
use Rattle.std.specs.List.{list_all}
use Rattle.std.proofs.lemmas.Bool.{and_parts}
use Rattle.braid_shelf.specs.ByteClasses.{Are, begins, is_blank}
use Rattle.braid_shelf.specs.Reading.{front_of, after}
use Rattle.braid_shelf.proofs.Passing.{front_after, front_passes, after_stops, after_is, Are-append}
use Rattle.braid_fields.specs.Fields.{IsPadded}
use Rattle.braid_fields.specs.Lines.{ends}
use Rattle.braid_fields.specs.Cuts.{EndsInBlanks}

pub all_are : (test : ℕ → Bool) (bytes : List ℕ) → list_all test bytes ≡ true → Are test bytes
all_are test [] e = tt
all_are test (byte ∷ bytes) e = let p = and_parts (test byte) (list_all test bytes) e in (p.0, all_are test bytes p.1)

pub are_all : (test : ℕ → Bool) (bytes : List ℕ) → Are test bytes → list_all test bytes ≡ true
are_all test [] h = refl
are_all test (byte ∷ bytes) h = rw (h.0, are_all test bytes h.1) refl

pub not_both : (b : Bool) → b ≡ true → b ≡ false → ⊥
not_both b e f = cc

are_front : (test : ℕ → Bool) (front rest : List ℕ) → Are test (front ++ rest) → Are test front
are_front test [] rest h = tt
are_front test (byte ∷ front) rest h = (h.0, are_front test front rest h.1)

ends_passing : (test : ℕ → Bool) (byte : ℕ) (bytes : List ℕ) → Are test (byte ∷ bytes) → ends test (byte ∷ bytes) ≡ true
ends_passing test byte [] h = h.0
ends_passing test byte (other ∷ bytes) h = ends_passing test other bytes h.1

rest_ends : (test : ℕ → Bool) (byte : ℕ) (bytes : List ℕ) → ends test (byte ∷ bytes) ≡ false → ends test bytes ≡ false
rest_ends test byte [] e = refl
rest_ends test byte (other ∷ bytes) e = e

no_more : (test : ℕ → Bool) (passed : List ℕ) (byte : ℕ) (bytes rest : List ℕ) → Are test passed → ends test (byte ∷ bytes) ≡ false → passed ≡ (byte ∷ bytes) ++ rest → ⊥
no_more test passed byte bytes rest h n e =
    not_both _ (ends_passing test byte bytes (are_front test (byte ∷ bytes) rest (subst (Are test) e h))) n

-- what stands before the longest end that passes is one
last_same : (test : ℕ → Bool) (v a w b : List ℕ) → Are test a → Are test b → ends test v ≡ false → ends test w ≡ false → v ++ a ≡ w ++ b → v ≡ w
last_same test [] a [] b h k e f s = refl
last_same test [] a (y ∷ ws) b h k e f s = absurd (no_more test a y ws b h f s)
last_same test (x ∷ vs) a [] b h k e f s = absurd (no_more test b x vs a k e (sym s))
last_same test (x ∷ vs) a (y ∷ ws) b h k e f s =
    let first : x ≡ y = cc in
    let rest : vs ++ a ≡ ws ++ b = cc in
    let same = last_same test vs a ws b h k (rest_ends test x vs e) (rest_ends test y ws f) rest in
    cc

first_same : (test : ℕ → Bool) (a p b q : List ℕ) → Are test a → Are test b → begins test p ≡ false → begins test q ≡ false → a ++ p ≡ b ++ q → p ≡ q
first_same test a p b q h k e f s = sym (after_is test a p h e) ∙ ap (after test) s ∙ after_is test b q k f

no_value : (bytes : List ℕ) (byte : ℕ) (value : List ℕ) → IsPadded [] bytes → IsPadded (byte ∷ value) bytes → ⊥
no_value bytes byte value p q =
    let whole : q.before ++ (byte ∷ (value ++ q.after)) ≡ p.before ++ p.after = sym q.spelled ∙ p.spelled in
    let all : Are is_blank (q.before ++ (byte ∷ (value ++ q.after))) = subst (Are is_blank) (sym whole) (Are-append is_blank p.before p.after p.before_blank p.after_blank) in
    not_both _ (behind q.before all) q.begins_so
  where
    behind : (before : List ℕ) → Are is_blank (before ++ (byte ∷ (value ++ q.after))) → is_blank byte ≡ true
    behind [] h = h.0
    behind (x ∷ before) h = behind before h.1

pub padded_same : (v w bytes : List ℕ) → IsPadded v bytes → IsPadded w bytes → v ≡ w
padded_same [] [] bytes p q = refl
padded_same [] (y ∷ w) bytes p q = absurd (no_value bytes y w p q)
padded_same (x ∷ v) [] bytes p q = absurd (no_value bytes x v q p)
padded_same (x ∷ v) (y ∷ w) bytes p q =
    let rest : (x ∷ v) ++ p.after ≡ (y ∷ w) ++ q.after = first_same is_blank p.before ((x ∷ v) ++ p.after) q.before ((y ∷ w) ++ q.after) p.before_blank q.before_blank p.begins_so q.begins_so (sym p.spelled ∙ q.spelled) in
    last_same is_blank (x ∷ v) p.after (y ∷ w) q.after p.after_blank q.after_blank p.ends_so q.ends_so rest

begins_front : (test : ℕ → Bool) (front rest : List ℕ) → begins test (front ++ rest) ≡ false → begins test front ≡ false
begins_front test [] rest e = refl
begins_front test (byte ∷ front) rest e = e

-- passing over both ends
pub both_ends : (bytes rest value : List ℕ) → rest ≡ after is_blank bytes → EndsInBlanks rest value → IsPadded value bytes
both_ends bytes rest value same e =
    record {
      before = front_of is_blank bytes;
      after = e.blanks;
      before_blank = front_passes is_blank bytes;
      after_blank = e.are_blank;
      begins_so = begins_front is_blank value e.blanks (subst (λ x. begins is_blank x ≡ false) e.cut (ap (begins is_blank) same ∙ after_stops is_blank bytes));
      ends_so = e.stops;
      spelled = sym (front_after is_blank bytes) ∙ ap (λ x. front_of is_blank bytes ++ x) (sym same ∙ e.cut);
    }

-- bytes that are so far followed by spaces and tabs alone
pub record BlanksBehind (bytes front : List ℕ) : Type 0 where
  pub blanks : List ℕ
  pub are_blank : Are is_blank blanks
  pub cut : bytes ≡ front ++ blanks

pub ends_last : (test : ℕ → Bool) (front : List ℕ) (last : ℕ) → ends test (front ++ last ∷ []) ≡ test last
ends_last test [] last = refl
ends_last test (x ∷ []) last = refl
ends_last test (x ∷ y ∷ front) last = ends_last test (y ∷ front) last

pub behind_end : (bytes rest front : List ℕ) (last : ℕ) → rest ≡ front ++ last ∷ [] → is_blank last ≡ false → BlanksBehind bytes rest → EndsInBlanks bytes rest
behind_end bytes rest front last e h b =
    record {
      blanks = b.blanks;
      are_blank = b.are_blank;
      stops = ap (ends is_blank) e ∙ ends_last is_blank front last ∙ h;
      cut = b.cut;
    }

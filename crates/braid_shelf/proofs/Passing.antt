-- The front of bytes that pass a test.
use Rattle.std.proofs.Common.{◌≡◌, ℕ, suc, ◌+◌, ◌≤◌, Bool, true, false, cond, List, [], ◌∷◌, ◌++◌, length, refl, ap, ◌∙◌, arith, length-drop, length-take}
use Rattle.std.specs.List.{prefix_len}
use Rattle.std.proofs.lemmas.List.{take-append-drop}
use Rattle.std.proofs.lemmas.List.Sums.{prefix_len-le-length}
use Rattle.braid_shelf.specs.ByteClasses.{Are, begins}
use Rattle.braid_shelf.specs.Reading.{front_of, after}

pub length_after : (test : ℕ → Bool) (bytes : List ℕ) → length (after test bytes) ≤ length bytes
length_after test bytes = omega (arith, length-drop (prefix_len test bytes) bytes)

pub front_after : (test : ℕ → Bool) (bytes : List ℕ) → front_of test bytes ++ after test bytes ≡ bytes
front_after test bytes = take-append-drop (prefix_len test bytes) bytes

one_more : (n : ℕ) → 1 + n ≡ suc n
one_more n = omega arith

pub yes_front : (test : ℕ → Bool) (byte : ℕ) (bytes : List ℕ) → test byte ≡ true → front_of test (byte ∷ bytes) ≡ byte ∷ front_of test bytes
yes_front test byte bytes e = rw (e, one_more (prefix_len test bytes)) refl

yes_after : (test : ℕ → Bool) (byte : ℕ) (bytes : List ℕ) → test byte ≡ true → after test (byte ∷ bytes) ≡ after test bytes
yes_after test byte bytes e = rw (e, one_more (prefix_len test bytes)) refl

no_front : (test : ℕ → Bool) (byte : ℕ) (bytes : List ℕ) → test byte ≡ false → front_of test (byte ∷ bytes) ≡ []
no_front test byte bytes e = rw e refl

no_after : (test : ℕ → Bool) (byte : ℕ) (bytes : List ℕ) → test byte ≡ false → after test (byte ∷ bytes) ≡ byte ∷ bytes
no_after test byte bytes e = rw e refl

pub front_passes : (test : ℕ → Bool) (bytes : List ℕ) → Are test (front_of test bytes)
front_passes test [] = tt
front_passes test (byte ∷ bytes) = go (test byte) refl (front_passes test bytes)
  where
    go : (b : Bool) → test byte ≡ b → Are test (front_of test bytes) → Are test (front_of test (byte ∷ bytes))
    go true e rest = rw (yes_front test byte bytes e) (e, rest)
    go false e rest = rw (no_front test byte bytes e) tt

pub after_stops : (test : ℕ → Bool) (bytes : List ℕ) → begins test (after test bytes) ≡ false
after_stops test [] = refl
after_stops test (byte ∷ bytes) = go (test byte) refl (after_stops test bytes)
  where
    go : (b : Bool) → test byte ≡ b → begins test (after test bytes) ≡ false → begins test (after test (byte ∷ bytes)) ≡ false
    go true e rest = rw (yes_after test byte bytes e) rest
    go false e rest = rw (no_after test byte bytes e) e

pub front_is : (test : ℕ → Bool) (front rest : List ℕ) → Are test front → begins test rest ≡ false → front_of test (front ++ rest) ≡ front
front_is test [] [] h e = refl
front_is test [] (byte ∷ rest) h e = no_front test byte rest e
front_is test (byte ∷ front) rest h e = yes_front test byte (front ++ rest) h.0 ∙ ap (λ x. byte ∷ x) (front_is test front rest h.1 e)

pub after_is : (test : ℕ → Bool) (front rest : List ℕ) → Are test front → begins test rest ≡ false → after test (front ++ rest) ≡ rest
after_is test [] [] h e = refl
after_is test [] (byte ∷ rest) h e = no_after test byte rest e
after_is test (byte ∷ front) rest h e = yes_after test byte (front ++ rest) h.0 ∙ after_is test front rest h.1 e

pub count_is : (test : ℕ → Bool) (front rest : List ℕ) → Are test front → begins test rest ≡ false → prefix_len test (front ++ rest) ≡ length front
count_is test [] [] h e = refl
count_is test [] (byte ∷ rest) h e = rw e refl
count_is test (byte ∷ front) rest h e = rw (h.0, count_is test front rest h.1 e) (one_more (length front))

-- where the front has more than so many bytes, so has the front of all
pub count_least : (test : ℕ → Bool) (front rest : List ℕ) → Are test front → length front ≤ prefix_len test (front ++ rest)
count_least test [] rest h = omega arith
count_least test (byte ∷ front) rest h = let k = count_least test front rest h.1 in rw h.0 (omega arith)

pub none_begins : (test : ℕ → Bool) (bytes : List ℕ) → prefix_len test bytes ≡ 0 → begins test bytes ≡ false
none_begins test [] e = refl
none_begins test (byte ∷ bytes) e = go (test byte) e
  where
    go : (b : Bool) → cond b (1 + prefix_len test bytes) 0 ≡ 0 → b ≡ false
    go true e = absurd (omega arith)
    go false e = refl

pub front_length : (test : ℕ → Bool) (bytes : List ℕ) → length (front_of test bytes) ≡ prefix_len test bytes
front_length test bytes = length-take (prefix_len test bytes) bytes ∙ (let h = prefix_len-le-length test bytes in omega arith)

pub Are-append : (test : ℕ → Bool) (front rest : List ℕ) → Are test front → Are test rest → Are test (front ++ rest)
Are-append test [] rest h k = k
Are-append test (byte ∷ front) rest h k = (h.0, Are-append test front rest h.1 k)

-- The histories of the worked rows are legal.
use Rattle.std.proofs.Common.{◌≡◌, ℕ, ◌<◌, ◌≤◌, List, [], ◌∷◌, None, length, codes, slice_index, zero, suc, refl, arith, Less}
use Rattle.std.specs.List.{AllByRecursion}
use Rattle.std.specs.List.Sorted.{IsStrictlySortedBy}
use Rattle.braid_ids.specs.Identifiers.{IsPrintable, IsIdentifier, id_cmp}
use Rattle.braid_ids.specs.Frontiers.{IsRising}
use Rattle.braid_change.specs.declared.change.Change.{Change}
use Rattle.braid_change.specs.declared.change.Change.TheVariants.{Body}
use Rattle.braid_change.specs.Changes.{AreScalars, content_len}
use Rattle.braid_change.specs.Updates.{UpdateView, IsBuilt}
use Rattle.braid_text.specs.Histories.{Follows, IsLegal}
use Rattle.braid_text.specs.Refusals.{refusal_in}
use Rattle.braid_text.specs.Worked.{x_1, p_1, q_1, r_1, p_deletes, a_1, b_1, m_1, x_hello, y_1}
use Rattle.braid_text.proofs.Judged.{follows_from}

printable : (bytes : List ℕ) → AllByRecursion IsPrintable bytes → (k : ℕ) → k < length bytes → IsPrintable (slice_index bytes k)
printable [] all k l = absurd (omega arith)
printable (b ∷ bytes) all zero l = all.0
printable (b ∷ bytes) all (suc k) l = printable bytes all.1 k (omega arith)

-- a letter, a dash and the digit 1
one_letter : (c : ℕ) → 97 ≤ c → c ≤ 122 → IsIdentifier (c ∷ 45 ∷ 49 ∷ [])
one_letter c a b = record {
  some = omega arith;
  short = omega arith;
  printable = printable (c ∷ 45 ∷ 49 ∷ []) ((omega (arith, a), omega (arith, b)), ((omega arith, omega arith), ((omega arith, omega arith), tt)));
}

rises_none : IsRising []
unfolding IsStrictlySortedBy
rises_none = tt

rises_one : (v : List ℕ) → IsRising (v ∷ [])
unfolding IsStrictlySortedBy
rises_one v = (tt, tt)

rises_two : (v w : List ℕ) → id_cmp v w ≡ Less → IsRising (v ∷ w ∷ [])
unfolding IsStrictlySortedBy
rises_two v w e = ((e, tt), (tt, tt))

short_as : (c : Change) (n : ℕ) → content_len c ≡ n → n ≤ 1048576 → content_len c ≤ 1048576
short_as c n e l = omega (arith, e, l)

body_built : (parents : List (List ℕ)) (text : List ℕ) → length parents ≤ 32 → content_len (Body text) ≤ 1048576 → AreScalars (Body text) → IsBuilt parents (Body text)
body_built parents text few short scalar = record { few_parents = few; shaped = record { few = omega arith; listed = tt; short = short; numbered = tt }; scalar = scalar }

follows_x : Follows [] x_1
unfolding lib.Utf8.encode
follows_x = follows_from [] x_1 refl (one_letter 120 (omega arith) (omega arith)) rises_none (body_built [] (codes "ab") (omega arith) (short_as (Body (codes "ab")) 2 refl (omega arith)) refl)

follows_p : (us : List UpdateView) → refusal_in us p_1 ≡ None → Follows us p_1
unfolding lib.Utf8.encode
follows_p us e = follows_from us p_1 e (one_letter 112 (omega arith) (omega arith)) (rises_one (codes "x-1"))
    (record { few_parents = omega arith; shaped = record { few = omega arith; listed = (omega arith, omega arith, tt); short = short_as p_1.change 1 refl (omega arith); numbered = (omega arith, tt) }; scalar = (refl, tt) })

follows_q : (us : List UpdateView) → refusal_in us q_1 ≡ None → Follows us q_1
unfolding lib.Utf8.encode
follows_q us e = follows_from us q_1 e (one_letter 113 (omega arith) (omega arith)) (rises_one (codes "x-1"))
    (record { few_parents = omega arith; shaped = record { few = omega arith; listed = (omega arith, omega arith, tt); short = short_as q_1.change 1 refl (omega arith); numbered = (omega arith, tt) }; scalar = (refl, tt) })

follows_r : (us : List UpdateView) → refusal_in us r_1 ≡ None → Follows us r_1
unfolding lib.Utf8.encode
follows_r us e = follows_from us r_1 e (one_letter 114 (omega arith) (omega arith)) (rises_two (codes "p-1") (codes "q-1") refl)
    (record { few_parents = omega arith; shaped = record { few = omega arith; listed = (omega arith, omega arith, tt); short = short_as r_1.change 1 refl (omega arith); numbered = (omega arith, tt) }; scalar = (refl, tt) })

follows_deletes : (us : List UpdateView) → refusal_in us p_deletes ≡ None → Follows us p_deletes
follows_deletes us e = follows_from us p_deletes e (one_letter 112 (omega arith) (omega arith)) (rises_one (codes "x-1"))
    (record { few_parents = omega arith; shaped = record { few = omega arith; listed = (omega arith, omega arith, tt); short = short_as p_deletes.change 0 refl (omega arith); numbered = (omega arith, tt) }; scalar = (refl, tt) })

follows_a : (us : List UpdateView) → refusal_in us a_1 ≡ None → Follows us a_1
unfolding lib.Utf8.encode
follows_a us e = follows_from us a_1 e (one_letter 97 (omega arith) (omega arith)) rises_none (body_built [] (codes "A") (omega arith) (short_as (Body (codes "A")) 1 refl (omega arith)) refl)

follows_b : (us : List UpdateView) → refusal_in us b_1 ≡ None → Follows us b_1
unfolding lib.Utf8.encode
follows_b us e = follows_from us b_1 e (one_letter 98 (omega arith) (omega arith)) rises_none (body_built [] (codes "B") (omega arith) (short_as (Body (codes "B")) 1 refl (omega arith)) refl)

follows_m : (us : List UpdateView) → refusal_in us m_1 ≡ None → Follows us m_1
follows_m us e = follows_from us m_1 e (one_letter 109 (omega arith) (omega arith)) (rises_two (codes "a-1") (codes "b-1") refl)
    (record { few_parents = omega arith; shaped = record { few = omega arith; listed = tt; short = short_as m_1.change 0 refl (omega arith); numbered = tt }; scalar = tt })

follows_hello : Follows [] x_hello
unfolding lib.Utf8.encode
follows_hello = follows_from [] x_hello refl (one_letter 120 (omega arith) (omega arith)) rises_none (body_built [] (codes "hello") (omega arith) (short_as (Body (codes "hello")) 5 refl (omega arith)) refl)

follows_y : Follows (x_hello ∷ []) y_1
unfolding lib.Utf8.encode
follows_y = follows_from (x_hello ∷ []) y_1 refl (one_letter 121 (omega arith) (omega arith)) (rises_one (codes "x-1")) (body_built (codes "x-1" ∷ []) (codes "hello you") (omega arith) (short_as (Body (codes "hello you")) 9 refl (omega arith)) refl)

pub siblings : IsLegal (x_1 ∷ p_1 ∷ q_1 ∷ r_1 ∷ [])
siblings = (follows_r (q_1 ∷ p_1 ∷ x_1 ∷ []) refl, (follows_q (p_1 ∷ x_1 ∷ []) refl, (follows_p (x_1 ∷ []) refl, (follows_x, tt))))

pub siblings_back : IsLegal (x_1 ∷ q_1 ∷ p_1 ∷ r_1 ∷ [])
siblings_back = (follows_r (p_1 ∷ q_1 ∷ x_1 ∷ []) refl, (follows_p (q_1 ∷ x_1 ∷ []) refl, (follows_q (x_1 ∷ []) refl, (follows_x, tt))))

pub concurrent : IsLegal (x_1 ∷ p_deletes ∷ q_1 ∷ [])
concurrent = (follows_q (p_deletes ∷ x_1 ∷ []) refl, (follows_deletes (x_1 ∷ []) refl, (follows_x, tt)))

pub concurrent_back : IsLegal (x_1 ∷ q_1 ∷ p_deletes ∷ [])
concurrent_back = (follows_deletes (q_1 ∷ x_1 ∷ []) refl, (follows_q (x_1 ∷ []) refl, (follows_x, tt)))

pub merge : IsLegal (a_1 ∷ b_1 ∷ m_1 ∷ [])
merge = (follows_m (b_1 ∷ a_1 ∷ []) refl, (follows_b (a_1 ∷ []) refl, (follows_a [] refl, tt)))

pub merge_back : IsLegal (b_1 ∷ a_1 ∷ m_1 ∷ [])
merge_back = (follows_m (a_1 ∷ b_1 ∷ []) refl, (follows_a (b_1 ∷ []) refl, (follows_b [] refl, tt)))

pub bodies : IsLegal (x_hello ∷ y_1 ∷ [])
bodies = (follows_y, (follows_hello, tt))

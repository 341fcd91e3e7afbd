-- Scalar values, and the lengths of their UTF-8.
use Rattle.std.proofs.Common.{◌≡◌, ℕ, ◌+◌, ◌<◌, List, [], ◌∷◌, ◌++◌, true, refl, length, take, get_or, sum_by, encode_utf8_all, IsUtf8, length-append}
use Rattle.std.specs.Str.{all_scalars}
use Rattle.std.specs.Char.{len_utf8}
use Rattle.std.proofs.lemmas.List.Recursion.{is_sum_by}
use Rattle.std.proofs.lemmas.Bool.{and_parts}
use Rattle.std.proofs.lemmas.List.{take_more}
use lib.Utf8.{scalar}
use Rattle.std.proofs.lemmas.Str.{length-encode, chars_from_encodes, scalars-chars}

pub scalars_of : (cs bs : List ℕ) → IsUtf8 bs → encode_utf8_all cs ≡ bs → all_scalars cs ≡ true
scalars_of cs bs u e = rw (chars_from_encodes cs bs u e) (scalars-chars bs u)

pub encoded_len : (cs : List ℕ) → length (encode_utf8_all cs) ≡ sum_by len_utf8 cs
encoded_len = is_sum_by (λ cs. length (encode_utf8_all cs)) len_utf8 refl (λ c cs. rw (length-append, length-encode))

pub scalars_append : (xs ys : List ℕ) → all_scalars xs ≡ true → all_scalars ys ≡ true → all_scalars (xs ++ ys) ≡ true
scalars_append [] ys h k = k
scalars_append (x ∷ xs) ys h k = let p = and_parts (scalar x) (all_scalars xs) h in rw (p.0, scalars_append xs ys p.1 k)

pub scalars_more : (items : List ℕ) (i c : ℕ) → i < length items → c ≡ get_or items i c → all_scalars (take i items) ≡ true → all_scalars (c ∷ []) ≡ true → all_scalars (take (i + 1) items) ≡ true
scalars_more items i c l e h k = rw (take_more items i c l, ← e) (scalars_append (take i items) (c ∷ []) h k)

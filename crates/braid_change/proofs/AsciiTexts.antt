-- ASCII characters are their own UTF-8.
use Rattle.std.proofs.Common.{◌≡◌, ℕ, suc, ◌+◌, ◌<◌, List, [], ◌∷◌, ◌++◌, true, refl, sym, ap, subst, ◌∙◌, take, get_or, length, encode_utf8_all}
use Rattle.std.specs.Str.{all_scalars, IsAscii}
use Rattle.std.proofs.lemmas.List.{take_more}
use Rattle.std.proofs.lemmas.Str.{encode_ascii, encodes_same, IsUtf8-from_ascii}
use Rattle.braid_change.specs.Texts.{IsTextOf, AreAscii}

pub encoded_ascii : (cs : List ℕ) → AreAscii cs → encode_utf8_all cs ≡ cs
encoded_ascii [] all = refl
encoded_ascii (c ∷ cs) all = ap (λ t. t ++ encode_utf8_all cs) (encode_ascii c all.0) ∙ ap (λ t. c ∷ t) (encoded_ascii cs all.1)

pub are_ascii : (bs : List ℕ) → IsAscii bs → AreAscii bs
are_ascii [] all = tt
are_ascii (b ∷ bs) all = (all 0, are_ascii bs (λ i. all (suc i)))

-- ASCII bytes are the text that they spell
pub ascii_text : (bs : List ℕ) → IsAscii bs → IsTextOf bs bs
ascii_text bs all =
    let u = IsUtf8-from_ascii bs all in
    let e : encode_utf8_all bs ≡ bs = encoded_ascii bs (are_ascii bs all) in
    record { scalar = subst (λ t. all_scalars t ≡ true) (encodes_same u.0 bs (u.1.1 ∙ sym e)) u.1.0; spelled = e }

ascii_append : (xs : List ℕ) (y : ℕ) → AreAscii xs → y < 128 → AreAscii (xs ++ y ∷ [])
ascii_append [] y all l = (l, tt)
ascii_append (x ∷ xs) y all l = (all.0, ascii_append xs y all.1 l)

pub ascii_more : (cs : List ℕ) (n : ℕ) (d : ℕ) → n < length cs → get_or cs n d < 128 → AreAscii (take n cs) → AreAscii (take (n + 1) cs)
ascii_more cs n d l small all = subst AreAscii (sym (take_more cs n d l)) (ascii_append (take n cs) (get_or cs n d) all small)

-- Texts and their UTF-8, by the test and the characters that a reader has.
use Rattle.std.proofs.Common.{◌≡◌, ℕ, List, true, sym, ap, ◌∙◌, encode_utf8_all}
use Rattle.std.specs.Str.{chars, is_utf8, all_scalars}
use Rattle.std.proofs.lemmas.Str.{IsUtf8-from_is_utf8, is_utf8-from_IsUtf8, chars-encodes}
use Rattle.braid_change.specs.Texts.{IsTextOf}

pub text_is_utf8 : (text bytes : List ℕ) → IsTextOf text bytes → is_utf8 bytes ≡ true
text_is_utf8 text bytes k = is_utf8-from_IsUtf8 bytes (text, (k.scalar, k.spelled))

pub text_chars : (text bytes : List ℕ) → IsTextOf text bytes → chars bytes ≡ text
text_chars text bytes k = ap chars (sym k.spelled) ∙ chars-encodes text k.scalar

pub chars_are_text : (bytes : List ℕ) → is_utf8 bytes ≡ true → IsTextOf (chars bytes) bytes
chars_are_text bytes e =
    let u = IsUtf8-from_is_utf8 bytes e in
    let c : chars bytes ≡ u.0 = ap chars (sym u.1.1) ∙ chars-encodes u.0 u.1.0 in
    record { scalar = ap all_scalars c ∙ u.1.0; spelled = ap encode_utf8_all c ∙ u.1.1 }

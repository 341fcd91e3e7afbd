-- What it means that bytes spell a text in UTF-8.
use Rattle.std.specs.Prelude.{◌≡◌, ℕ, ◌<◌, List, [], ◌∷◌, ◌++◌, true, encode_utf8_all}
use Rattle.std.specs.Str.{all_scalars}
use Rattle.braid_change.specs.declared.text.TextFault.{TextFault}
use Rattle.braid_change.specs.declared.text.TextFault.TheVariants.{NotText, Memory}

-- the bytes are the UTF-8 of these scalar values
pub record IsTextOf (text bytes : List ℕ) : Type 0 where
  pub scalar : all_scalars text ≡ true
  pub spelled : encode_utf8_all text ≡ bytes

-- no scalar values have these bytes as their UTF-8. Memory may come for any bytes
abbrev pub IsTextFault : List ℕ → TextFault → Type 0
IsTextFault bytes NotText = (text : List ℕ) → IsTextOf text bytes → ⊥
IsTextFault bytes Memory = Unit {0}

-- all of these are ASCII characters
abbrev pub AreAscii : List ℕ → Type 0
AreAscii [] = Unit {0}
AreAscii (c ∷ cs) = (c < 128) × AreAscii cs

-- a front of the bytes was put behind the old ones
pub record PutsFront (bytes old new : List ℕ) : Type 0 where
  pub front : List ℕ
  pub rest : List ℕ
  pub whole : bytes ≡ front ++ rest
  pub put : new ≡ old ++ front

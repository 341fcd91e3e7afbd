-- What is known of bytes that were looked at for an empty line.
use Rattle.std.specs.Prelude.{◌≡◌, ℕ, ◌+◌, ◌-◌, List, ◌∷◌, ◌++◌, length, take, drop}
use Rattle.std.specs.List.{AllByRecursion}
use Rattle.braid_ids.specs.Lists.{Lacks}
use Rattle.braid_http.specs.declared.looks.Look.{Look}
use Rattle.braid_http.specs.declared.looks.HeadLook.{HeadLook}
use Rattle.braid_http.specs.Heads.{line, lines, IsEmptyLine, IsFullLine, HeadText, IsHeadText, text_bytes}

-- the line that begins at one place and was looked at up to another has this content and ends before a third
pub record IsLineFrom (bytes : List ℕ) (begin seen : ℕ) (content : List ℕ) (end : ℕ) : Type 0 where
  pub front : List ℕ
  pub after : List ℕ
  pub lacks : Lacks 10 front
  pub behind : drop seen bytes ≡ front ++ 10 ∷ after
  pub content_is : content ≡ take ((seen + length front) - begin) (drop begin bytes)
  pub end_is : end ≡ seen + length front + 1

-- the bytes are full lines, the line begun as far as it was looked at, without a LF, and the rest
pub record IsLooked (look : Look) (bytes : List ℕ) : Type 0 where
  pub full : List (List ℕ)
  pub begun : List ℕ
  pub rest : List ℕ
  pub each : AllByRecursion IsFullLine full
  pub lacks : Lacks 10 begun
  pub whole : bytes ≡ lines full ++ (begun ++ rest)
  pub number : look.full ≡ length full
  pub line_at : look.line ≡ length (lines full)
  pub seen_to : look.seen ≡ length (lines full) + length begun

-- full lines and an empty one end at this place
pub record IsBlockAt (end : ℕ) (look : Look) (bytes : List ℕ) : Type 0 where
  pub full : List (List ℕ)
  pub last : List ℕ
  pub rest : List ℕ
  pub each : AllByRecursion IsFullLine full
  pub ends : IsEmptyLine last
  pub whole : bytes ≡ (lines full ++ line last) ++ rest
  pub number : look.full ≡ length full
  pub end_is : end ≡ length (lines full ++ line last)

-- empty lines stand before the bytes that were looked at
pub record IsHeadLooked (look : HeadLook) (bytes : List ℕ) : Type 0 where
  pub blank : List (List ℕ)
  pub behind : List ℕ
  pub each : AllByRecursion IsEmptyLine blank
  pub whole : bytes ≡ lines blank ++ behind
  pub start_is : look.start ≡ length (lines blank)
  pub looked : IsLooked look.look behind

-- a head ends at this place
pub record IsHeadAt (end : ℕ) (look : HeadLook) (bytes : List ℕ) : Type 0 where
  pub text : HeadText
  pub rest : List ℕ
  pub is : IsHeadText text
  pub whole : bytes ≡ text_bytes text ++ rest
  pub number : look.look.full ≡ length text.full
  pub start_is : look.start ≡ length (lines text.blank)
  pub end_is : end ≡ length (text_bytes text)

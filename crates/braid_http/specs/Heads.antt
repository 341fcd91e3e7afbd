-- Lines, and where the head of a message ends (RFC 9112, sections 2.1 and 2.2, where a LF alone ends a line too).
use Rattle.std.specs.Prelude.{◌≡◌, ◌≢◌, ℕ, ◌<◌, ◌≤◌, ◌⊎◌, List, [], ◌∷◌, ◌++◌, length, flat_map}
use Rattle.std.specs.List.{AllByRecursion}
use Rattle.braid_ids.specs.Lists.{Lacks}

-- the line of a content: the content and a LF
abbrev pub line : List ℕ → List ℕ
line content = content ++ 10 ∷ []

-- the lines of contents, one after the other
abbrev pub lines : List (List ℕ) → List ℕ
lines contents = flat_map line contents

-- a line with this content is empty: nothing stands before its LF but at most one CR
abbrev pub IsEmptyLine : List ℕ → Type 0
IsEmptyLine content = (content ≡ []) ⊎ (content ≡ 13 ∷ [])

-- a line with this content is one line, and not empty
pub record IsFullLine (content : List ℕ) : Type 0 where
  pub ended : Lacks 10 content
  pub some : content ≢ []
  pub more : content ≢ 13 ∷ []

-- the text of a head: empty lines that are passed over, lines that are not empty, and the empty line that ends it
pub record HeadText : Type 0 where
  pub blank : List (List ℕ)
  pub full : List (List ℕ)
  pub last : List ℕ

-- its lines are such lines, and at least one is not empty
pub record IsHeadText (t : HeadText) : Type 0 where
  pub blank : AllByRecursion IsEmptyLine t.blank
  pub full : AllByRecursion IsFullLine t.full
  pub some : 0 < length t.full
  pub last : IsEmptyLine t.last

-- the bytes of a head from its first line that is not empty: these are read
abbrev pub head_bytes : HeadText → List ℕ
head_bytes t = lines t.full ++ line t.last

-- all bytes of a head: the empty lines before it count to them
abbrev pub text_bytes : HeadText → List ℕ
text_bytes t = lines t.blank ++ head_bytes t

-- the bytes are the text of a head of at most `limit` bytes
pub record IsHead (limit : ℕ) (bytes : List ℕ) (t : HeadText) : Type 0 where
  pub text : IsHeadText t
  pub short : length (text_bytes t) ≤ limit
  pub spelled : bytes ≡ text_bytes t

-- no head ends within the bytes
abbrev pub HasNoHead : List ℕ → Type 0
HasNoHead bytes = (t : HeadText) (rest : List ℕ) → IsHeadText t → bytes ≢ text_bytes t ++ rest

-- the bytes do not begin with lines that are not empty and then an empty one
abbrev pub HasNoBlock : List ℕ → Type 0
HasNoBlock bytes =
    (full : List (List ℕ)) (last rest : List ℕ) → AllByRecursion IsFullLine full → IsEmptyLine last
    → bytes ≢ (lines full ++ line last) ++ rest

-- no empty line stands at the front
abbrev pub BeginsFull : List ℕ → Type 0
BeginsFull bytes = (content rest : List ℕ) → IsEmptyLine content → bytes ≢ line content ++ rest

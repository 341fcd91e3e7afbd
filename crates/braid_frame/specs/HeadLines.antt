-- A head as it is read, line by line: what its lines so far say of the ones that come.
use Rattle.std.specs.Prelude.{◌≡◌, ℕ, ◌<◌, ◌≤◌, ◌⊎◌, true, false, List, [], ◌∷◌, ◌++◌, Option, Some, None, length, take, drop}
use Rattle.std.specs.List.{filter_map}
use Rattle.braid_ids.specs.Lists.{Lacks}
use Rattle.braid_fields.specs.Lines.{is_empty_line}
use Rattle.braid_fields.specs.Fields.{Field, field_of}
use Rattle.braid_grammar.specs.Lines.{IsLine, lines_of, begun_from}
use Rattle.braid_grammar.specs.Heads.{Verdict, Wrong, behind, fields_of, some_fields_of, head_of}
use Rattle.braid_grammar.specs.Outcomes.{head_limit}
use Rattle.braid_frame.specs.declared.state.Awaits.{Awaits}
use Rattle.braid_frame.specs.declared.state.Awaits.TheVariants.{UpdateHead, PatchHead, FirstField, MoreFields}
use Rattle.braid_frame.specs.declared.lines.LineIs.{LineIs}
use Rattle.braid_frame.specs.declared.lines.LineIs.TheVariants.{Gap, Fine, Last, Bad}
use Rattle.braid_frame.specs.declared.lines.Kept.{Kept}
use Rattle.braid_frame.specs.declared.lines.Kept.TheVariants.{Line, Part}

-- what further lines say of a head, by what the next of them may be
abbrev pub awaited : Awaits → List (List ℕ) → Verdict
awaited UpdateHead ls = head_of ls
awaited PatchHead ls = some_fields_of ls
awaited FirstField ls = some_fields_of ls
awaited MoreFields ls = fields_of ls

-- the fields of those lines that are field lines
abbrev pub fields_in : List (List ℕ) → List Field
fields_in ls = filter_map field_of ls

-- a line that is not empty, and what follows it
pub record BeginsWithLine (bytes : List ℕ) : Type 0 where
  pub line : List ℕ
  pub rest : List ℕ
  pub is_line : IsLine line
  pub some : is_empty_line line ≡ false
  pub spelled : bytes ≡ line ++ rest

-- no line of the head has ended yet, or its first line is not empty
abbrev pub BeginsSo : Awaits → List ℕ → List (List ℕ) → ℕ → Type 0
BeginsSo UpdateHead kept before line = (line ≡ 0) × (before ≡ [])
BeginsSo PatchHead kept before line = (line ≡ 0) × (before ≡ [])
BeginsSo FirstField kept before line = BeginsWithLine kept
BeginsSo MoreFields kept before line = BeginsWithLine kept

-- the front of a head, of which nothing is wrong: the line that has begun in it begins at a place, and with whatever
-- lines follow the complete ones the head is what those lines say
pub record AreLines (judge : List (List ℕ) → Verdict) (kept : List ℕ) (line : ℕ) (awaits : Awaits) : Type 0 where
  pub within : line ≤ length kept
  pub begun : begun_from [] kept ≡ drop line kept
  pub goes_on : (ls : List (List ℕ))
      → judge (lines_of kept ++ ls) ≡ behind line (fields_in (lines_of kept)) (awaited awaits ls)
  pub begins : BeginsSo awaits kept (lines_of kept) line

-- a line has ended at a head's front: the lines before it, and where it begins
pub record LineEnded (judge : List (List ℕ) → Verdict) (kept : List ℕ) (line : ℕ) (awaits : Awaits) : Type 0 where
  pub before : List (List ℕ)
  pub lines : lines_of kept ≡ before ++ drop line kept ∷ []
  pub is_line : IsLine (drop line kept)
  pub begun : begun_from [] kept ≡ []
  pub within : line ≤ length kept
  pub goes_on : (ls : List (List ℕ)) → judge (before ++ ls) ≡ behind line (fields_in before) (awaited awaits ls)
  pub begins : BeginsSo awaits kept before line

-- how many bytes the first line has, or that no line ends
abbrev pub IsLineLen : List ℕ → Option ℕ → Type 0
IsLineLen bytes None = Lacks 10 bytes
IsLineLen bytes (Some n) = (0 < n) × (n ≤ length bytes) × IsLine (take n bytes)

-- the front of a piece was put behind what was kept, within a head's room
pub record Keeps (old new piece : List ℕ) (count : ℕ) : Type 0 where
  pub kept : new ≡ old ++ take count piece
  pub some : 0 < count
  pub within : count ≤ length piece
  pub short : length new ≤ head_limit

-- what was kept ends with the line, or holds no end of it and is all of the piece or all that the head has room for
abbrev pub KeepsLine : List ℕ → List ℕ → List ℕ → Kept → Type 0
KeepsLine old new piece (Line count) = Keeps old new piece count × IsLine (take count piece)
KeepsLine old new piece (Part count) =
    Keeps old new piece count × Lacks 10 (take count piece) × ((count ≡ length piece) ⊎ (length new ≡ head_limit))

-- no line of the head has ended yet
abbrev pub IsFirst : Awaits → Type 0
IsFirst UpdateHead = Unit {0}
IsFirst PatchHead = Unit {0}
IsFirst FirstField = ⊥
IsFirst MoreFields = ⊥

-- a line behind which the head goes on, awaiting what is named
pub record GoesOn (awaits : Awaits) (line : List ℕ) (next : Awaits) : Type 0 where
  pub some : is_empty_line line ≡ false
  pub later : IsFirst next → ⊥
  pub goes_on : (ls : List (List ℕ))
      → awaited awaits (line ∷ ls) ≡ behind (length line) (fields_in (line ∷ [])) (awaited next ls)

-- what a line is to a head, by what was awaited
abbrev pub Judges : Awaits → List ℕ → LineIs → Type 0
Judges awaits line Gap = IsFirst awaits × (is_empty_line line ≡ true)
Judges awaits line (Fine next) = GoesOn awaits line next
Judges awaits line Last = (is_empty_line line ≡ true) × (awaits ≡ MoreFields)
Judges awaits line (Bad reason) = (IsFirst awaits → is_empty_line line ≡ false)
    × (awaited awaits (line ∷ []) ≡ Wrong 0 reason)

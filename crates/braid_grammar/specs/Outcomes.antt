-- Reading from the left: what the bytes say of the thing that they begin with.
use Rattle.std.specs.Prelude.{ℕ, ◌+◌, List, [], ◌∷◌, ◌==◌, Result, Ok, Err, length, take, drop, if◌then◌else◌, nat_lt}
use Rattle.std.specs.Str.{chars, is_utf8}
use Rattle.braid_fields.specs.declared.reason.Reason.{Reason}
use Rattle.braid_fields.specs.declared.reason.Reason.TheVariants.{HeadTooLong, NotText}
use Rattle.braid_fields.specs.Fields.{Field}
use Rattle.braid_grammar.specs.Lines.{lines_of}
use Rattle.braid_grammar.specs.Heads.{Verdict, Open, Wrong, Closed}

-- it is not whole, or wrong at a place for a reason, or whole: its value, the place behind it and the bytes from there
pub data Outcome (A : Type 0) : Type 0 where
  Part : Outcome A
  Bad : ℕ → Reason → Outcome A
  Whole : A → ℕ → List ℕ → Outcome A

-- what comes after a thing that is whole
abbrev pub then_read : {A B : Type 0} → Outcome A → (A → ℕ → List ℕ → Outcome B) → Outcome B
then_read Part f = Part
then_read (Bad at r) f = Bad at r
then_read (Whole x at rest) f = f x at rest

-- a reason is a fault at this place
abbrev pub or_bad : {A B : Type 0} → ℕ → Result A Reason → (A → Outcome B) → Outcome B
or_bad at (Ok x) f = f x
or_bad at (Err r) f = Bad at r

-- the longest head, in bytes
unfoldable pub head_limit : ℕ
head_limit = 16_384

-- what a verdict on the lines within the limit says of the bytes
abbrev pub settle : ℕ → List ℕ → Verdict → Outcome (List Field)
settle at bytes Open = if nat_lt (length bytes) head_limit then Part else Bad at HeadTooLong
settle at bytes (Wrong k r) = Bad (at + k) r
settle at bytes (Closed fs n) = Whole fs (at + n) (drop n bytes)

-- a head: what the lines that end within the limit say of it
abbrev pub head_at : (List (List ℕ) → Verdict) → ℕ → List ℕ → Outcome (List Field)
head_at judge at bytes = settle at bytes (judge (lines_of (take head_limit bytes)))

-- a content of n bytes
abbrev pub content_at : ℕ → ℕ → List ℕ → Outcome (List ℕ)
content_at n at bytes =
    if nat_lt (length bytes) n then Part
    else (if is_utf8 (take n bytes) then Whole (chars (take n bytes)) (at + n) (drop n bytes) else Bad at NotText)

-- what comes after a gap
abbrev pub past_gap : {A : Type 0} → (ℕ → List ℕ → Outcome A) → ℕ → List ℕ → Outcome A
past_gap f at [] = f at []
past_gap f at (b ∷ []) = if b == 10 then f (at + 1) [] else f at (b ∷ [])
past_gap f at (b ∷ c ∷ bs) =
    if b == 10 then past_gap f (at + 1) (c ∷ bs)
    else (if b == 13 then (if c == 10 then past_gap f (at + 2) bs else f at (b ∷ c ∷ bs)) else f at (b ∷ c ∷ bs))

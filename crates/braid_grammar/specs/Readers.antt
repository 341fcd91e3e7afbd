-- What the readers of whole slices answer, in the words of the definitions.
use Rattle.std.specs.Prelude.{◌≡◌, ℕ, ◌≤◌, ◌++◌, List, Ok}
use Rattle.braid_change.specs.Updates.{UpdateView}
use Rattle.braid_fields.specs.declared.parts.HeadFields.{HeadFields}
use Rattle.braid_fields.specs.declared.plan.Plan.{Plan}
use Rattle.braid_fields.specs.Fields.{Field}
use Rattle.braid_fields.specs.Known.{known}
use Rattle.braid_fields.specs.Table.{judge_head}
use Rattle.braid_grammar.specs.declared.found.Found.{Found}
use Rattle.braid_grammar.specs.declared.found.Found.TheVariants as found
use Rattle.braid_grammar.specs.declared.head.HeadKind.{HeadKind}
use Rattle.braid_grammar.specs.declared.head.HeadKind.TheVariants.{OfUpdate, OfPatch}
use Rattle.braid_grammar.specs.declared.head.LinesVerdict.{LinesVerdict}
use Rattle.braid_grammar.specs.declared.head.LinesVerdict.TheVariants as said
use Rattle.braid_grammar.specs.declared.stream.StreamEnd.{StreamEnd}
use Rattle.braid_grammar.specs.declared.stream.StreamEnd.TheVariants as ends
use Rattle.braid_grammar.specs.Heads.{Verdict, Open, Wrong, Closed, some_fields_of, head_of}
use Rattle.braid_grammar.specs.Outcomes.{Outcome, Part, Bad, Whole, then_read}
use Rattle.braid_grammar.specs.Readings.{change_at}
use Rattle.braid_grammar.specs.Streams.{IsGap, BeginsNoEmptyLine, IsStream, IsFault, Completes, IsTorn}

-- what is left of bytes behind the gap that they begin with: no further empty line stands first in it
pub record IsBehindGap (bytes rest : List ℕ) : Type 0 where
  pub gap : List ℕ
  pub is_gap : IsGap gap
  pub stops : BeginsNoEmptyLine rest
  pub spelled : bytes ≡ gap ++ rest

-- what lines say of a head of this kind
abbrev pub judge_of : HeadKind → List (List ℕ) → Verdict
judge_of OfUpdate lines = head_of lines
judge_of OfPatch lines = some_fields_of lines

-- what lines say, with the known ones of the fields
abbrev pub IsVerdict : LinesVerdict → Verdict → Type 0
IsVerdict said.Open v = v ≡ Open
IsVerdict (said.Wrong k r) v = v ≡ Wrong k r
IsVerdict (said.Closed fields n) v = (fs : List Field) × (fields ≡ known fs) × (v ≡ Closed fs n)

-- what lines say stands within so many bytes
abbrev pub IsWithin : LinesVerdict → ℕ → Type 0
IsWithin said.Open n = Unit {0}
IsWithin (said.Wrong k r) n = k ≤ n
IsWithin (said.Closed fields k) n = k ≤ n

-- an answer is the outcome, with the known ones of a head's fields
abbrev pub FindsHead : Found HeadFields → Outcome (List Field) → Type 0
FindsHead found.Part o = o ≡ Part
FindsHead (found.Bad at r) o = o ≡ Bad at r
FindsHead (found.Whole fields at rest) o = (fs : List Field) × (fields ≡ known fs) × (o ≡ Whole fs at rest.now)

-- an answer is the outcome
abbrev pub Finds : {A : Type 0} → Found A → Outcome A → Type 0
Finds found.Part o = o ≡ Part
Finds (found.Bad at r) o = o ≡ Bad at r
Finds (found.Whole x at rest) o = o ≡ Whole x at rest.now

-- the bytes hold these updates whole, and end so
abbrev pub IsRead : List UpdateView → StreamEnd → List ℕ → Type 0
IsRead us ends.Gap bytes = IsStream us bytes
IsRead us (ends.Fault at reason) bytes = Completes us bytes × IsFault bytes at reason
IsRead us ends.Torn bytes = Completes us bytes × IsTorn bytes

-- what is left behind the last update is a gap, or more
abbrev pub IsEnd : List ℕ → StreamEnd → Type 0
IsEnd rest ends.Gap = IsGap rest
IsEnd rest (ends.Fault at reason) = ⊥
IsEnd rest ends.Torn = IsGap rest → ⊥

-- a plan that a head has
abbrev pub IsPlanned : Plan → Type 0
IsPlanned plan = (fs : List Field) × (judge_head fs ≡ Ok plan)

-- the update of a plan, from behind its head
abbrev pub update_behind : Plan → ℕ → List ℕ → Outcome UpdateView
update_behind plan at bytes =
    then_read (change_at plan.asks at bytes)
    (λ change last end. Whole (record { id = plan.id; parents = plan.parents; change = change }) last end)

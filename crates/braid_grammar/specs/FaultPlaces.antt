-- What is wrong where a fault stands, and which bytes stand before it.
use Rattle.std.specs.Prelude.{◌≡◌, ℕ, ◌+◌, ◌<◌, ◌≤◌, false, List, [], ◌∷◌, ◌++◌, length, Ok, Err}
use Rattle.std.specs.List.{AllByRecursion}
use Rattle.braid_ids.specs.Lists.{Lacks}
use Rattle.braid_change.specs.declared.patch.Patch.{Patch}
use Rattle.braid_change.specs.Changes.{patches_content}
use Rattle.braid_change.specs.Texts.{IsTextOf}
use Rattle.braid_change.specs.Updates.{UpdateView}
use Rattle.braid_fields.specs.declared.reason.Reason.{Reason}
use Rattle.braid_fields.specs.declared.reason.Reason.TheVariants.{BadStatus, BadLine, HeadTooLong, NotText}
use Rattle.braid_fields.specs.declared.plan.Asks.{Asks}
use Rattle.braid_fields.specs.declared.plan.Asks.TheVariants as asks
use Rattle.braid_fields.specs.declared.plan.Plan.{Plan}
use Rattle.braid_fields.specs.declared.plan.PatchPlan.{PatchPlan}
use Rattle.braid_fields.specs.Lines.{is_empty_line}
use Rattle.braid_fields.specs.Fields.{Field, IsFieldLine}
use Rattle.braid_fields.specs.Statuses.{BeginsStatus, IsStatusLine}
use Rattle.braid_fields.specs.Table.{judge_head, judge_patch}
use Rattle.braid_grammar.specs.Lines.{IsLine, join}
use Rattle.braid_grammar.specs.Outcomes.{head_limit}
use Rattle.braid_grammar.specs.Streams.{IsEmptyLine, IsGap, BeginsNoEmptyLine, HoldFields, HoldsStatus, IsPatchHead, IsHead, SpellPatches, IsStream}

-- whose head it is: an update's, or that of a patch after so many bytes of contents and a range that ended there
pub data Owner : Type 0 where
  AnUpdate : Owner
  APatch : ℕ → ℕ → Owner

-- the bytes are a head of this owner, with these fields
abbrev pub IsHeadOf : Owner → List Field → List ℕ → Type 0
IsHeadOf AnUpdate fields head = IsHead fields head
IsHeadOf (APatch used before) fields head = IsPatchHead fields head

-- the table of the head has this reason against the fields
abbrev pub HasReason : Owner → List Field → Reason → Type 0
HasReason AnUpdate fields reason = judge_head fields ≡ Err reason
HasReason (APatch used before) fields reason = judge_patch used before fields ≡ Err reason

-- an update's head asks for one content of so many bytes, and not for patches
abbrev pub AsksLength : Asks → ℕ → Type 0
AsksLength (asks.Body len) n = len ≡ n
AsksLength (asks.OnePatch plan) n = plan.len ≡ n
AsksLength (asks.Patches count) n = ⊥

-- the table has nothing against the fields, and they ask for a content of so many bytes
abbrev pub AsksContent : Owner → List Field → ℕ → Type 0
AsksContent AnUpdate fields n = (plan : Plan) × (judge_head fields ≡ Ok plan) × AsksLength plan.asks n
AsksContent (APatch used before) fields n = (plan : PatchPlan) × (judge_patch used before fields ≡ Ok plan)
    × (plan.len ≡ n)

-- how many status lines a head may have
abbrev pub most_statuses : Owner → ℕ
most_statuses AnUpdate = 1
most_statuses (APatch used before) = 0

-- good lines of a head that has begun: at most one status line, and only an update's, and then field lines
pub record AreGood (owner : Owner) (statuses fields : List (List ℕ)) : Type 0 where
  pub held : List Field
  pub few : length statuses ≤ most_statuses owner
  pub are_statuses : AllByRecursion HoldsStatus statuses
  pub are_fields : HoldFields held fields

-- behind such lines, a line is taken for a status line: it is the first of an update's head, and begins as one
pub record IsTakenForStatus (owner : Owner) (statuses fields : List (List ℕ)) (line : List ℕ) : Type 0 where
  pub of_update : owner ≡ AnUpdate
  pub no_status : statuses ≡ []
  pub no_field : fields ≡ []
  pub begins : BeginsStatus line

-- behind such lines, a line is wrong for this reason: a status line of another form; a line that is neither empty nor a
-- field line, nor taken for a status line; or an empty line directly behind a status line
pub data IsWrongLine (owner : Owner) (statuses fields : List (List ℕ)) (line : List ℕ) : Reason → Type 0 where
  other_form : IsTakenForStatus owner statuses fields line → (IsStatusLine line → ⊥)
      → IsWrongLine owner statuses fields line BadStatus
  no_field_line : is_empty_line line ≡ false → ((name value : List ℕ) → IsFieldLine name value line → ⊥)
      → (IsTakenForStatus owner statuses fields line → ⊥)
      → IsWrongLine owner statuses fields line BadLine
  no_field_yet : length statuses ≡ 1 → fields ≡ [] → IsEmptyLine line → IsWrongLine owner statuses fields line BadLine

-- the bytes begin with good lines and then a wrong one, all within the limit; the good ones are `offset` bytes
pub record HasWrongLine (owner : Owner) (bytes : List ℕ) (offset : ℕ) (reason : Reason) : Type 0 where
  pub statuses : List (List ℕ)
  pub fields : List (List ℕ)
  pub line : List ℕ
  pub more : List ℕ
  pub good : AreGood owner statuses fields
  pub is_line : IsLine line
  pub wrong : IsWrongLine owner statuses fields line reason
  pub short : length (join (statuses ++ fields)) + length line ≤ head_limit
  pub place : offset ≡ length (join (statuses ++ fields))
  pub spelled : bytes ≡ join (statuses ++ fields) ++ (line ++ more)

-- the bytes begin with as many as a head may have, and these are good lines and what has no LF yet
pub record IsTooLong (owner : Owner) (bytes : List ℕ) : Type 0 where
  pub statuses : List (List ℕ)
  pub fields : List (List ℕ)
  pub begun : List ℕ
  pub more : List ℕ
  pub good : AreGood owner statuses fields
  pub no_end : Lacks 10 begun
  pub long : length (join (statuses ++ fields)) + length begun ≡ head_limit
  pub spelled : bytes ≡ join (statuses ++ fields) ++ (begun ++ more)

-- the bytes begin with a head that has a reason against it
pub record HasWrongHead (owner : Owner) (bytes : List ℕ) (reason : Reason) : Type 0 where
  pub fields : List Field
  pub head : List ℕ
  pub more : List ℕ
  pub is_head : IsHeadOf owner fields head
  pub against : HasReason owner fields reason
  pub spelled : bytes ≡ head ++ more

-- the bytes begin with a head of `offset` bytes, and then the content of the length that it asks for, which is no UTF-8
pub record HasWrongContent (owner : Owner) (bytes : List ℕ) (offset : ℕ) : Type 0 where
  pub fields : List Field
  pub head : List ℕ
  pub content : List ℕ
  pub more : List ℕ
  pub is_head : IsHeadOf owner fields head
  pub asks : AsksContent owner fields (length content)
  pub no_text : (text : List ℕ) → IsTextOf text content → ⊥
  pub place : offset ≡ length head
  pub spelled : bytes ≡ head ++ (content ++ more)

-- in bytes from the first of a head on, this is wrong at this offset: a line, the head's length, the head or its content
pub data IsWrongBehind (owner : Owner) (bytes : List ℕ) (offset : ℕ) (reason : Reason) : Type 0 where
  by_line : HasWrongLine owner bytes offset reason → IsWrongBehind owner bytes offset reason
  by_length : offset ≡ 0 → reason ≡ HeadTooLong → IsTooLong owner bytes → IsWrongBehind owner bytes offset reason
  by_head : offset ≡ 0 → HasWrongHead owner bytes reason → IsWrongBehind owner bytes offset reason
  by_content : reason ≡ NotText → HasWrongContent owner bytes offset → IsWrongBehind owner bytes offset reason

-- where the last of the ranges ended, or the place before where there is none
abbrev pub last_end : ℕ → List Patch → ℕ
last_end before [] = before
last_end before (p ∷ ps) = last_end p.end ps

-- the bytes are a stream, the head of an update with patches, fewer patches than it asks for, and a gap; the contents of
-- these patches are `used` bytes, and the last of their ranges ended at `before`
pub record IsBeforePatch (used before : ℕ) (bytes : List ℕ) : Type 0 where
  pub updates : List UpdateView
  pub fields : List Field
  pub plan : Plan
  pub count : ℕ
  pub patches : List Patch
  pub front : List ℕ
  pub head : List ℕ
  pub content : List ℕ
  pub gap : List ℕ
  pub stream : IsStream updates front
  pub is_head : IsHead fields head
  pub judged : judge_head fields ≡ Ok plan
  pub asks : plan.asks ≡ asks.Patches count
  pub fewer : length patches < count
  pub spell : SpellPatches 0 0 patches content
  pub is_gap : IsGap gap
  pub used_is : used ≡ length (patches_content patches)
  pub before_is : before ≡ last_end 0 patches
  pub spelled : bytes ≡ front ++ (head ++ (content ++ gap))

-- a head of this owner may follow these bytes
abbrev pub IsBefore : Owner → List ℕ → Type 0
IsBefore AnUpdate bytes = (us : List UpdateView) × IsStream us bytes
IsBefore (APatch used before) bytes = IsBeforePatch used before bytes

-- the bytes are what may stand before a head, and then from the first line on that is not empty, something of this head or
-- of its content that is wrong at this place for this reason
pub record IsWrongAt (bytes : List ℕ) (at : ℕ) (reason : Reason) : Type 0 where
  pub owner : Owner
  pub front : List ℕ
  pub rest : List ℕ
  pub offset : ℕ
  pub before : IsBefore owner front
  pub begins : BeginsNoEmptyLine rest
  pub wrong : IsWrongBehind owner rest offset reason
  pub place : at ≡ length front + offset
  pub spelled : bytes ≡ front ++ rest

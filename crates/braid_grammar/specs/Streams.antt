-- Streams of updates, and their faults.
use Rattle.std.specs.Prelude.{◌≡◌, ℕ, ◌+◌, ◌≤◌, List, [], ◌∷◌, ◌++◌, true, Ok, length}
use Rattle.std.specs.List.{AllByRecursion}
use Rattle.braid_change.specs.declared.patch.Patch.{Patch}
use Rattle.braid_change.specs.declared.change.Change.{Change}
use Rattle.braid_change.specs.declared.change.Change.TheVariants.{Body, Patches}
use Rattle.braid_change.specs.Texts.{IsTextOf}
use Rattle.braid_change.specs.Updates.{UpdateView}
use Rattle.braid_fields.specs.declared.reason.Reason.{Reason}
use Rattle.braid_fields.specs.declared.plan.Asks.{Asks}
use Rattle.braid_fields.specs.declared.plan.Asks.TheVariants as asks
use Rattle.braid_fields.specs.declared.plan.Plan.{Plan}
use Rattle.braid_fields.specs.declared.plan.PatchPlan.{PatchPlan}
use Rattle.braid_fields.specs.Lines.{is_empty_line}
use Rattle.braid_fields.specs.Fields.{Field, IsFieldLine}
use Rattle.braid_fields.specs.Statuses.{IsStatusLine}
use Rattle.braid_fields.specs.Table.{judge_head, judge_patch}
use Rattle.braid_grammar.specs.Lines.{IsLine, join}
use Rattle.braid_grammar.specs.Outcomes.{Bad, head_limit}
use Rattle.braid_grammar.specs.Readings.{patch_len, next_at}

-- an empty line is LF, or CR and LF
abbrev pub IsEmptyLine : List ℕ → Type 0
IsEmptyLine line = is_empty_line line ≡ true

-- a gap is any number of empty lines
pub data IsGap : List ℕ → Type 0 where
  no_line : IsGap []
  one_more : (line rest : List ℕ) → IsEmptyLine line → IsGap rest → IsGap (line ++ rest)

-- the bytes begin with no empty line
abbrev pub BeginsNoEmptyLine : List ℕ → Type 0
BeginsNoEmptyLine bytes = (line more : List ℕ) → IsEmptyLine line → bytes ≡ line ++ more → ⊥

-- the line is a field line with this field
abbrev pub HoldsField : Field → List ℕ → Type 0
HoldsField f line = IsFieldLine f.name f.value line

-- field lines with these fields, in order
abbrev pub HoldFields : List Field → List (List ℕ) → Type 0
HoldFields [] [] = Unit {0}
HoldFields (f ∷ fs) (l ∷ ls) = HoldsField f l × HoldFields fs ls
HoldFields [] (l ∷ ls) = ⊥
HoldFields (f ∷ fs) [] = ⊥

-- one or more field lines, and an empty line
pub record IsFields (fs : List Field) (bytes : List ℕ) : Type 0 where
  pub lines : List (List ℕ)
  pub last : List ℕ
  pub some : 1 ≤ length lines
  pub fields : HoldFields fs lines
  pub empty : IsEmptyLine last
  pub spelled : bytes ≡ join lines ++ last

-- fields within the limit: the head of a patch
pub record IsPatchHead (fs : List Field) (bytes : List ℕ) : Type 0 where
  pub is_fields : IsFields fs bytes
  pub short : length bytes ≤ head_limit

-- one line that has the form of a status line
abbrev pub HoldsStatus : List ℕ → Type 0
HoldsStatus line = IsLine line × IsStatusLine line

-- at most one status line and then fields, within the limit: the head of an update
pub record IsHead (fs : List Field) (bytes : List ℕ) : Type 0 where
  pub status : List (List ℕ)
  pub fields : List ℕ
  pub few : length status ≤ 1
  pub good : AllByRecursion HoldsStatus status
  pub rest : IsFields fs fields
  pub spelled : bytes ≡ join status ++ fields
  pub short : length bytes ≤ head_limit

-- a content of so many bytes: the UTF-8 of this text
pub record IsContent (n : ℕ) (text bytes : List ℕ) : Type 0 where
  pub len : length bytes ≡ n
  pub is_text : IsTextOf text bytes

-- the patch has the range that its head asks for
abbrev pub HasRange : PatchPlan → Patch → Type 0
HasRange plan p = (p.start ≡ plan.start) × (p.end ≡ plan.end)

-- a patch, from its first line to its last byte, after so many bytes of contents and a range that ended there
pub record SpellsPatch (used before : ℕ) (p : Patch) (bytes : List ℕ) : Type 0 where
  pub fields : List Field
  pub plan : PatchPlan
  pub head : List ℕ
  pub content : List ℕ
  pub is_head : IsPatchHead fields head
  pub judged : judge_patch used before fields ≡ Ok plan
  pub range : HasRange plan p
  pub is_content : IsContent plan.len p.text content
  pub spelled : bytes ≡ head ++ content

-- something after a gap, and what follows it
pub record AfterGap (P Q : List ℕ → Type 0) (bytes : List ℕ) : Type 0 where
  pub gap : List ℕ
  pub first : List ℕ
  pub rest : List ℕ
  pub is_gap : IsGap gap
  pub is_first : P first
  pub is_rest : Q rest
  pub spelled : bytes ≡ gap ++ (first ++ rest)

-- patches, each after a gap
abbrev pub SpellPatches : ℕ → ℕ → List Patch → List ℕ → Type 0
SpellPatches used before [] bytes = bytes ≡ []
SpellPatches used before (p ∷ ps) bytes =
    AfterGap (SpellsPatch used before p) (SpellPatches (used + patch_len p) p.end ps) bytes

-- one patch whose range stands in the update's head
pub record IsOnePatch (plan : PatchPlan) (patches : List Patch) (bytes : List ℕ) : Type 0 where
  pub patch : Patch
  pub one : patches ≡ patch ∷ []
  pub range : HasRange plan patch
  pub is_content : IsContent plan.len patch.text bytes

-- the change that a head asks for: a body, one patch, or so many patches
abbrev pub SpellsChange : Asks → Change → List ℕ → Type 0
SpellsChange (asks.Body n) (Body text) bytes = IsContent n text bytes
SpellsChange (asks.OnePatch plan) (Patches ps) bytes = IsOnePatch plan ps bytes
SpellsChange (asks.Patches n) (Patches ps) bytes = (length ps ≡ n) × SpellPatches 0 0 ps bytes
SpellsChange (asks.Body n) (Patches ps) bytes = ⊥
SpellsChange (asks.OnePatch plan) (Body text) bytes = ⊥
SpellsChange (asks.Patches n) (Body text) bytes = ⊥

-- the bytes are one update, from its first line to its last byte
pub record SpellsUpdate (u : UpdateView) (bytes : List ℕ) : Type 0 where
  pub fields : List Field
  pub plan : Plan
  pub head : List ℕ
  pub content : List ℕ
  pub is_head : IsHead fields head
  pub judged : judge_head fields ≡ Ok plan
  pub id : u.id ≡ plan.id
  pub parents : u.parents ≡ plan.parents
  pub change : SpellsChange plan.asks u.change content
  pub spelled : bytes ≡ head ++ content

-- updates, each after a gap, and a last gap
abbrev pub IsStream : List UpdateView → List ℕ → Type 0
IsStream [] bytes = IsGap bytes
IsStream (u ∷ us) bytes = AfterGap (SpellsUpdate u) (IsStream us) bytes

-- what follows a stream in the bytes has a fault, at a place that counts from the first byte of all (`IsWrongAt` says the
-- same in words, and `laws::fault_in_words` that it is the same)
pub record IsFault (bytes : List ℕ) (at : ℕ) (reason : Reason) : Type 0 where
  pub updates : List UpdateView
  pub front : List ℕ
  pub rest : List ℕ
  pub stream : IsStream updates front
  pub fault : next_at (length front) rest ≡ Bad at reason
  pub spelled : bytes ≡ front ++ rest

-- the bytes have no fault
abbrev pub IsFaultless : List ℕ → Type 0
IsFaultless bytes = (at : ℕ) (reason : Reason) → IsFault bytes at reason → ⊥

-- the bytes are these updates, each after a gap, and hold no further update whole
pub record Completes (us : List UpdateView) (bytes : List ℕ) : Type 0 where
  pub front : List ℕ
  pub rest : List ℕ
  pub stream : IsStream us front
  pub no_more : (u : UpdateView) (gap first more : List ℕ) → IsGap gap → SpellsUpdate u first
      → rest ≡ gap ++ (first ++ more) → ⊥
  pub spelled : bytes ≡ front ++ rest

-- the bytes complete these updates and no more, and have no fault
pub record HaveUpdates (us : List UpdateView) (bytes : List ℕ) : Type 0 where
  pub completes : Completes us bytes
  pub faultless : IsFaultless bytes

-- the bytes end with the last byte of this update, which stands behind these ones
pub record EndsWith (us : List UpdateView) (u : UpdateView) (bytes : List ℕ) : Type 0 where
  pub front : List ℕ
  pub last : List ℕ
  pub stream : IsStream us front
  pub is_last : SpellsUpdate u last
  pub spelled : bytes ≡ front ++ last

-- the bytes begin with these updates and then this one, each whole
pub record BeginsWith (us : List UpdateView) (u : UpdateView) (bytes : List ℕ) : Type 0 where
  pub front : List ℕ
  pub rest : List ℕ
  pub ends : EndsWith us u front
  pub spelled : bytes ≡ front ++ rest

-- no stream, and no fault: the bytes end within a line, a head or a content, or before a patch
pub record IsTorn (bytes : List ℕ) : Type 0 where
  pub no_stream : (us : List UpdateView) → IsStream us bytes → ⊥
  pub no_fault : IsFaultless bytes

-- PUTs: which update the fields of a request and its whole body are, and what is wrong where they are none.
use Rattle.std.specs.Prelude.{◌≡◌, ℕ, ◌<◌, List, ◌++◌, length, Result, Ok, Err}
use Rattle.braid_change.specs.declared.patch.Patch.{Patch}
use Rattle.braid_change.specs.declared.change.Change.{Change}
use Rattle.braid_change.specs.Changes.{patches_content}
use Rattle.braid_change.specs.Texts.{IsTextOf}
use Rattle.braid_change.specs.Updates.{UpdateView}
use Rattle.braid_fields.specs.declared.parts.Parts.{Parts}
use Rattle.braid_fields.specs.declared.reason.Reason.{Reason}
use Rattle.braid_fields.specs.declared.reason.Reason.TheVariants.{NotText}
use Rattle.braid_fields.specs.declared.plan.Asks.{Asks}
use Rattle.braid_fields.specs.declared.plan.Asks.TheVariants as asks
use Rattle.braid_fields.specs.declared.plan.Plan.{Plan}
use Rattle.braid_fields.specs.declared.plan.PlanFault.{PlanFault}
use Rattle.braid_fields.specs.declared.plan.PlanFault.TheVariants as plans
use Rattle.braid_fields.specs.Table.{judge_put}
use Rattle.braid_grammar.specs.declared.put.PutFault.{PutFault}
use Rattle.braid_grammar.specs.declared.put.PutFault.TheVariants as faults
use Rattle.braid_grammar.specs.Streams.{IsGap, BeginsNoEmptyLine, SpellPatches, SpellsChange}
use Rattle.braid_grammar.specs.FaultPlaces.{APatch, IsWrongBehind, last_end}

-- the bytes are the content that is asked for, with this change, and a gap
pub record IsWhole (asks : Asks) (change : Change) (bytes : List ℕ) : Type 0 where
  pub content : List ℕ
  pub gap : List ℕ
  pub spells : SpellsChange asks change content
  pub is_gap : IsGap gap
  pub spelled : bytes ≡ content ++ gap

-- the bytes begin with so many, and these are no UTF-8
pub record BeginsNoText (len : ℕ) (bytes : List ℕ) : Type 0 where
  pub content : List ℕ
  pub more : List ℕ
  pub len_is : len ≡ length content
  pub no_text : (text : List ℕ) → IsTextOf text content → ⊥
  pub spelled : bytes ≡ content ++ more

-- the bytes begin with patches, fewer than so many, and a gap, and then from the first line on that is not empty, something
-- of the next patch is wrong for this reason
pub record BeginsWrongPatch (count : ℕ) (bytes : List ℕ) (reason : Reason) : Type 0 where
  pub patches : List Patch
  pub content : List ℕ
  pub gap : List ℕ
  pub rest : List ℕ
  pub offset : ℕ
  pub fewer : length patches < count
  pub spell : SpellPatches 0 0 patches content
  pub is_gap : IsGap gap
  pub begins : BeginsNoEmptyLine rest
  pub wrong : IsWrongBehind (APatch (length (patches_content patches)) (last_end 0 patches)) rest offset reason
  pub spelled : bytes ≡ content ++ (gap ++ rest)

-- of the content that is asked for, as far as the bytes have it, something is wrong for this reason
abbrev pub HasReason : Asks → List ℕ → Reason → Type 0
HasReason (asks.Body len) bytes reason = (reason ≡ NotText) × BeginsNoText len bytes
HasReason (asks.OnePatch plan) bytes reason = (reason ≡ NotText) × BeginsNoText plan.len bytes
HasReason (asks.Patches count) bytes reason = BeginsWrongPatch count bytes reason

-- the bytes end before the content that is asked for is whole: they begin with none, and nothing is wrong with what they have
pub record IsShort (asks : Asks) (bytes : List ℕ) : Type 0 where
  pub no_content : (change : Change) (content rest : List ℕ) → SpellsChange asks change content
      → bytes ≡ content ++ rest → ⊥
  pub no_reason : (reason : Reason) → HasReason asks bytes reason → ⊥

-- the bytes begin with the content that is asked for, and what follows it is no gap
pub record HasExtra (asks : Asks) (bytes : List ℕ) : Type 0 where
  pub change : Change
  pub content : List ℕ
  pub rest : List ℕ
  pub spells : SpellsChange asks change content
  pub no_gap : IsGap rest → ⊥
  pub spelled : bytes ≡ content ++ rest

-- what bytes say that are to be the content that is asked for, and a gap. Memory may come for any bytes
abbrev pub IsContentReading : Asks → List ℕ → Result Change PutFault → Type 0
IsContentReading asks bytes (Ok change) = IsWhole asks change bytes
IsContentReading asks bytes (Err (faults.Reason reason)) = HasReason asks bytes reason
IsContentReading asks bytes (Err faults.Short) = IsShort asks bytes
IsContentReading asks bytes (Err faults.Extra) = HasExtra asks bytes
IsContentReading asks bytes (Err faults.Memory) = Unit {0}

-- the fields of a PUT have this plan, where a body without `Patches` is as long as the whole body
abbrev pub IsPlanOf : Parts → List ℕ → Plan → Type 0
IsPlanOf parts body plan = judge_put (length body) parts ≡ Ok plan

-- the fields and the body of a PUT are this update: the body is the content that the fields ask for, and a gap
pub record SpellsPut (u : UpdateView) (parts : Parts) (body : List ℕ) : Type 0 where
  pub plan : Plan
  pub planned : IsPlanOf parts body plan
  pub id : u.id ≡ plan.id
  pub parents : u.parents ≡ plan.parents
  pub whole : IsWhole plan.asks u.change body

-- the fields of a PUT have this reason against them, or they have none and the content that they ask for has it
pub data HasPutReason (parts : Parts) (body : List ℕ) (reason : Reason) : Type 0 where
  of_fields : judge_put (length body) parts ≡ Err reason → HasPutReason parts body reason
  of_content : (plan : Plan) → IsPlanOf parts body plan → HasReason plan.asks body reason
      → HasPutReason parts body reason

-- what is wrong with a PUT. Memory may come for any
abbrev pub IsPutFault : Parts → List ℕ → PutFault → Type 0
IsPutFault parts body (faults.Reason reason) = HasPutReason parts body reason
IsPutFault parts body faults.Short = (plan : Plan) × IsPlanOf parts body plan × IsShort plan.asks body
IsPutFault parts body faults.Extra = (plan : Plan) × IsPlanOf parts body plan × HasExtra plan.asks body
IsPutFault parts body faults.Memory = Unit {0}

-- what the fields and the body of a PUT say
abbrev pub IsPutReading : Parts → List ℕ → Result UpdateView PutFault → Type 0
IsPutReading parts body (Ok u) = SpellsPut u parts body
IsPutReading parts body (Err fault) = IsPutFault parts body fault

-- the fault of a PUT whose fields have no plan
abbrev pub fault_of : PlanFault → PutFault
fault_of (plans.Reason reason) = faults.Reason reason
fault_of plans.Memory = faults.Memory

-- the fields with these lines of `Content-Length` in place of their own
abbrev pub with_length : List (List ℕ) → Parts → Parts
with_length values parts = record {
  version = parts.version;
  parents = parts.parents;
  merge_type = parts.merge_type;
  patches = parts.patches;
  length = values;
  range = parts.range;
  encoding = parts.encoding;
}

-- The phases of a framer: what bytes lead to each, and how what follows is read there.
use Rattle.std.specs.Prelude.{◌≡◌, ℕ, suc, ◌+◌, ◌<◌, List, ◌∷◌, ◌++◌, length, ◌^◌}
use Rattle.braid_change.specs.declared.patch.Patch.{Patch}
use Rattle.braid_change.specs.declared.change.Change.TheVariants.{Body as BodyOf, Patches}
use Rattle.braid_change.specs.Updates.{UpdateView}
use Rattle.braid_fields.specs.declared.plan.Plan.{Plan}
use Rattle.braid_grammar.specs.Heads.{Verdict, head_of, some_fields_of}
use Rattle.braid_grammar.specs.Outcomes.{Outcome, Part, Bad, Whole, then_read, content_at, head_limit}
use Rattle.braid_grammar.specs.Readings.{patch_len, patch_of, patches_at, change_at, next_at}
use Rattle.braid_grammar.specs.Streams.{IsStream, IsFault}
use Rattle.braid_frame.specs.declared.fed.FrameFault.{FrameFault}
use Rattle.braid_frame.specs.declared.state.Awaits.{Awaits}
use Rattle.braid_frame.specs.declared.state.Begun.{Begun}
use Rattle.braid_frame.specs.declared.state.Patching.{Patching}
use Rattle.braid_frame.specs.declared.state.Phase.{Phase}
use Rattle.braid_frame.specs.declared.state.Phase.TheVariants.{Lines, Body, PatchLines, PatchContent, Faulted, NoMemory}
use Rattle.braid_frame.specs.declared.state.State.{State}
use Rattle.braid_frame.specs.HeadLines.{AreLines, BeginsWithLine}

-- the update whose head was read and whose content is this text
abbrev pub body_update : Begun → List ℕ → UpdateView
body_update begun text = record { id = begun.id; parents = begun.parents; change = BodyOf text }

-- the update whose head was read and whose patches are these
abbrev pub patches_update : Begun → List Patch → UpdateView
patches_update begun patches = record { id = begun.id; parents = begun.parents; change = Patches patches }

-- the update in hand, once these patches have come behind those that are whole
abbrev pub with_patches : Patching → List Patch → ℕ → List ℕ → Outcome UpdateView
with_patches p patches at rest = Whole (patches_update p.begun (p.done.items ++ patches)) at rest

-- what bytes say of the update in hand behind one more patch that is whole
abbrev pub behind_patch : Patching → Patch → ℕ → List ℕ → Outcome UpdateView
behind_patch p patch at bytes =
    then_read (patches_at p.left (p.used + patch_len patch) patch.end at bytes)
    (λ patches last end. with_patches p (patch ∷ patches) last end)

-- what bytes say of the update whose head asks for this
abbrev pub behind_head : Plan → ℕ → List ℕ → Outcome UpdateView
behind_head plan at bytes =
    then_read (change_at plan.asks at bytes)
    (λ change last end. Whole (record { id = plan.id; parents = plan.parents; change = change }) last end)

-- what bytes say of an update of so many patches
abbrev pub behind_count : Begun → ℕ → ℕ → List ℕ → Outcome UpdateView
behind_count begun count at bytes =
    then_read (patches_at count 0 0 at bytes) (λ patches last end. Whole (patches_update begun patches) last end)

-- what bytes say of the update in hand: `at` is the place of the first of them, which is the first that is kept
abbrev pub resume : Phase → ℕ → List ℕ → Outcome UpdateView
resume Lines at bytes = next_at at bytes
resume (Body begun len) at bytes =
    then_read (content_at len at bytes) (λ text last end. Whole (body_update begun text) last end)
resume (PatchLines p) at bytes =
    then_read (patches_at (suc p.left) p.used p.before at bytes) (λ patches last end. with_patches p patches last end)
resume (PatchContent p plan) at bytes =
    then_read (content_at plan.len at bytes) (λ text last end. behind_patch p (patch_of plan text) last end)
resume (Faulted f) at bytes = Bad f.at f.reason
resume NoMemory at bytes = Part

-- between updates all that is left over is kept; else it begins with a line of the update's head
abbrev pub IsLeft : Phase → List ℕ → List ℕ → Type 0
IsLeft Lines kept rest = rest ≡ kept
IsLeft (Faulted f) kept rest = ⊥
IsLeft NoMemory kept rest = ⊥
IsLeft _ kept rest = BeginsWithLine rest

-- bytes lead to a phase: they are a stream of these updates and what is left over, and with whatever follows they go on
-- as what is kept
pub record LeadsTo (us : List UpdateView) (phase : Phase) (at : ℕ) (kept bytes : List ℕ) : Type 0 where
  pub front : List ℕ
  pub rest : List ℕ
  pub stream : IsStream us front
  pub spelled : bytes ≡ front ++ rest
  pub place : at + length kept ≡ length bytes
  pub goes_on : (more : List ℕ) → next_at (length front) (rest ++ more) ≡ resume phase at (kept ++ more)
  pub left : IsLeft phase kept rest

-- behind these updates the bytes have this fault
abbrev pub HasFault : List UpdateView → List ℕ → FrameFault → Type 0
HasFault us bytes f = (fault : IsFault bytes f.at f.reason) × (fault.updates ≡ us)

-- a framer in this phase was fed bytes that complete these updates. Nothing is said of one that had no memory
abbrev pub StandsAs : Phase → List UpdateView → ℕ → List ℕ → List ℕ → Type 0
StandsAs (Faulted f) us at kept bytes = HasFault us bytes f
StandsAs NoMemory us at kept bytes = ⊥
StandsAs phase us at kept bytes = LeadsTo us phase at kept bytes

-- what lines say of the head that is being read: a patch's, else an update's
abbrev pub judge_of : Phase → List (List ℕ) → Verdict
judge_of (PatchLines p) ls = some_fields_of ls
judge_of _ ls = head_of ls

-- what is kept is not yet whole, and nothing is wrong with it
abbrev pub IsInHand : Phase → List ℕ → ℕ → Awaits → Type 0
IsInHand Lines kept line awaits = AreLines head_of kept line awaits × (length kept < head_limit)
IsInHand (Body begun len) kept line awaits = length kept < len
IsInHand (PatchLines p) kept line awaits = AreLines some_fields_of kept line awaits × (length kept < head_limit)
IsInHand (PatchContent p plan) kept line awaits = (length kept < plan.len) × (p.used + plan.len < 2 ^ 32)
IsInHand _ kept line awaits = Unit {0}

-- what is true of every framer's state
abbrev pub IsFraming : State → Type 0
IsFraming s = IsInHand s.phase s.kept.items s.line s.awaits

-- it has answered no fault and no want of memory
abbrev pub IsReading : Phase → Type 0
IsReading (Faulted f) = ⊥
IsReading NoMemory = ⊥
IsReading _ = Unit {0}

-- What bytes begin with: a patch, patches, an update, and an update after a gap.
use Rattle.std.specs.Prelude.{ℕ, zero, suc, ◌+◌, List, [], ◌∷◌, length, encode_utf8_all}
use Rattle.braid_change.specs.declared.patch.Patch.{Patch}
use Rattle.braid_change.specs.declared.change.Change.{Change}
use Rattle.braid_change.specs.declared.change.Change.TheVariants.{Body, Patches}
use Rattle.braid_change.specs.Updates.{UpdateView}
use Rattle.braid_fields.specs.declared.plan.Asks.{Asks}
use Rattle.braid_fields.specs.declared.plan.Asks.TheVariants as asks
use Rattle.braid_fields.specs.declared.plan.PatchPlan.{PatchPlan}
use Rattle.braid_fields.specs.Table.{judge_head, judge_patch}
use Rattle.braid_grammar.specs.Heads.{head_of, some_fields_of}
use Rattle.braid_grammar.specs.Outcomes.{Outcome, Whole, then_read, or_bad, head_at, content_at, past_gap}

-- the number of bytes of a patch's content
abbrev pub patch_len : Patch → ℕ
patch_len p = length (encode_utf8_all p.text)

-- the patch of this text and the range that its head asks for
abbrev pub patch_of : PatchPlan → List ℕ → Patch
patch_of plan text = record { start = plan.start; end = plan.end; text = text }

-- a patch, after so many bytes of contents and a range that ended there
abbrev pub patch_at : ℕ → ℕ → ℕ → List ℕ → Outcome Patch
patch_at used before at bytes =
    then_read (head_at some_fields_of at bytes) (λ fs after rest. or_bad at (judge_patch used before fs) (λ plan.
    then_read (content_at plan.len after rest) (λ text last end. Whole (patch_of plan text) last end)))

-- so many patches, each after a gap
abbrev pub patches_at : ℕ → ℕ → ℕ → ℕ → List ℕ → Outcome (List Patch)
patches_at zero used before at bytes = Whole [] at bytes
patches_at (suc n) used before at bytes =
    then_read (past_gap (patch_at used before) at bytes) (λ p after rest.
    then_read (patches_at n (used + patch_len p) p.end after rest) (λ ps last end. Whole (p ∷ ps) last end))

-- the change that a head asks for
abbrev pub change_at : Asks → ℕ → List ℕ → Outcome Change
change_at (asks.Body n) at bytes = then_read (content_at n at bytes) (λ text last end. Whole (Body text) last end)
change_at (asks.OnePatch plan) at bytes =
    then_read (content_at plan.len at bytes) (λ text last end. Whole (Patches (patch_of plan text ∷ [])) last end)
change_at (asks.Patches n) at bytes = then_read (patches_at n 0 0 at bytes) (λ ps last end. Whole (Patches ps) last end)

-- an update, from its first line on
abbrev pub update_at : ℕ → List ℕ → Outcome UpdateView
update_at at bytes =
    then_read (head_at head_of at bytes) (λ fs after rest. or_bad at (judge_head fs) (λ plan.
    then_read (change_at plan.asks after rest)
    (λ change last end. Whole (record { id = plan.id; parents = plan.parents; change = change }) last end)))

-- an update after a gap
abbrev pub next_at : ℕ → List ℕ → Outcome UpdateView
next_at at bytes = past_gap update_at at bytes

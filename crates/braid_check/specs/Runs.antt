-- What a run of `check` leaves, by its words, the bytes that it read and how reading ended.
use Rattle.std.specs.Prelude.{◌≡◌, ◌≢◌, ℕ, ◌<◌, ◌≤◌, ◌⊎◌, List, [], ◌∷◌, Some, length, codes}
use Rattle.braid_io.specs.Outside.{Intake, Outflow, Moves, Rose, WritesAll, WritesPart}
use Rattle.braid_io.specs.declared.status.Status.{Status}
use Rattle.braid_io.specs.declared.status.Status.TheVariants.{Done, Outside, Memory}
use Rattle.braid_lines.specs.Prints.{EndsAsUsage}
use Rattle.braid_change.specs.Updates.{UpdateView}
use Rattle.braid_grammar.specs.Streams.{IsStream}
use Rattle.braid_stream.specs.Pieces.{GivesBytes, FailsBehind, EndsBehind}
use Rattle.braid_stream.specs.Readers.{most_bytes}
use Rattle.braid_check.specs.Accepted.{AreAccepted, history_of}
use Rattle.braid_check.specs.CheckTexts.{Ending, found, ended, failed, spent, IsCheckText, history_text}

-- Reading ended so, after these bytes: with what they show; at the source's end, below the limit; at a read that
-- failed, where the source's count of faults rose; or at the limit.
abbrev pub EndsAfter : Ending → List ℕ → Intake → Intake → Type 0
EndsAfter found bytes before after = Moves bytes before after × (length bytes ≤ most_bytes)
EndsAfter ended bytes before after = EndsBehind bytes before after × (length bytes < most_bytes)
EndsAfter failed bytes before after = FailsBehind bytes before after × (length bytes < most_bytes)
EndsAfter spent bytes before after = Moves bytes before after × (length bytes ≡ most_bytes)

-- a run that read these bytes, and had this status and text to report
pub record Checked (before after : Intake) (status : Status) (text : List ℕ) : Type 0 where
  pub ending : Ending
  pub bytes : List ℕ
  pub reads : EndsAfter ending bytes before after
  pub reports : IsCheckText ending bytes status text

-- the source gave some bytes, no more than the limit, whether or not it then failed
pub record GivesSome (before after : Intake) : Type 0 where
  pub bytes : List ℕ
  pub short : length bytes ≤ most_bytes
  pub gives : GivesBytes bytes before after

-- The run's whole text was written under its own status; or a write failed, a front of the text was written, and the
-- status is Outside. At Memory nothing was written, and what the source gave was taken.
abbrev pub CheckRuns : Status → Intake → Intake → Outflow → Outflow → Type 0
CheckRuns Memory before after old new = GivesSome before after × (new ≡ old)
CheckRuns status before after old new =
    ((text : List ℕ) × Checked before after status text × WritesAll text old new)
    ⊎ ((status ≡ Outside)
    × ((own : Status) × (text : List ℕ) × Checked before after own text × WritesPart text old new))

-- the words of `check`
abbrev pub check_words : List (List ℕ)
check_words = codes "check" ∷ []

-- other words: the source is left alone, and the line is written
pub record LeavesAlone (status : Status) (before after : Intake) (old new : Outflow) : Type 0 where
  pub untouched : after ≡ before
  pub line : EndsAsUsage status old new

-- a run on these words
pub record Runs (words : List (List ℕ)) (status : Status) (before after : Intake) (old new : Outflow) : Type 0 where
  pub check : words ≡ check_words → CheckRuns status before after old new
  pub others : words ≢ check_words → LeavesAlone status before after old new

-- A stream of accepted updates is never answered with a fault: where the word is `check`, the source tells that it has
-- such a stream left, below the limit, and neither count of faults rose, the text of their history was written under
-- status Done, or there was no memory.
abbrev pub Succeeds : List (List ℕ) → Status → Intake → Intake → Outflow → Outflow → Type 0
Succeeds words status before after old new =
    (us : List UpdateView) (bytes : List ℕ) → words ≡ check_words → before.left ≡ Some bytes → AreAccepted us
    → IsStream us bytes → length bytes < most_bytes
    → ¬ Rose before.faults after.faults → ¬ Rose old.faults new.faults
    → (status ≡ Memory) ⊎ ((status ≡ Done) × WritesAll (history_text (history_of us)) old new)

-- Where bytes that spell no state depart from the form.
use Rattle.std.specs.Prelude.{◌≡◌, ◌≢◌, ℕ, ◌+◌, ◌<◌, List, [], ◌++◌, length, take}
use Rattle.braid_change.specs.Updates.{UpdateView}
use Rattle.braid_grammar.specs.Streams.{IsGap, SpellsUpdate, BeginsNoEmptyLine}
use Rattle.braid_state.specs.declared.state.StateFault.{StateFault}
use Rattle.braid_state.specs.declared.state.StateFault.TheVariants.{BadState, Memory}
use Rattle.braid_state.specs.Heads.{Head, head_lines, count_of, HasLines}
use Rattle.braid_state.specs.States.{UpdatesThen, end_mark}

-- the bytes are so many lines of a head and then the rest, and begin with no head's lines up to the next
pub record LacksLine (rest bytes : List ℕ) : Type 0 where
  pub count : ℕ
  pub head : Head
  pub fewer : count < length head_lines
  pub good : HasLines (take count head_lines) head rest bytes
  pub bad : (other : Head) (more : List ℕ) → HasLines (take (count + 1) head_lines) other more bytes → ⊥

-- the bytes do not begin with an update after a gap
abbrev pub BeginsNoUpdate : List ℕ → Type 0
BeginsNoUpdate bytes = (u : UpdateView) (gap first more : List ℕ) → IsGap gap → SpellsUpdate u first
    → bytes ≡ gap ++ (first ++ more) → ⊥

-- the body is fewer updates than that and then the rest, which begins with no further one
pub record LacksUpdate (count : ℕ) (rest body : List ℕ) : Type 0 where
  pub updates : List UpdateView
  pub fewer : length updates < count
  pub good : UpdatesThen updates rest body
  pub bad : BeginsNoUpdate rest

-- the bytes are a gap, with no further empty line behind it, and then the rest, which does not begin with the end mark
pub record LacksEnd (rest bytes : List ℕ) : Type 0 where
  pub gap : List ℕ
  pub is_gap : IsGap gap
  pub stops : BeginsNoEmptyLine rest
  pub spelled : bytes ≡ gap ++ rest
  pub bad : (more : List ℕ) → rest ≢ end_mark ++ more

-- the bytes are a gap, the end mark, and then the rest, which is not empty
pub record HasMore (rest bytes : List ℕ) : Type 0 where
  pub gap : List ℕ
  pub is_gap : IsGap gap
  pub spelled : bytes ≡ gap ++ (end_mark ++ rest)
  pub some : rest ≢ []

-- behind all updates, what stands after the gap is not the end mark, or something follows the end mark
pub data IsBadTail (rest bytes : List ℕ) : Type 0 where
  no_end : LacksEnd rest bytes → IsBadTail rest bytes
  past_end : HasMore rest bytes → IsBadTail rest bytes

-- a body of so many updates is bad from here: an update with the gap before it is none, or all are and the tail is bad
pub data IsBadBody (count : ℕ) (rest body : List ℕ) : Type 0 where
  bad_update : LacksUpdate count rest body → IsBadBody count rest body
  bad_tail : (updates : List UpdateView) (tail : List ℕ) → length updates ≡ count → UpdatesThen updates tail body
      → IsBadTail rest tail → IsBadBody count rest body

-- the bytes spell no state, and the first that is not of the form is here: a line of the head, or something of the body behind
-- a whole head
pub data IsBadFrom (rest bytes : List ℕ) : Type 0 where
  bad_line : LacksLine rest bytes → IsBadFrom rest bytes
  bad_body : (head : Head) (body : List ℕ) → HasLines head_lines head body bytes
      → IsBadBody (count_of head.confirmed + count_of head.unsent) rest body
      → IsBadFrom rest bytes

-- the fault of bytes that spell no state: the place where the bad rest begins, which is their length where nothing stands
-- there. Memory may come for any bytes
abbrev pub IsStateFault : List ℕ → StateFault → Type 0
IsStateFault bytes (BadState at) = (rest : List ℕ) × IsBadFrom rest bytes × (at + length rest ≡ length bytes)
IsStateFault bytes Memory = Unit {0}

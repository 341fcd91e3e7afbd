-- What a session leaves: what it read, what it answered, and how it ended.
use Rattle.std.specs.Prelude.{◌≡◌, ◌≢◌, ℕ, ◌+◌, ◌≤◌, ◌⊎◌, Bool, false, List, length, if◌then◌else◌}
use Rattle.std.specs.Io.KnownBytes.{append_known, prepend_known}
use Rattle.braid_io.specs.Outside.{Intake, Outflow, Rose}
use Rattle.braid_io.specs.Bells.{Ringing}
use Rattle.braid_hall.specs.Passes.{PassView}
use Rattle.braid_store.specs.declared.entry.Entry.{Entry}
use Rattle.braid_session.specs.declared.serving.Serving.{Serving}
use Rattle.braid_session.specs.declared.session.SessionEnd.{SessionEnd}
use Rattle.braid_session.specs.declared.session.SessionEnd.TheVariants.{ReadFault}
use Rattle.braid_session.specs.declared.session.SessionNote.{SessionNote}
use Rattle.braid_session.specs.Sessions.{Placed, goes_on, Answered}
use Rattle.braid_session.specs.InTurn.{SaysInTurn}
use Rattle.braid_session.specs.Ends.{ArePlaced, Passed, Done, Ends}
use Rattle.braid_session.specs.Watches.{BellUse, IsHeard, EndsWatching}

-- a read failed only where the session ended so
abbrev pub FaultsOnlyAt : SessionEnd → ℕ → ℕ → Type 0
FaultsOnlyAt end old new = (end ≢ ReadFault → new ≡ old) × (end ≡ ReadFault → (old ≤ new) × Rose old new)

-- A session of which no request is a subscription that is served: the bell answered no Again, and no head of one was written.
pub record EndsUnwatched (end : SessionEnd) (s : Serving) (by : ℕ) (book : List Entry) (look : ℕ) (d : Done) (marks : List ℕ) (entries : List Placed) (heard : BellUse) (begun : Bool)
    (intake : Intake) (before after : Outflow) : Type 0 where
  pub not_heard : heard.agains ≡ 0
  pub not_begun : begun ≡ false
  pub ends : Ends end s by book look d marks entries intake before after

-- one where the head of a subscription was written whole, which then counts as a request
abbrev pub heads_of : Bool → ℕ
heads_of begun = if begun then 1 else 0

-- What a session read, what it answered, what it heard of its bell, and how it ended, on a book that has these entries at
-- their places.
pub record Fits (s : Serving) (note : SessionNote) (by : ℕ) (book : List Entry) (look : ℕ) (entries : List Placed) (heard : BellUse) (from to : Intake) (before after : Outflow) : Type 0 where
  pub r : List ℕ
  pub done : Done
  pub begun : Bool
  pub taken : to.taken ≡ append_known from.taken r
  pub left : from.left ≡ prepend_known r to.left
  pub faults : FaultsOnlyAt note.end from.faults to.faults
  pub answered : Answered s by book r done.requests done.rest done.marks done.entries done.text goes_on
  pub count : note.requests ≡ length done.requests + heads_of begun
  pub placed : ArePlaced book entries
  pub ends : EndsUnwatched note.end s by book look done note.marks.items entries heard begun to before after
      ⊎ EndsWatching note.end s by book look done note.marks.items entries heard begun before after

-- The same of a pass that gained these marks and entries, and of a bell that was rung for each entry. The marks of the requests
-- that were answered stand in the history as these follow one another: what a request added is the entry at its mark, and the
-- next mark is above it.
pub record Serves (s : Serving) (note : SessionNote) (p q : PassView Entry) (from to : Intake) (before after : Outflow) (bell rung : Ringing) : Type 0 where
  pub entries : List Placed
  pub heard : BellUse
  pub fits : Fits s note q.number q.seen q.look entries heard from to before after
  pub passed : Passed p q note.marks.items entries
  pub in_turn : SaysInTurn s q.number q.seen fits.done.requests fits.done.marks fits.done.entries fits.done.text goes_on (length p.seen) (length q.seen)
  pub rings : IsHeard heard.agains (length entries) bell rung
  pub left : heard.left ≡ rung.answers

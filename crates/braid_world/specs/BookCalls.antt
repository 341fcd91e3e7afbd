-- What the calls of one event make of a book.
use Rattle.std.specs.Prelude.{◌≡◌, ℕ, List, if◌then◌else◌}
use Rattle.braid_change.specs.Updates.{UpdateView}
use Rattle.braid_store.specs.declared.entry.Entry.{Entry}
use Rattle.braid_store.specs.Answers.{put_answer}
use Rattle.braid_outbox.specs.declared.world.Side.{Side}
use Rattle.braid_outbox.specs.Worlds.{is_foreign}
use Rattle.braid_world.specs.Events.{entry_at, put_status, after_put}

-- the book after an update was put to a path
abbrev pub put_on : List ℕ → ℕ → List Entry → UpdateView → List Entry
put_on path by B u = after_put B (entry_at path by u) (put_answer B (entry_at path by u))

-- an update was put to a path of a book, and this status was told
pub record IsTold (path : List ℕ) (by : ℕ) (B C : List Entry) (u : UpdateView) (status : ℕ) : Type 0 where
  pub put : C ≡ put_on path by B u
  pub told : status ≡ put_status (put_answer B (entry_at path by u))

-- an update of another author was put, where it is one
abbrev pub Joins : List ℕ → ℕ → List Entry → List Entry → List Side → UpdateView → Type 0
Joins path by B C sides u = C ≡ (if is_foreign u.id sides then put_on path by B u else B)

-- What of a history is outside the ancestry of a frontier.
use Rattle.std.specs.Prelude.{ℕ, List, filter, Bool, not}
use Rattle.braid_change.specs.Updates.{UpdateView}
use Rattle.braid_text.specs.Versions.{has_version}
use Rattle.braid_text.specs.Histories.{ancestors_at}

-- whether an update is outside the ancestry of a frontier
abbrev pub is_outside : List UpdateView → List (List ℕ) → UpdateView → Bool
is_outside H F u = not (has_version u.id (ancestors_at H F))

-- the updates outside the ancestry of a frontier, in their order
abbrev pub sent : List UpdateView → List (List ℕ) → List UpdateView
sent H F = filter (is_outside H F) H

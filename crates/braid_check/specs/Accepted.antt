-- What a replica takes of the updates of a stream: which of them it accepts, and the history that they leave.
use Rattle.std.specs.Prelude.{◌≡◌, List, [], ◌∷◌, ◌++◌, reverse, if◌then◌else◌}
use Rattle.std.specs.List.{list_any}
use Rattle.braid_change.specs.Updates.{UpdateView}
use Rattle.braid_text.specs.Refusals.{same_update}
use Rattle.braid_text.specs.Answers.{room_of, answer_to}
use Rattle.braid_text.specs.declared.accept.Accept.{Accept}
use Rattle.braid_text.specs.declared.accept.Accept.TheVariants.{New, Known, Clash, UnknownParent, OutOfRange, Full, Memory}
use Rattle.braid_text.specs.Rooms.{replica_limits}

-- what a replica with this history answers to one more update
abbrev pub replica_answer : List UpdateView → UpdateView → Accept
replica_answer H u = answer_to (room_of replica_limits H) H u

-- the answer accepts the update: it is new and joined the history, or it is known
abbrev pub IsAccepted : Accept → Type 0
IsAccepted New = Unit {0}
IsAccepted Known = Unit {0}
IsAccepted (Clash id) = ⊥
IsAccepted (UnknownParent id) = ⊥
IsAccepted (OutOfRange patch len) = ⊥
IsAccepted (Full which need room) = ⊥
IsAccepted Memory = ⊥

-- updates that stand newest first, each of them once, where it came first
abbrev pub once_in : List UpdateView → List UpdateView
once_in [] = []
once_in (u ∷ us) = if list_any (same_update u) us then once_in us else u ∷ once_in us

-- the history that updates leave: each of them once, in the order in which they first came
abbrev pub history_of : List UpdateView → List UpdateView
history_of us = reverse (once_in (reverse us))

-- each update is new or known to a replica that took those before it
abbrev pub AreAccepted : List UpdateView → Type 0
AreAccepted us = (front back : List UpdateView) (u : UpdateView) → us ≡ front ++ u ∷ back
    → IsAccepted (replica_answer (history_of front) u)

-- behind these updates, each of which is accepted, this one is not
pub record IsRefused (us : List UpdateView) (u : UpdateView) : Type 0 where
  pub accepted : AreAccepted us
  pub refused : ¬ (IsAccepted (replica_answer (history_of us) u))

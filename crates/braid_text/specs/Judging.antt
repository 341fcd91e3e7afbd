-- The parts of an answer to an update.
use Rattle.std.specs.Prelude.{◌≡◌, ◌≢◌, ℕ, List}
use Rattle.braid_change.specs.Updates.{UpdateView}
use Rattle.braid_text.specs.declared.accept.Accept.{Accept}
use Rattle.braid_text.specs.declared.accept.Accept.TheVariants.{New, Known, Clash, UnknownParent, OutOfRange, Full, Memory}

-- the answer to an update whose identifier is that of a held one: whether both are the same. Memory may come for two that differ
abbrev pub IsHeldAnswer : UpdateView → UpdateView → Accept → Type 0
IsHeldAnswer held u Known = held ≡ u
IsHeldAnswer held u (Clash v) = (v ≡ u.id) × (held ≢ u)
IsHeldAnswer held u Memory = held ≢ u
IsHeldAnswer held u New = ⊥
IsHeldAnswer held u (UnknownParent v) = ⊥
IsHeldAnswer held u (OutOfRange patch len) = ⊥
IsHeldAnswer held u (Full which need room) = ⊥

-- the answer names this parent, or there was no memory to name it
abbrev pub NamesParent : List ℕ → Accept → Type 0
NamesParent v (UnknownParent w) = w ≡ v
NamesParent v Memory = Unit {0}
NamesParent v New = ⊥
NamesParent v Known = ⊥
NamesParent v (Clash w) = ⊥
NamesParent v (OutOfRange patch len) = ⊥
NamesParent v (Full which need room) = ⊥

use Rattle.std.proofs.Common.{◌≡◌, ◌≤◌, ◌∷◌, ℕ, List, filter, length, not, take}
use Rattle.std.specs.Ordering.{is_eq}
use Rattle.braid_ids.specs.Identifiers.{id_cmp}
use Rattle.braid_outbox.proofs.merging.merged.Given as goal

abbrev pub invariant-loop-n : goal.invariant-loop-n
invariant-loop-n l = (l.ids.items ≡ l.last ∷ filter (λ (w : List ℕ). not (is_eq (id_cmp l.last w))) (take l.n l.of)) × (length l.ids.items ≤ 32)

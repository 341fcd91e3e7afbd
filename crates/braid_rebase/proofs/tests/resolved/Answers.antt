use Rattle.std.proofs.Common.{List, ℕ, subst}
use Rattle.braid_graph.specs.Entries.{HoldsAll}
use Rattle.braid_rebase.proofs.tests.resolved.Goals as goal

pub resolve-requires : goal.resolve-requires
resolve-requires c = record { held = subst (λ (F : List (List ℕ)). HoldsAll c.in_ok-doc.graph F) c.parents.ensures.value c.in-None.ensures.none }

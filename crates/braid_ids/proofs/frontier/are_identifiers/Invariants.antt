use Rattle.std.proofs.Common.{List, ℕ, ◌<◌, get_or}
use Rattle.braid_ids.specs.Identifiers.{IsIdentifier}
use Rattle.braid_ids.proofs.frontier.are_identifiers.Given as goal

abbrev pub invariant-loop-id : goal.invariant-loop-id
invariant-loop-id l = (k : ℕ) (d : List ℕ) → k < l.id-index → IsIdentifier (get_or l.ids k d)

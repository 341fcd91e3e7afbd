use Rattle.std.proofs.Common.{◌≡◌, ◌≤◌, length}
use Rattle.std.specs.List.{list_any}
use Rattle.braid_ids.specs.MarkSets.{has_mark}
use Rattle.braid_spans.specs.Kept.{chain_at, chains_of, reach}
use Rattle.braid_spans.proofs.link.is_deleted.Given as goal

-- of the versions passed none is marked
abbrev pub invariant-loop-next : goal.invariant-loop-next
invariant-loop-next l = record {
  within : reach l.next ≤ length l.links;
  left : list_any (has_mark l.marks) (chain_at (chains_of l.links) l.next) ≡ list_any (has_mark l.marks) (chain_at (chains_of l.links) l.fn.newest);
}

abbrev pub decreases-loop-next : goal.decreases-loop-next
decreases-loop-next l = reach l.next

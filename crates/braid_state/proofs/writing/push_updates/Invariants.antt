use Rattle.std.proofs.Common.{◌≡◌, ◌++◌, take}
use Rattle.std.specs.List.{AllByRecursion}
use Rattle.braid_change.specs.Updates.{IsUpdate}
use Rattle.braid_change.specs.Spellings.{canonical_all}
use Rattle.braid_state.proofs.writing.push_updates.Given as goal

abbrev pub invariant-loop-update : goal.invariant-loop-update
invariant-loop-update l = record {
  put : l.out ≡ l.initial.out ++ canonical_all (take l.update-index l.updates);
  valid : AllByRecursion IsUpdate (take l.update-index l.updates);
}

use Rattle.std.proofs.Common.{◌≡◌, take}
use Rattle.std.specs.List.{AllByRecursion}
use Rattle.braid_ids.specs.Identifiers.{IsIdentifier, spelled_ids}
use Rattle.braid_shelf.proofs.write.write_strings.Given as goal

abbrev pub invariant-loop-n : goal.invariant-loop-n
invariant-loop-n l = record {
  written : l.value ≡ spelled_ids (take l.n l.list);
  valid : AllByRecursion IsIdentifier (take l.n l.list);
}

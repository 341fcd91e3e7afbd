use Rattle.std.proofs.Common.{◌≡◌, ◌++◌, map}
use Rattle.braid_shelf.specs.Lists.{param_of}
use Rattle.braid_shelf.proofs.param_map.ParamMap.into_list.Given as goal

abbrev pub invariant-loop-key : goal.invariant-loop-key
invariant-loop-key l = l.params.items ++ map param_of l.key-iterator ≡ l.fn.self

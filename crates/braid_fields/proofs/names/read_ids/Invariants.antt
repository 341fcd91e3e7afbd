use Rattle.std.proofs.Common.{◌≡◌, false, take}
use Rattle.braid_fields.specs.Table.{has_bad_id}
use Rattle.braid_fields.proofs.names.read_ids.Given as goal

abbrev pub invariant-loop-string : goal.invariant-loop-string
invariant-loop-string l = (l.ids.items ≡ take l.string-index l.strings) × (has_bad_id (take l.string-index l.strings) ≡ false)

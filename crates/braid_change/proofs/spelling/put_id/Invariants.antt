use Rattle.std.proofs.Common.{◌∷◌, take, flat_map}
use Rattle.braid_ids.specs.Identifiers.{escaped}
use Rattle.braid_change.proofs.spelling.put_id.Given as goal

-- the opening quote, and the bytes passed within quotes
abbrev pub invariant-loop-byte : goal.invariant-loop-byte
invariant-loop-byte g l = g.O.Outlet.puts (34 ∷ flat_map escaped (take l.byte-index l.byte-items)) l.fn.out l.out

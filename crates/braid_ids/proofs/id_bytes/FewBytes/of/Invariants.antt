use Rattle.std.proofs.Common.{◌≡◌, take}
use Rattle.braid_ids.proofs.id_bytes.FewBytes.of.Given as goal

-- the bytes passed are there
abbrev pub invariant-loop-byte : goal.invariant-loop-byte
invariant-loop-byte l = l.few ≡ take l.byte-index l.from

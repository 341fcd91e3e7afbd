use Rattle.std.proofs.Common.{◌≡◌, ◌≤◌, length, take, vec_capacity}
use Rattle.braid_change.proofs.ascii.ascii_chars.Given as goal

abbrev pub invariant-loop-byte : goal.invariant-loop-byte
invariant-loop-byte l = record {
  items : l.chars.items ≡ take l.byte-index l.bytes;
  room : length l.bytes ≤ vec_capacity l.chars;
}

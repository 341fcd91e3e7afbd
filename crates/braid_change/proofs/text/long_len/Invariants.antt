use Rattle.std.proofs.Common.{◌≡◌, ◌-◌, ◌^◌, min, take, sum_by}
use Rattle.std.specs.Char.{len_utf8}
use Rattle.braid_change.proofs.text.long_len.Given as goal

abbrev pub invariant-loop-c : goal.invariant-loop-c
invariant-loop-c l = l.len ≡ min (sum_by len_utf8 (take l.c-index l.chars)) (2 ^ 64 - 1)

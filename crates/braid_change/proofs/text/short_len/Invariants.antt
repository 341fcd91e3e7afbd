use Rattle.std.proofs.Common.{◌≡◌, ◌≤◌, ◌*◌, take, sum_by}
use Rattle.std.specs.Char.{len_utf8}
use Rattle.braid_change.proofs.text.short_len.Given as goal

abbrev pub invariant-loop-c : goal.invariant-loop-c
invariant-loop-c l = (l.len ≡ sum_by len_utf8 (take l.c-index l.chars)) × (l.len ≤ 4 * l.c-index)

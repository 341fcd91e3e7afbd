use Rattle.std.proofs.Common.{◌≡◌, ◌+◌, ◌≤◌, ◌++◌, length, drop, vec_len, vec_capacity}
use Rattle.braid_tree.specs.Inside.{new_rows}
use Rattle.braid_tree.proofs.row.put_run.Given as goal

abbrev pub invariant-loop-character : goal.invariant-loop-character
invariant-loop-character l = record {
  room : vec_len l.rows + length (drop l.character-index l.text) ≤ vec_capacity l.rows;
  in_place : vec_capacity l.rows ≡ vec_capacity l.fn.rows;
  len : vec_len l.rows ≡ vec_len l.fn.rows + l.character-index;
  next : l.at.ordinal ≡ l.fn.first.ordinal + l.character-index;
  left : l.rows.items ++ new_rows l.at.version l.origin l.at.ordinal (drop l.character-index l.text) ≡ l.fn.rows.items ++ new_rows l.fn.first.version l.fn.origin l.fn.first.ordinal l.text;
}

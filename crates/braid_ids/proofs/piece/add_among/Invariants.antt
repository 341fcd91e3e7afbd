use Rattle.std.proofs.Common.{◌≡◌, ◌++◌, drop}
use Rattle.braid_ids.specs.Pieces.{with_piece}
use Rattle.braid_ids.proofs.piece.add_among.Given as goal

abbrev pub invariant-loop-p : goal.invariant-loop-p
invariant-loop-p l = l.all.items ++ with_piece l.rest (drop l.p-index l.pieces) ≡ with_piece l.fn.piece l.pieces

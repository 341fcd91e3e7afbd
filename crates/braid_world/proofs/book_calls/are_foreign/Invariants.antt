use Rattle.std.proofs.Common.{◌≡◌, true, take}
use Rattle.braid_outbox.specs.Worlds.{is_foreign}
use Rattle.braid_world.proofs.book_calls.are_foreign.Given as goal

abbrev pub invariant-loop-side : goal.invariant-loop-side
invariant-loop-side l = is_foreign l.id (take l.side-index l.sides) ≡ true

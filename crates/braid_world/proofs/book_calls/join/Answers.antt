use Rattle.std.proofs.Common.{refl, ap, ◌∙◌, ℕ, List}
use Rattle.braid_outbox.specs.Worlds.{is_foreign}
use Rattle.braid_world.proofs.Told.{joins_told, joins_none}
use Rattle.braid_world.proofs.book_calls.join.Goals as goal

pub returns-then-not-are_foreign-clause-ok : goal.returns-then-not-are_foreign-clause-ok
returns-then-not-are_foreign-clause-ok c = joins_none c.args.path.now c.args.by c.args.book.now c.args.book.now c.args.sides.now c.args.update (c.if-not-are_foreign.ensures.foreign ∙ ap (λ (v : List ℕ). is_foreign v c.args.sides.now) c.id.ensures.value) refl

pub returns-clause-ok : goal.returns-clause-ok
returns-clause-ok c = joins_told c.args.path.now c.args.by c.args.book.now c.put_one.new.book c.args.sides.now c.args.update c.in_ok-_status._status (c.if-not-are_foreign.ensures.foreign ∙ ap (λ (v : List ℕ). is_foreign v c.args.sides.now) c.id.ensures.value) c.in_ok-_status.ensures.ok

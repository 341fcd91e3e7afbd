use Rattle.std.proofs.Common.{sym}
use Rattle.std.proofs.lemmas.Bool.{ltb-true, ltb-false}
use Rattle.braid_store.specs.Books.{of_path}
use Rattle.braid_world.proofs.Unwritten.{ok_map}
use Rattle.braid_world.proofs.Told.{carry_none, carry_closed, carry_end, carry_on, reading_held}
use Rattle.braid_world.proofs.replica_calls.carry_at.Goals as goal

pub nth_sent-requires : goal.nth_sent-requires
nth_sent-requires c = record { held = reading_held (of_path c.args.book.now c.args.path.now) c.args.sides.now c.args.a c.in-Some.side.now c.in-Some-reading.reading c.requires.readings (ltb-true _ _ (sym c.in-Some.ensures.lookup.0)) c.in-Some.ensures.lookup.1 c.in-Some-reading.is }

pub returns-clause-ok : goal.returns-clause-ok
returns-clause-ok c = ok_map _ _ c.learn_at.result c.learn_at.ensures.ok (carry_on c.args.a (of_path c.args.book.now c.args.path.now) c.args.sides.now c.in-Some.side.now c.in-Some-reading.reading c.in_ok-update.field-0 c.in-Some-2.update c.args.replicas.now c.learn_at.new.replicas
    (ltb-true _ _ (sym c.in-Some.ensures.lookup.0)) c.in-Some.ensures.lookup.1 c.in-Some-reading.is c.in_ok-update.ensures.ok c.in-Some-2.is)

pub returns-in_default-clause-ok : goal.returns-in_default-clause-ok
returns-in_default-clause-ok c = carry_none c.args.a (of_path c.args.book.now c.args.path.now) c.args.sides.now c.args.replicas.now (ltb-false _ _ (sym c.in_default.ensures.lookup.0))

pub returns-in_default-reading-clause-ok : goal.returns-in_default-reading-clause-ok
returns-in_default-reading-clause-ok c = carry_closed c.args.a (of_path c.args.book.now c.args.path.now) c.args.sides.now c.in-Some.side.now c.args.replicas.now (ltb-true _ _ (sym c.in-Some.ensures.lookup.0)) c.in-Some.ensures.lookup.1 c.in_default-reading.is

pub returns-in_default-2-clause-ok : goal.returns-in_default-2-clause-ok
returns-in_default-2-clause-ok c = carry_end c.args.a (of_path c.args.book.now c.args.path.now) c.args.sides.now c.in-Some.side.now c.in-Some-reading.reading c.in_ok-update.field-0 c.args.replicas.now (ltb-true _ _ (sym c.in-Some.ensures.lookup.0)) c.in-Some.ensures.lookup.1 c.in-Some-reading.is
    c.in_ok-update.ensures.ok c.in_default-2.is

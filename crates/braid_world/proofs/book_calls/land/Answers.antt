use Rattle.std.proofs.Common.{ap}
use Rattle.std.specs.Option.{option_copied}
use Rattle.braid_world.proofs.Told.{lands_told}
use Rattle.braid_world.proofs.book_calls.land.Goals as goal

pub returns-clause-ok : goal.returns-clause-ok
returns-clause-ok c = lands_told c.args.path.now c.args.by c.args.book.now c.put_one.new.book c.in-Some.posted.now c.in_ok-update.update c.in_ok-status.status (option_copied c.args.posted) c.in_ok-update.ensures.ok (ap option_copied c.in-Some.is) c.in_ok-status.ensures.ok

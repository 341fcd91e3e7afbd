use Rattle.braid_session.proofs.Gathering.{begins_at}
use Rattle.braid_session.proofs.watch.begin.Goals as goal

pub returns-in-Ok-gather-clause-ok : goal.returns-in-Ok-gather-clause-ok
returns-in-Ok-gather-clause-ok c =
    begins_at c.args.book.now c.args.path.now c.args.from.now c.in_ok-cursor.cursor _ c.in_ok-cursor.ensures.path c.in_ok-cursor.ensures.from c.in_ok-cursor.ensures.passed c.in_ok-cursor.ensures.fits
    c.in-Ok.ensures.ok c.in-Ok-gather.ensures.ok c.in-Ok-gather.ensures.kept c.in-Ok-gather.ensures.passed c.in-Ok-gather.ensures.fits

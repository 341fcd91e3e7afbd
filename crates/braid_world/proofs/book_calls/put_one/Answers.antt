use Rattle.braid_world.proofs.Told.{all_told, all_kept}
use Rattle.braid_world.proofs.book_calls.put_one.Goals as goal

pub put-requires : goal.put-requires
put-requires c = record { short = c.requires.short }

pub returns-clause-ok : goal.returns-clause-ok
returns-clause-ok c = all_told c.status_of.result c.args.path.now c.args.by c.args.book.now c.put.new.self c.args.update c.put.result c.len-entries.ensures.legal c.id-id.ensures.valid c.put.ensures.answer c.put.ensures.taken c.put.ensures.kept c.status_of.ensures.ok c.status_of.ensures.answered

pub returns-clause-err : goal.returns-clause-err
returns-clause-err c = all_kept c.status_of.result c.args.book.now c.put.new.self c.put.result c.put.ensures.kept c.status_of.ensures.err

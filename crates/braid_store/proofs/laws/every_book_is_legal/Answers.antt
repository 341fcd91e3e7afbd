use Rattle.braid_store.proofs.Counted.{legal_book_more}
use Rattle.braid_store.proofs.laws.every_book_is_legal.Goals as goal

pub returns-clause-more : goal.returns-clause-more
returns-clause-more c = legal_book_more

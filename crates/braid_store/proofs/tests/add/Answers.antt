use Rattle.std.proofs.Common.{List, [], sym, subst}
use Rattle.braid_store.specs.declared.entry.Entry.{Entry}
use Rattle.braid_store.specs.Books.{IsLegalBook}
use Rattle.braid_store.specs.Cursors.{IsFit}
use Rattle.braid_store.proofs.Later.{fits_longer_book}
use Rattle.braid_store.proofs.tests.add.Goals as goal

pub returns-in-New : goal.returns-in-New
returns-in-New c = record { fits = λ v h. subst (λ (B : List Entry). IsFit B v) (sym (c.put-answer.ensures.taken c.in-New.is)) (fits_longer_book c.args.book.now _ v h (subst IsLegalBook (c.put-answer.ensures.taken c.in-New.is) c.len-entries.ensures.legal)) }

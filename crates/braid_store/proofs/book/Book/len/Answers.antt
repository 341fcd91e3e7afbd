use Rattle.std.proofs.Common.{List, length, ap, arith}
use Rattle.braid_store.specs.declared.entry.Entry.{Entry}
use Rattle.braid_store.proofs.Keeping.{versions_len}
use Rattle.braid_store.proofs.book.Book.len.Goals as goal

pub returns-clause-count : goal.returns-clause-count
returns-clause-count c = let len = versions_len _ _ _ _ c.self.invariant in let is = ap (λ (B : List Entry). length B) c.self.view_is in omega (arith, len, is, c.len.ensures)

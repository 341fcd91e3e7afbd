use Rattle.std.proofs.Common.{◌≡◌, List, Contains, subst}
use Rattle.braid_store.specs.declared.entry.Entry.{Entry}
use Rattle.braid_store.specs.declared.put.Put.TheVariants.{Known}
use Rattle.braid_store.specs.Books.{of_path}
use Rattle.braid_store.specs.Answers.{IsPut}
use Rattle.braid_store.proofs.book.Book.put.Goals as goal

pub returns-clause-answer : goal.returns-clause-answer
returns-clause-answer c = subst (λ (B : List Entry). IsPut B (record { path = c.args.path.now; by = c.args.by; update = c.args.update }) c.put.result) c.self.view_is c.put.ensures.puts.answer

pub returns-clause-known : goal.returns-clause-known
returns-clause-known c = subst (λ (B : List Entry). Contains (of_path B c.args.path.now) c.args.update → c.put.result ≡ Known) c.self.view_is c.put.ensures.puts.known

use Rattle.std.proofs.lemmas.Result.{IfOk-weaker}
use Rattle.braid_store.proofs.Stepping.{none_in_frontier}
use Rattle.braid_store.proofs.book.Book.frontier.Goals as goal

pub returns-in-None-clause-absent : goal.returns-in-None-clause-absent
returns-in-None-clause-absent c = λ h. IfOk-weaker c.frontier-in-None-2.result _ _ (λ F. none_in_frontier _ F c.new.ensures.none) c.frontier-in-None-2.ensures.ok

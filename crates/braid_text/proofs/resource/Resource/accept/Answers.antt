use Rattle.std.proofs.Common.{List, subst}
use Rattle.braid_change.specs.Updates.{UpdateView}
use Rattle.braid_text.specs.Answers.{IsAnswer}
use Rattle.braid_text.proofs.resource.Resource.accept.Goals as goal

pub returns-in-Err-clause-answer : goal.returns-in-Err-clause-answer
returns-in-Err-clause-answer c = subst (λ (H : List UpdateView). IsAnswer c.args.room.now H c.args.update c.in-Err.answer) c.self.view_is c.in-Err.ensures.refusal.0

use Rattle.std.proofs.Common.{sym, ◌∙◌}
use Rattle.braid_outbox.proofs.Loaded.{chain_named, unsent_refused}
use Rattle.braid_outbox.proofs.replica.Replica.takes_unsent.Goals as goal
use Rattle.braid_outbox.proofs.replica.Replica.takes_unsent.Goals.{in-New, in-Memory, in_default}

pub returns-then-not-is_chained-clause-refused : goal.returns-then-not-is_chained-clause-refused
returns-then-not-is_chained-clause-refused c = λ e fine. let t = c.if-not-is_chained.ensures.chained.1 (chain_named c.args.self.now.unsent c.args.update.now fine.chained) in cc

pub returns-clause-refused : goal.returns-clause-refused
returns-clause-refused c = λ e fine. elim c.match-add_unsent.branch [
  | in-New w ↦ (let t = sym w.result-is ∙ e in cc)
  | in-Memory w ↦ (let t = sym w.result-is ∙ e in cc)
  | in_default w ↦ unsent_refused c.args.self.now c.args.update.now c.in_ok-copy.copy c.add_unsent.result c.in_ok-copy.ensures.ok c.confirmed-count.ensures.fine (c.add_unsent.ensures.answer w.in_default.not-Memory) w.in_default.not-New fine
]

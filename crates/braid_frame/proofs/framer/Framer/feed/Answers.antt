use Rattle.std.proofs.Common.{sym, ap, ◌∙◌}
use Rattle.braid_frame.specs.declared.state.State.{State}
use Rattle.braid_frame.proofs.Feeding.{fails_again}
use Rattle.braid_frame.proofs.framer.Framer.feed.Goals as goal

pub returns-in-Faulted-clause-feeds : goal.returns-in-Faulted-clause-feeds
returns-in-Faulted-clause-feeds c us b s = fails_again us b c.args.piece.now c.args.self.now c.in-Faulted.fault (sym (ap (λ (x : State). x.phase) c.self.view_is) ∙ c.in-Faulted.is) s

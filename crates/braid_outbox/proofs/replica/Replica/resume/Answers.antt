use Rattle.std.proofs.Common.{refl}
use Rattle.braid_outbox.proofs.ReadNow.{resumes_ok}
use Rattle.braid_outbox.proofs.replica.Replica.resume.Goals as goal

pub returns : goal.returns
returns c = record { ok = resumes_ok c.args.self.now _ _ _ c.of.result refl c.in_ok-frontier.ensures.ok c.in_ok-ids.ensures.ok c.of.ensures.rising c.of.ensures.same }

use Rattle.std.proofs.Common.{◌≡◌, List, ℕ, ap, subst, unwrap_or}
use Rattle.braid_outbox.specs.Replicas.{ReplicaView, number}
use Rattle.braid_outbox.proofs.Written.{number_found, number_none}
use Rattle.braid_outbox.proofs.replica.Replica.number_of.Goals as goal

pub returns-in-Some : goal.returns-in-Some
returns-in-Some c = let e = c.in-Some.ensures.number in record { number = subst (λ (a : List ℕ). c.in-Some.number ≡ unwrap_or (number a c.args.id.now) 0) (ap (λ (r : ReplicaView). r.agent) c.self.view_is) (number_found _ _ _ e.0 e.1 e.2) }

pub returns-in-None : goal.returns-in-None
returns-in-None c = record { number = subst (λ (a : List ℕ). 0 ≡ unwrap_or (number a c.args.id.now) 0) (ap (λ (r : ReplicaView). r.agent) c.self.view_is) (number_none _ _ c.in-None.ensures.number) }

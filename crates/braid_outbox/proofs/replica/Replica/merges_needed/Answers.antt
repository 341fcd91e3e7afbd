use Rattle.std.proofs.Common.{ℕ, ap, ◌∙◌, ◌-◌, ◌/◌}
use Rattle.braid_outbox.proofs.replica.Replica.merges_needed.Goals as goal

pub returns-clause-count : goal.returns-clause-count
returns-clause-count c = ap (λ (n : ℕ). n / 31) (c.saturating_sub.ensures ∙ ap (λ (n : ℕ). n - 2) c.width-width.ensures.width)

use Rattle.std.proofs.Common.{List, ℕ, inl, inr, sym, subst, ◌∙◌, arith, refl}
use Rattle.braid_graph.specs.Entries.{Holds}
use Rattle.braid_text.specs.Histories.{graph_of}
use Rattle.braid_outbox.specs.Replicas.{all_of}
use Rattle.braid_outbox.proofs.Found.{nowhere, gap, inside, is_other, is_confirmed, is_unsent}
use Rattle.braid_outbox.proofs.replica.Replica.standing.Goals as goal

pub unreachable-requires : goal.unreachable-requires
unreachable-requires c = gap _ _ _ _ _ c.self.invariant.kept _ c.self.view_is _ _ c.in-Some.ensures.found c.in_default-entry.ensures.value

pub index-requires : goal.index-requires
index-requires c = let i = inside _ _ _ _ _ c.self.invariant.kept _ c.self.view_is _ _ c.in-Some.ensures.found in omega (arith, i, c.self.inside.order.flags.ok.0)

pub returns-then-not-same-clause-stands : goal.returns-then-not-same-clause-stands
returns-then-not-same-clause-stands c = is_other _ _ _ _ _ c.self.invariant.kept _ c.self.view_is _ _ c.in-Some.ensures.found _ _ c.in-Some-entry.ensures.value c.id.ensures.value (λ e. let t = c.if-not-same.ensures.same.1 e in cc)

pub returns-then-index-clause-stands : goal.returns-then-index-clause-stands
returns-then-index-clause-stands c = is_confirmed _ _ _ _ _ c.self.invariant.kept _ c.self.view_is _ _ c.in-Some.ensures.found _ _ c.in-Some-entry.ensures.value c.id.ensures.value _ c.index.ensures c.if-index.true (c.if-not-same.ensures.same.0 refl)

pub returns-in_default-clause-stands : goal.returns-in_default-clause-stands
returns-in_default-clause-stands c = inl (subst (λ (v : List ℕ). Holds (graph_of (all_of c.args.self.now)) v → ⊥) c.id.ensures.value (nowhere _ _ _ _ _ c.self.invariant.kept _ c.self.view_is _ c.in_default.ensures.none))

pub returns-else-is_next-clause-stands : goal.returns-else-is_next-clause-stands
returns-else-is_next-clause-stands c = inr (is_unsent _ _ _ _ _ c.self.invariant.kept _ c.self.view_is _ _ c.in-Some.ensures.found _ _ c.in-Some-entry.ensures.value c.id.ensures.value _ c.index.ensures c.if-index.false (c.if-not-same.ensures.same.0 refl), sym c.is_next.ensures.next ∙ c.if-is_next.false)

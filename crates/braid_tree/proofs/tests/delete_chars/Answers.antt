use Rattle.std.proofs.Common.{◌≡◌, ℕ, ◌-◌, ◌∙◌, length, sym, subst, arith, Contains}
use Rattle.braid_tree.proofs.Callers.{visible_there, visible_undeleted}
use Rattle.braid_tree.proofs.tests.delete_chars.Goals as goal

pub delete-requires-clause-there : goal.delete-requires-clause-there
delete-requires-clause-there g c = visible_there _ _ (g.D.Document.rows c.loop.doc) c.args.from c.in-Some.at (sym c.visible_at.ensures.value ∙ c.in-Some.is)

pub delete-requires-clause-once : goal.delete-requires-clause-once
delete-requires-clause-once g c =
    let last : c.args.number ≡ length (g.D.Document.stamps c.loop.doc) - 1 = omega (arith, c.loop.invariant.begun) in
    subst (λ (n : ℕ). Contains (g.D.Document.row_deletions c.loop.doc) (record { at = c.in-Some.at; by = n }) → ⊥) last
    (visible_undeleted _ _ (g.D.Document.rows c.loop.doc) c.args.from c.visible_at.result c.in-Some.at c.args.number c.visible_at.ensures.value c.in-Some.is (c.has.ensures.has.0 c.in_ok-check-3.ensures))

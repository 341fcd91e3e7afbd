use Rattle.std.proofs.Common.{Option, MatchOption, length, ◌-◌, ◌∙◌, sym, subst}
use Rattle.braid_tree.specs.declared.at.At.{At}
use Rattle.braid_tree.specs.Rows.{HasPlace, AreNewOrdinals}
use Rattle.braid_tree.proofs.Callers.{answer_there, next_begin}
use Rattle.braid_spans.proofs.tests.type_seen.Goals as goal
use Rattle.braid_spans.proofs.tests.type_seen.Goals.{in-0, in_default}

pub insert_run-requires-clause-there : goal.insert_run-requires-clause-there
insert_run-requires-clause-there g c =
    subst (λ t. MatchOption c.match-at.after (Unit {0}) (HasPlace t)) (sym c.begin.ensures.rows) (elim c.match-at.branch [
      | in-0 w ↦ subst (λ (o : Option At). MatchOption o (Unit {0}) (HasPlace (g.D.Document.rows c.reserve.new.self))) (sym w.after-is) tt
      | in_default w ↦ answer_there _ _ _ _ c.match-at.after (w.after-is ∙ w.visible_at-after.ensures.value)
    ])

pub insert_run-requires-clause-ordinals : goal.insert_run-requires-clause-ordinals
insert_run-requires-clause-ordinals g c =
    subst (λ t. AreNewOrdinals t (length (g.D.Document.stamps c.begin.new.self) - 1) 0) (sym c.begin.ensures.rows)
    (subst (λ t. AreNewOrdinals (g.D.Document.rows c.reserve.new.self) (length t - 1) 0) (sym c.begin.ensures.stamps) (next_begin _ _ (g.D.Document.rows c.reserve.new.self) c.begin.ensures.known))

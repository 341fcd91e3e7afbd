use Rattle.std.proofs.Common.{rules}
use Rattle.braid_server.proofs.Commanding.{free_of, values_for, refused_for}
use Rattle.braid_server.proofs.command.matches.Goals as goal
use Rattle.braid_server.proofs.command.matches.Goals.{then-eq, else-eq}

pub returns-in-Ok-try_get_matches_from-clause-ok :
    goal.returns-in-Ok-try_get_matches_from-clause-ok
returns-in-Ok-try_get_matches_from-clause-ok c =
    values_for _ _ _ c.in-Ok.ensures.ok (c.in-Ok-try_get_matches_from.ensures.kinds (free_of _ c.in-Ok.ensures.ok))
    c.in-Ok-try_get_matches_from.ensures.matches

pub returns-after-eq-clause-no : goal.returns-after-eq-clause-no
returns-after-eq-clause-no c =
    elim c.if-eq.branch [
      | then-eq w ↦ search rules
      | else-eq w ↦ λ e. refused_for _ _ c.in-Err.error c.in-Ok.ensures.ok (c.in-Err.ensures.kinds (free_of _ c.in-Ok.ensures.ok)) (search rules)
    ]

use Rattle.std.proofs.Common.{refl, ◌∙◌}
use Rattle.braid_sync.proofs.FollowSteps.{word_unwritten, rest_unwritten}
use Rattle.braid_sync.proofs.following.print.Goals as goal

pub returns-in_default-clause-prints : goal.returns-in_default-clause-prints
returns-in_default-clause-prints g c = (refl, word_unwritten c.as_bytes.result.now _ c.args.rest.now _ _ (c.as_bytes.ensures.value ∙ c.name.ensures.value) c.in_default.ensures.err.1)

pub returns-in_default-write_all-clause-prints : goal.returns-in_default-write_all-clause-prints
returns-in_default-write_all-clause-prints g c =
    (refl, rest_unwritten c.as_bytes.result.now _ c.get.result.now c.args.rest.now _ _ _ (c.as_bytes.ensures.value ∙ c.name.ensures.value) c.get.ensures.value c.in-Ok.ensures.ok c.in_default-write_all.ensures.err.1)

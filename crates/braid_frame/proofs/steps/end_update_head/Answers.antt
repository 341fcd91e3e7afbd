use Rattle.braid_frame.proofs.HeadEnds.{update_head_goes, update_head_faulty, refused_finishes}
use Rattle.braid_frame.proofs.steps.end_update_head.Goals as goal

pub begin_update-requires-clause-stands : goal.begin_update-requires-clause-stands
begin_update-requires-clause-stands c = (
  c.requires.stands.0,
  c.requires.stands.1,
  update_head_goes _ _ _ _ c.deref.result.now _ _ _ c.requires.ended c.requires.short c.requires.empty c.deref.ensures.value c.pass_over.ensures.at c.in-Ok.ensures.plan c.requires.stands.2,
)

pub returns-in-Ok-clause-finishes : goal.returns-in-Ok-clause-finishes
returns-in-Ok-clause-finishes c us b s =
    c.begin_update.ensures.finishes us b
    (update_head_goes us _ _ _ c.deref.result.now b _ _ c.requires.ended c.requires.short c.requires.empty c.deref.ensures.value c.pass_over.ensures.at c.in-Ok.ensures.plan s)

pub returns-in-Err-clause-finishes : goal.returns-in-Err-clause-finishes
returns-in-Err-clause-finishes c us b s =
    refused_finishes us b c.args.taken _ _ _ _ _ c.refuse.ensures.refused c.in-Err.ensures.plan
    (λ r j. update_head_faulty us _ _ c.deref.result.now b _ r c.requires.ended c.requires.short c.requires.empty c.deref.ensures.value j s)

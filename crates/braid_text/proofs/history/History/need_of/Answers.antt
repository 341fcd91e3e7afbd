use Rattle.std.proofs.Common.{arith, refl, ap, ◌∙◌}
use Rattle.braid_text.specs.Puts.{total_len}
use Rattle.braid_text.proofs.Taking.{few_taken, parents_kept, fresh_there, need_is}
use Rattle.braid_text.proofs.history.History.need_of.Goals as goal

pub total_len-requires : goal.total_len-requires
total_len-requires c =
    let few = few_taken _ _ _ _ _ c.requires.stands c.args.update.now c.args.resolved.now c.requires.takable in
    record { few = omega (arith, few, ap total_len c.deref.ensures.value) }

pub width_after-requires : goal.width_after-requires
width_after-requires c = record { held = parents_kept _ _ _ _ _ c.requires.stands c.args.update.now c.args.resolved.now c.requires.takable _ c.parents.ensures.value }

pub returns : goal.returns
returns c =
    let fresh = fresh_there _ _ _ _ _ c.requires.stands c.args.update.now c.args.resolved.now c.requires.takable c.args.update.now.id refl in
    record {
      need = need_is _ _ _ _ _ c.requires.stands c.args.update.now c.args.resolved.now c.requires.takable _ _ c.parents.ensures.value refl
          (c.total_len.ensures.len ∙ ap total_len c.deref.ensures.value) (omega (arith, c.len.ensures, c.args.resolved.now.deletes.ok.0)) (c.width_after.ensures.width c.args.update.now.id fresh);
    }

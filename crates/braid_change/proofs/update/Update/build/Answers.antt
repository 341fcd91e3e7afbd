use Rattle.std.proofs.Common.{◌∙◌, sym, refl, arith}
use Rattle.braid_change.proofs.Shapes.{built}
use Rattle.braid_change.proofs.update.Update.build.Goals as goal

pub invariant_of-result : goal.invariant_of-result
invariant_of-result c =
    record {
      identifier = c.bytes.ensures.valid;
      identifiers = c.len-n.ensures.valid.identifiers;
      rising = c.len-n.ensures.valid.rising;
      built = built _ _ _ c.patches-patches.ensures.value (omega (arith, c.len-n.ensures.len)) (omega arith) (sym c.find_backwards.ensures.found ∙ c.in_default.is) (sym c.find_overlap.ensures.found ∙ c.in_default-find_overlap.is)
          (omega (arith, c.utf8_len-bytes.ensures.len)) c.utf8_len-bytes.ensures.numbered c.utf8_len-bytes.ensures.scalar;
    }

pub returns-clause-ok : goal.returns-clause-ok
returns-clause-ok c = (refl, (invariant_of-result c).built)

pub returns-clause-valid : goal.returns-clause-valid
returns-clause-valid c = invariant_of-result c

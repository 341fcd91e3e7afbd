use Rattle.std.proofs.Common.{sym, ap, arith, length, ◌∙◌}
use Rattle.std.specs.List.{position_from}
use Rattle.braid_change.specs.Splices.{is_past}
use Rattle.braid_rebase.proofs.Joins.{joined_fewer, ranges_from}
use Rattle.braid_outbox.proofs.Written.{patch_counts}
use Rattle.braid_outbox.proofs.counting.counts_of_patches.Goals as goal

pub overflow_cast-result : goal.overflow_cast-result
overflow_cast-result c = omega (arith, c.in-Some.ensures.bound, ap length c.deref.ensures.value, ap length c.in-Ok.ensures.ok, joined_fewer c.args.patches.now, c.requires.shaped.few)

pub returns-clause-ok : goal.returns-clause-ok
returns-clause-ok c = λ t e. patch_counts t c.args.len c.args.patches.now c.in-Ok.list.items _ _ _ _ c.requires.shaped (omega (arith, c.ranges.len.fits)) e
    (ranges_from t c.args.len c.args.patches.now c.in-Ok.list.items e c.in-Ok.ensures.ok (ap (position_from (is_past c.args.len) 0) (sym c.deref.ensures.value) ∙ sym c.find_past.ensures.found ∙ c.in-None.is))
    c.deref-in-None.ensures.value c.deref-in-None-2.ensures.value c.inserted_len.ensures.len c.removed_len.ensures.len

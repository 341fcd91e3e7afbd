use Rattle.std.proofs.Common.{◌+◌, ◌-◌, length, subst, ap, arith}
use Rattle.braid_grammar.specs.Readings.{patch_at}
use Rattle.braid_grammar.specs.Readers.{Finds}
use Rattle.braid_grammar.proofs.ReadContents.{patch_is_read, counted_len, patches_part, patches_bad, patches_go_on, patches_same}
use Rattle.braid_grammar.proofs.patch.read_patches.Goals as goal

pub returns-in-Part : goal.returns-in-Part
returns-in-Part c =
    patches_part c.args.count c.args.at c.args.bytes.now c.loop-n._n c.loop-n.patches.items c.loop-n.used c.loop-n.before c.loop-n.at c.loop-n.rest.now c.after_gap-start.result.now c.loop-n.invariant (omega arith) c.after_gap-start.ensures
    (subst (λ f. Finds f (patch_at c.loop-n.used c.loop-n.before (c.loop-n.at + (length c.loop-n.rest.now - length c.after_gap-start.result.now)) c.after_gap-start.result.now)) c.in-Part.is c.in_ok-read_patch.ensures)

pub returns-in-Bad : goal.returns-in-Bad
returns-in-Bad c =
    patches_bad c.args.count c.args.at c.args.bytes.now c.loop-n._n c.loop-n.patches.items c.loop-n.used c.loop-n.before c.loop-n.at c.loop-n.rest.now c.after_gap-start.result.now c.in-Bad.at c.in-Bad.reason c.loop-n.invariant (omega arith) c.after_gap-start.ensures
    (subst (λ f. Finds f (patch_at c.loop-n.used c.loop-n.before (c.loop-n.at + (length c.loop-n.rest.now - length c.after_gap-start.result.now)) c.after_gap-start.result.now)) c.in-Bad.is c.in_ok-read_patch.ensures)

pub overflow_cast-used : goal.overflow_cast-used
overflow_cast-used c =
    let e = subst (λ f. Finds f (patch_at c.loop-n.used c.loop-n.before (c.loop-n.at + (length c.loop-n.rest.now - length c.after_gap-start.result.now)) c.after_gap-start.result.now)) c.in-Whole.is c.in_ok-read_patch.ensures in
    let w = patch_is_read c.loop-n.used c.loop-n.before _ c.after_gap-start.result.now c.in-Whole.patch c.in-Whole.last c.in-Whole.left.now e in
    omega (arith, w.fits, c.utf8_len.ensures.len)

pub overflow_add-used : goal.overflow_add-used
overflow_add-used c =
    let e = subst (λ f. Finds f (patch_at c.loop-n.used c.loop-n.before (c.loop-n.at + (length c.loop-n.rest.now - length c.after_gap-start.result.now)) c.after_gap-start.result.now)) c.in-Whole.is c.in_ok-read_patch.ensures in
    let w = patch_is_read c.loop-n.used c.loop-n.before _ c.after_gap-start.result.now c.in-Whole.patch c.in-Whole.last c.in-Whole.left.now e in
    omega (arith, w.fits, c.utf8_len.ensures.len)

pub loop-n-preserved : goal.loop-n-preserved
loop-n-preserved c =
    let e = subst (λ f. Finds f (patch_at c.loop-n.used c.loop-n.before (c.loop-n.at + (length c.loop-n.rest.now - length c.after_gap-start.result.now)) c.after_gap-start.result.now)) c.in-Whole.is c.in_ok-read_patch.ensures in
    let w = patch_is_read c.loop-n.used c.loop-n.before _ c.after_gap-start.result.now c.in-Whole.patch c.in-Whole.last c.in-Whole.left.now e in
    let len = counted_len c.utf8_len.result c.in-Whole.patch c.utf8_len.ensures.len (omega (arith, w.fits)) in
    let next = patches_go_on c.args.count c.args.at c.args.bytes.now c.loop-n._n c.loop-n.patches.items c.loop-n.used c.loop-n.before c.loop-n.at c.loop-n.rest.now c.after_gap-start.result.now c.in-Whole.patch c.in-Whole.last c.in-Whole.left.now c.loop-n.invariant (omega arith) c.after_gap-start.ensures e in
    patches_same _ _ _ _ _ c.push.new.self.items _ (c.loop-n.used + c.utf8_len.result) _ _ _ c.in_ok-push-in-Whole.ensures.items (ap (λ m. c.loop-n.used + m) len) next

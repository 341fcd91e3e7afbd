use Rattle.std.proofs.Common.{◌≡◌, ◌≤◌, ◌∙◌, length, take, ap, arith}
use Rattle.braid_spans.specs.Blocks.{flat, undeleted_by}
use Rattle.braid_spans.specs.Kept.{chains_of, undeleted_in, IsFitting}
use Rattle.braid_spans.proofs.FullMarks.{full_count}
use Rattle.braid_spans.proofs.InBlocks.{undeleted_before, all_front}
use Rattle.braid_spans.proofs.skipping.pass_blocks.Goals as goal

pub returns-then-size-versions-clause-passed : goal.returns-then-size-versions-clause-passed
returns-then-size-versions-clause-passed c = λ bs e chars fit.
    (let k = c.pass_undeleted.result.blocks in
    let links = c.args.links.now in
    let whole : c.args.versions ≤ length c.args.marks.now = omega (arith, c.if-size-versions.true, c.size.ensures.size) in
    let u : undeleted_by (take k c.args.sums.now) ≡ undeleted_in (flat (take k bs)) = ap (λ t. undeleted_by (take k t)) e ∙ undeleted_before bs k in
    let f = full_count c.args.versions c.args.marks.now chars links whole (c.is_full.ensures.full.0 c.if-is_full.true) c.requires.linked c.requires.made (flat (take k bs))
    (all_front (IsFitting c.args.versions (length chars) (length (chains_of links))) bs k fit) in
    omega (arith, u, f, c.pass_undeleted.ensures.passed))

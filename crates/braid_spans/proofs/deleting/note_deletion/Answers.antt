use Rattle.braid_spans.specs.Spans.{spelled}
use Rattle.braid_spans.specs.Kept.{chains_of, spans_of}
use Rattle.braid_spans.proofs.Marking.{one_each}
use Rattle.braid_spans.proofs.deleting.note_deletion.Goals as goal

pub returns-clause-marked : goal.returns-clause-marked
returns-clause-marked c versions chars fit =
    let p = c.note_deletions.ensures.marked versions chars fit in
    (p.0, one_each (spelled (spans_of chars (chains_of c.args.links.now.items) c.args.runs.now.list)) (spelled (spans_of chars (chains_of c.note_deletions.new.links.items) c.note_deletions.new.runs.list)) c.args.at c.args.by c.note_deletions.result c.note_deletions.ensures.some c.note_deletions.ensures.most p.1)

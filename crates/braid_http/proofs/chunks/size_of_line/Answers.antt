use Rattle.std.proofs.Common.{rules}
use Rattle.httparse.specs.Grammar.{ChunkLine}
use Rattle.httparse.specs.Spans.{IsChunkLineAt}
use Rattle.braid_http.proofs.StepLaws.{size_whole}
use Rattle.braid_http.proofs.chunks.size_of_line.Goals as goal

pub returns-else-len-line : goal.returns-else-len-line
returns-else-len-line c = record {
  size = λ k whole.
      let at : (l : ChunkLine) × IsChunkLineAt c.args.line.now c.in-Ok-Complete.len c.in-Ok-Complete.size l = search rules in
      let same = size_whole c.args.line.now _ _ at.0 k at.1 whole in
      absurd (search (rules, same));
}

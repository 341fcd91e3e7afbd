use Rattle.std.proofs.Common.{List, length, ap, ◌∙◌}
use Rattle.braid_graph.specs.Entries.{GraphEntry}
use Rattle.braid_graph.specs.Frontiers.{frontier_of}
use Rattle.braid_graph.specs.Inside.{entries_in}
use Rattle.braid_graph.proofs.Kept.{width_kept}
use Rattle.braid_graph.proofs.graph.Graph.width.Goals as goal

pub returns : goal.returns
returns c = record {
  width = c.count.ensures.count
      ∙ width_kept (entries_in c.self.inside.entries.entries) c.self.inside.links.items c.self.inside.heads c.self.invariant.0.kept
      ∙ ap (λ (es : List GraphEntry). length (frontier_of es)) c.self.view_is;
}

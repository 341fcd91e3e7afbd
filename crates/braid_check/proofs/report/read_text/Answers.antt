use Rattle.std.proofs.Common.{ap, subst, ◌∙◌}
use Rattle.braid_graph.specs.Ancestries.{IsUnknown}
use Rattle.braid_graph.proofs.Frontiers.{one_frontier}
use Rattle.braid_text.specs.Histories.{graph_of, text_at}
use Rattle.braid_check.proofs.report.read_text.Goals as goal

pub returns-in-Ok : goal.returns-in-Ok
returns-in-Ok c =
    let H = c.args.resource.now in
    record { ok = c.in-Ok.ensures.ok.1 ∙ ap (text_at H) (one_frontier (graph_of H) c.args.frontier.now c.requires.frontier) }

pub unreachable-requires : goal.unreachable-requires
unreachable-requires c =
    let H = c.args.resource.now in
    let F = c.args.frontier.now in
    let unknown = subst (IsUnknown (graph_of H) F) c.in-Err-Id.field-0-is c.in-Err-Id.ensures.fault in
    unknown.unheld ((c.requires.frontier.exact c.in-Err-Id.field-0-0).0 unknown.named).0

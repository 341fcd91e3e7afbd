use Rattle.std.proofs.Common.{◌∙◌, ◌++◌, List, ℕ, ap, append_assoc, length, codes, decimal}
use Rattle.braid_graph.specs.Frontiers.{frontier_of}
use Rattle.braid_graph.proofs.Frontiers.{one_frontier}
use Rattle.braid_text.specs.Histories.{graph_of, text_of}
use Rattle.braid_text.specs.Digested.{digest_at}
use Rattle.braid_lines.specs.Lines.{line_with, frontier_said, content_lines}
use Rattle.braid_check.proofs.Lines.{behind}
use Rattle.braid_check.proofs.report.history_report.Goals as goal

pub returns : goal.returns
returns c =
    let H = c.args.resource.now in
    let s0 = c.in_ok-out.ensures.ok in
    let s1 = behind _ _ _ _ s0 (c.in_ok-push_count.ensures.ok ∙ ap (λ (n : ℕ). c.in_ok-out.out ++ line_with (codes "versions: ") (decimal n)) c.entries.ensures.count) in
    let s2 = behind _ _ _ _ s1 (c.in_ok-push_frontier.ensures.ok
    ∙ ap (λ (F : List (List ℕ)). c.push_count.new.text ++ line_with (codes "frontier:") (frontier_said F)) (one_frontier (graph_of H) c.in_ok-frontier.frontier c.in_ok-frontier.ensures.ok)) in
    let s3 = behind _ _ _ _ s2 (c.in_ok-push_content.ensures.ok
    ∙ ap (λ (t : List ℕ). c.push_frontier.new.text ++ content_lines t c.in_ok-digest.digest) c.in_ok-text.ensures.ok
    ∙ ap (λ (d : List ℕ). c.push_frontier.new.text ++ content_lines (text_of H) d) c.in_ok-digest.ensures.ok) in
    record {
      ok = s3 ∙ append_assoc (line_with (codes "versions: ") (decimal (length H)))
          (line_with (codes "frontier:") (frontier_said (frontier_of (graph_of H)))) (content_lines (text_of H) (digest_at H));
    }

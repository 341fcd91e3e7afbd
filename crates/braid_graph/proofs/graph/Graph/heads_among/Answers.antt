use Rattle.std.proofs.Common.{List, ◌≡◌, true, false, Some, ◌+◌, ◌∙◌, arith, take, length, filter, ap, subst}
use Rattle.std.proofs.lemmas.List.{take_all}
use Rattle.braid_graph.specs.Entries.{GraphEntry, IsHistoryGraph}
use Rattle.braid_graph.specs.Frontiers.{is_head}
use Rattle.braid_graph.specs.Inside.{IsKept}
use Rattle.braid_graph.proofs.Widths.{heads_counted}
use Rattle.braid_graph.proofs.graph.Graph.heads_among.Goals as goal
use Rattle.braid_graph.proofs.graph.Graph.heads_among.Goals.{then-has, else-has}

pub loop-i-preserved : goal.loop-i-preserved
loop-i-preserved c =
    let es = c.args.self.now in
    let at = c.number_of-n.ensures.number in
    let kept : IsKept es c.self.inside.links.items c.self.inside.heads = subst (λ (t : List GraphEntry). IsKept t c.self.inside.links.items c.self.inside.heads) c.self.view_is c.self.invariant.0.kept in
    elim c.if-has.branch [
      | then-has w ↦ rw w.count-is (record { few = omega (arith, c.loop-i.invariant.few); counted = heads_counted es c.args.of.now c.self.inside.heads c.loop-i.i c.number_of-n.result at.0 true c.loop-i.count kept.heads at.1 at.2 (c.has.ensures.has ∙ ap Some w.if-has.true) c.loop-i.invariant.counted })
      | else-has w ↦ rw w.count-is (record { few = omega (arith, c.loop-i.invariant.few); counted = (let e : c.loop-i.count + 0 ≡ length (filter (is_head es) (take (c.loop-i.i + 1) c.args.of.now)) = heads_counted es c.args.of.now c.self.inside.heads c.loop-i.i c.number_of-n.result at.0 false c.loop-i.count kept.heads at.1 at.2 (c.has.ensures.has ∙ ap Some w.if-has.false) c.loop-i.invariant.counted in omega (arith, e)) })
    ]

pub returns : goal.returns
returns c = record {
  count = c.loop-i.invariant.counted ∙ ap (λ t. length (filter (is_head c.args.self.now) t)) (take_all c.loop-i.i c.args.of.now (omega (arith, c.len-i-end.ensures.len)));
  rising = c.len-i-end.ensures.valid.rising;
  history = subst IsHistoryGraph c.self.view_is c.self.invariant.0.kept.history;
  few = omega (arith, ap (λ (es : List GraphEntry). length es) c.self.view_is, c.self.invariant.0.kept.few);
}

use Rattle.std.proofs.Common.{arith, refl}
use Rattle.braid_graph.proofs.Marked.{all_marked_next, all_marked_all}
use Rattle.braid_graph.proofs.graph.Graph.all_marked.Goals as goal

pub loop-i-preserved : goal.loop-i-preserved
loop-i-preserved c =
    let at = c.number_of.ensures.number in
    all_marked_next c.args.self.now c.args.of.now c.loop-i.i c.number_of.result at.0 c.args.marks.now c.number_of.ensures.valid c.loop-i.invariant at.1 at.2 (c.if-not-has.ensures.has.0 refl)

pub returns : goal.returns
returns c = record { all = (λ _. all_marked_all c.args.self.now c.args.of.now c.loop-i.i c.args.marks.now (omega (arith, c.len-i-end.ensures.len)) c.loop-i.invariant, λ _. refl) }

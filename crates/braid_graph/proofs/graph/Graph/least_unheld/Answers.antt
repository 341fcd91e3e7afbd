use Rattle.std.proofs.Common.{arith, sym}
use Rattle.std.specs.Option.{option_copied}
use Rattle.braid_graph.proofs.Unheld.{least_next, least_next_held, least_all, least_found, none_unheld, held_from, not_held_from}
use Rattle.braid_graph.proofs.graph.Graph.least_unheld.Goals as goal
use Rattle.braid_graph.proofs.graph.Graph.least_unheld.Goals.{then-is_none, else-is_none}

pub loop-i-preserved : goal.loop-i-preserved
loop-i-preserved c =
    let es = c.args.self.now in
    let F = c.args.of.now in
    let i = c.loop-i.i in
    let id = c.in-Some.id.now in
    let at = sym c.in-Some.ensures.value in
    elim c.if-is_none.branch [
      | then-is_none w ↦
          let not_held = not_held_from es id c.index_of.result c.is_none.result c.is_none.ensures w.if-is_none.true c.index_of.ensures.none in
          rw (w.least-is, w.lesser.ensures.lesser) (least_next es F i id (option_copied c.loop-i.least) c.loop-i.invariant at not_held)
      | else-is_none w ↦
          let held = held_from es id c.index_of.result c.is_none.result c.is_none.ensures w.if-is_none.false c.index_of.ensures.found in
          rw w.least-is (least_next_held es F i id (option_copied c.loop-i.least) c.loop-i.invariant at held)
    ]

pub returns : goal.returns
returns c =
    let es = c.args.self.now in
    let F = c.args.of.now in
    let is = least_all es F c.loop-i.i (option_copied c.loop-i.least) (omega (arith, c.len-i-end.ensures.len)) c.loop-i.invariant in
    record { found = least_found es F c.loop-i.least is; none = none_unheld es F c.loop-i.least is }

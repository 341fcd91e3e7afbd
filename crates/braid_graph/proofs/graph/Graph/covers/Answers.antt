use Rattle.std.proofs.lemmas.List.Elements.{Contains-append_right}
use Rattle.braid_graph.proofs.Marked.{covers_marked}
use Rattle.braid_graph.proofs.graph.Graph.covers.Goals as goal

pub all_marked-requires : goal.all_marked-requires
all_marked-requires c = record { held = λ v k. c.in_default.ensures.least v (Contains-append_right c.args.upper.now c.args.lower.now v k) }

pub returns-in-Ok-clause-ok : goal.returns-in-Ok-clause-ok
returns-in-Ok-clause-ok c =
    let both = covers_marked c.args.self.now c.args.upper.now c.args.lower.now c.in-Ok.marks (λ v k. c.in_default.ensures.least v (Contains-append_right c.args.upper.now c.args.lower.now v k)) c.in-Ok.ensures.ok in
    (λ t. both.0 (c.all_marked.ensures.all.0 t), λ k. c.all_marked.ensures.all.1 (both.1 k))

use Rattle.std.proofs.Common.{◌≡◌, List, slice_get, Some, sym, subst}
use Rattle.braid_graph.specs.Entries.{GraphEntry, ids_of, Holds}
use Rattle.braid_graph.proofs.Numbers.{number_found, number_missing}
use Rattle.braid_graph.proofs.graph.Graph.index_of.Goals as goal

pub returns-in-Some-clause-found : goal.returns-in-Some-clause-found
returns-in-Some-clause-found c =
    subst (λ (es : List GraphEntry). slice_get (ids_of es) c.in-Some.n ≡ Some c.args.id.now) c.self.view_is (number_found c.self.inside.entries.entries c.args.id.now c.in-Some.n (sym c.in-Some.ensures.index))

pub returns-in-None-clause-none : goal.returns-in-None-clause-none
returns-in-None-clause-none c =
    subst (λ (es : List GraphEntry). Holds es c.args.id.now → ⊥) c.self.view_is (number_missing c.self.inside.entries.entries c.args.id.now (sym c.in-None.ensures.index))

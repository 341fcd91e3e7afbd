use Rattle.std.proofs.Common.{◌++◌, sym, subst}
use Rattle.std.specs.Option.{option_copied}
use Rattle.braid_graph.specs.Ancestries.{IsLeastUnheld}
use Rattle.braid_graph.proofs.Unheld.{least_held, least_lesser, least_of}
use Rattle.braid_graph.proofs.graph.Graph.least_unheld_of_both.Goals as goal

pub returns-in_default-Some : goal.returns-in_default-Some
returns-in_default-Some c =
    let es = c.args.self.now in
    let F = c.args.one.now in
    let G = c.args.other.now in
    record { least = subst (IsLeastUnheld es (F ++ G)) (sym c.lesser.ensures.lesser) (least_lesser es F G (option_copied c.least_unheld-least.result) c.in_default-Some.id.now (least_of c.args.self.now c.args.one.now c.least_unheld-least.result c.least_unheld-least.ensures.found c.least_unheld-least.ensures.none) c.in_default-Some.ensures.found) }

pub returns-in_default-None : goal.returns-in_default-None
returns-in_default-None c = record { least = least_held c.args.self.now c.args.one.now c.args.other.now (option_copied c.least_unheld-least.result) (least_of c.args.self.now c.args.one.now c.least_unheld-least.result c.least_unheld-least.ensures.found c.least_unheld-least.ensures.none) c.in_default-None.ensures.none }

use Rattle.std.proofs.Common.{◌≡◌, List, length, slice_get, arith, ap, subst}
use Rattle.std.specs.Option.{IfSome}
use Rattle.std.proofs.lemmas.Option.{slice_get_read}
use Rattle.braid_graph.specs.Entries.{GraphEntry}
use Rattle.braid_graph.specs.Levels.{level_of}
use Rattle.braid_graph.specs.Inside.{entries_in, IsLinked}
use Rattle.braid_graph.proofs.Kept.{zip_length, level_kept, small_level_kept}
use Rattle.braid_graph.proofs.graph.Graph.level.Goals as goal

pub index-requires : goal.index-requires
index-requires c =
    let es = entries_in c.self.inside.entries.entries in
    let long = zip_length (IsLinked es) es c.self.inside.links.items c.self.invariant.0.kept.linked in
    let same = ap (λ (t : List GraphEntry). length t) c.self.view_is in
    omega (arith, long, same, c.self.inside.links.ok.0)

pub returns-clause-level : goal.returns-clause-level
returns-clause-level c =
    let es = entries_in c.self.inside.entries.entries in
    let links = c.self.inside.links in
    let long = zip_length (IsLinked es) es links.items c.self.invariant.0.kept.linked in
    let same = ap (λ (t : List GraphEntry). length t) c.self.view_is in
    let at = slice_get_read links.items (length links.items) c.args.n c.index.result.now (λ i. length links.items) (omega (arith, long, same)) c.index.ensures in
    subst (λ (t : List GraphEntry). IfSome (slice_get t c.args.n) (λ (e : GraphEntry). c.index.result.now.level ≡ level_of t e.id)) c.self.view_is (level_kept es links.items c.args.n c.index.result.now c.self.invariant.0.kept.linked at)

pub returns-clause-small : goal.returns-clause-small
returns-clause-small c =
    let es = entries_in c.self.inside.entries.entries in
    let links = c.self.inside.links in
    let long = zip_length (IsLinked es) es links.items c.self.invariant.0.kept.linked in
    let same = ap (λ (t : List GraphEntry). length t) c.self.view_is in
    let at = slice_get_read links.items (length links.items) c.args.n c.index.result.now (λ i. length links.items) (omega (arith, long, same)) c.index.ensures in
    let small = small_level_kept es links.items c.args.n c.index.result.now c.self.invariant.0.kept.linked (omega (arith, same)) at in
    omega (arith, same, small)

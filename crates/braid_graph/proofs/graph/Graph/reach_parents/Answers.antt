use Rattle.std.proofs.Common.{◌≡◌, ◌↔◌, ℕ, List, length, get_or, take, arith, sym, ap, subst, ◌∙◌}
use Rattle.std.specs.List.{Contains}
use Rattle.std.proofs.lemmas.Option.{slice_get-get_or}
use Rattle.braid_graph.specs.Entries.{GraphEntry}
use Rattle.braid_graph.specs.Inside.{entries_in, IsParentNumber, IsLinked}
use Rattle.braid_graph.proofs.Kept.{zip_length}
use Rattle.braid_graph.proofs.Marked.{parent_small, parents_kept}
use Rattle.braid_graph.proofs.Fronts.{parents_next, more_same}
use Rattle.std.proofs.lemmas.List.{take_all}
use Rattle.braid_graph.proofs.graph.Graph.reach_parents.Goals as goal

pub index-requires : goal.index-requires
index-requires c =
    let es = entries_in c.self.inside.entries.entries in
    let long = zip_length (IsLinked es) es c.self.inside.links.items c.self.invariant.0.kept.linked in
    let same = ap (λ (t : List GraphEntry). length t) c.self.view_is in
    omega (arith, long, same, c.self.inside.links.ok.0)

pub reach-requires-clause-within : goal.reach-requires-clause-within
reach-requires-clause-within c =
    let in' = c.self.inside in
    let ns = c.as_slice-parent-items.result.now in
    parent_small c.args.self.now (entries_in in'.entries.entries) in'.links.items in'.heads c.args.n c.index.result.now ns c.loop-parent.parent-index c.self.view_is c.self.invariant.0.kept c.requires.within c.index.ensures c.as_slice-parent-items.ensures (omega arith)

pub loop-parent-preserved : goal.loop-parent-preserved
loop-parent-preserved c =
    let ns = c.as_slice-parent-items.result.now in
    let i = c.loop-parent.parent-index in
    record {
      fits = c.reach.ensures.ends;
      so_far = parents_next c.args.self.now ns i (get_or ns i 0) c.args.ends.now c.loop-parent.ends c.reach.new.ends (slice_get-get_or ns i 0 (omega arith)) c.loop-parent.invariant.so_far c.reach.ensures.reached;
    }

pub returns-clause-reached : goal.returns-clause-reached
returns-clause-reached c =
    let in' = c.self.inside in
    let es = c.args.self.now in
    let ns = c.as_slice-parent-items.result.now in
    let i = c.loop-parent.parent-index in
    let all : take i ns ≡ c.index.result.now.parents.items = take_all i ns (omega arith) ∙ c.as_slice-parent-items.ensures in
    let both = parents_kept es (entries_in in'.entries.entries) in'.links.items in'.heads c.args.n c.index.result.now c.self.view_is c.self.invariant.0.kept c.requires.within c.index.ensures in
    more_same es c.args.ends.now c.loop-parent.ends (Contains (take i ns)) (IsParentNumber es c.args.n) (λ m. subst (λ (t : List ℕ). Contains t m ↔ IsParentNumber es c.args.n m) (sym all) (both m)) c.loop-parent.invariant.so_far

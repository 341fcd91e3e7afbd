use Rattle.std.proofs.Common.{◌≡◌, ℕ, ◌+◌, ◌-◌, List, length, drop, filter, reverse, arith, sym, ap, subst, inl, inr, ◌⊎◌}
use Rattle.braid_graph.specs.Entries.{GraphEntry, ids_of}
use Rattle.braid_graph.specs.Frontiers.{is_head, heads_of}
use Rattle.braid_graph.specs.Inside.{entries_in}
use Rattle.braid_graph.proofs.Collected.{head_next, other_next, heads_all, heads_few}
use Rattle.braid_graph.proofs.graph.Graph.head_ids.Goals as goal
use Rattle.braid_graph.proofs.graph.Graph.head_ids.Goals.{else-loop-n-test, then-loop-n-test+then-len-width}

pub loop-n-preserved-in_ok-push : goal.loop-n-preserved-in_ok-push
loop-n-preserved-in_ok-push c =
    let in' = c.self.inside in
    let n = c.loop-n.n in
    let step : n ≡ (n - 1) + 1 = omega arith in
    let so_far = subst (λ (k : ℕ). c.loop-n.ids.items ≡ reverse (filter (is_head (entries_in in'.entries.entries)) (drop k (ids_of (entries_in in'.entries.entries))))) step c.loop-n.invariant in
    rw (c.in_ok-push.ensures.items, c.in_ok-copy.ensures.ok) (head_next in'.entries.entries in'.links.items in'.heads (n - 1) c.in-Some.id.now c.in-Some.field-0-1.now c.loop-n.ids.items c.self.invariant.0.kept (sym c.in-Some.ensures.entry) c.if-has.ensures.has so_far)

pub loop-n-preserved : goal.loop-n-preserved
loop-n-preserved c =
    let in' = c.self.inside in
    let n = c.loop-n.n in
    let step : n ≡ (n - 1) + 1 = omega arith in
    let so_far = subst (λ (k : ℕ). c.loop-n.ids.items ≡ reverse (filter (is_head (entries_in in'.entries.entries)) (drop k (ids_of (entries_in in'.entries.entries))))) step c.loop-n.invariant in
    other_next in'.entries.entries in'.links.items in'.heads (n - 1) c.loop-n.ids.items c.self.invariant.0.kept (omega (arith, c.len-n.ensures.len)) c.if-has.ensures.has so_far

pub returns-clause-ok : goal.returns-clause-ok
returns-clause-ok c =
    let in' = c.self.inside in
    let end : (length c.loop-n.ids.items ≡ c.count-width.result) ⊎ (c.loop-n.n ≡ 0) = elim c.loop-n-test.branch [
      | else-loop-n-test w ↦ inr (omega arith)
      | then-loop-n-test+then-len-width w ↦ inl (omega (arith, w.len.ensures, c.loop-n.ids.ok.0))
    ] in
    subst (λ (es : List GraphEntry). c.loop-n.ids.items ≡ reverse (heads_of es)) c.self.view_is (heads_all (entries_in in'.entries.entries) in'.links.items in'.heads c.loop-n.ids.items c.loop-n.n c.count-width.result c.self.invariant.0.kept c.count-width.ensures.count c.loop-n.invariant end)

pub returns-clause-few : goal.returns-clause-few
returns-clause-few c =
    let few = heads_few c.args.self.now c.loop-n.ids.items (returns-clause-ok c) in
    let long = ap (λ (es : List GraphEntry). length es) c.self.view_is in
    omega (arith, few, long, c.self.invariant.0.kept.few, c.loop-n.ids.ok.0)

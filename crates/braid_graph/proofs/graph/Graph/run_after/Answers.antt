use Rattle.std.proofs.Common.{◌≡◌, ℕ, ◌+◌, ◌-◌, List, None, length, get_or, arith, sym, ap, subst, ◌∙◌}
use Rattle.braid_graph.specs.Entries.{GraphEntry, IsHistoryGraph}
use Rattle.braid_graph.specs.Inside.{entries_in}
use Rattle.braid_graph.proofs.Collected.{entries_length}
use Rattle.braid_graph.proofs.Runs.{runs_within, runs_some}
use Rattle.braid_graph.proofs.RunsKept.{starts_kept, one_item, run_on, run_new}
use Rattle.braid_graph.proofs.graph.Graph.run_after.Goals as goal

pub overflow_cast-runs : goal.overflow_cast-runs
overflow_cast-runs c =
    let own = entries_in c.self.inside.entries.entries in
    let begin = ap length c.self.invariant.0.runs.begin in
    let few = runs_within 0 None own in
    omega (arith, c.self.inside.starts.ok.0, c.len-runs.ensures, begin, few, c.self.invariant.0.kept.few)

pub overflow_sub-result : goal.overflow_sub-result
overflow_sub-result c =
    let own = entries_in c.self.inside.entries.entries in
    let begin = ap length c.self.invariant.0.runs.begin in
    let long : c.len.result ≡ length own = c.len.ensures.len ∙ sym (entries_length c.self.inside.entries.entries) in
    let some = runs_some own (omega arith) in
    omega (arith, c.self.inside.starts.ok.0, c.len-runs.ensures, begin, some)

pub returns : goal.returns
returns c =
    let in' = c.self.inside in
    let own = entries_in in'.entries.entries in
    let es = c.args.self.now in
    let begin = ap length (starts_kept es own in'.links.items in'.heads in'.starts.items c.self.view_is c.self.invariant.0) in
    let long : c.len.result ≡ length es = c.len.ensures.len ∙ sym (entries_length in'.entries.entries) ∙ ap (λ (t : List GraphEntry). length t) c.self.view_is in
    let some = overflow_sub-result c in
    record { run = λ ps z. run_on es ps c.args.parents.now (get_or c.args.parents.now 0 0) (c.len-runs.result - 1) (one_item c.args.parents.now (omega arith) (omega arith)) (c.if-parents-len.false ∙ long) (omega (arith, in'.starts.ok.0, c.len-runs.ensures, begin, some)) z }

pub returns-then-parents-len : goal.returns-then-parents-len
returns-then-parents-len c =
    let in' = c.self.inside in
    let own = entries_in in'.entries.entries in
    let es = c.args.self.now in
    let begin = ap length (starts_kept es own in'.links.items in'.heads in'.starts.items c.self.view_is c.self.invariant.0) in
    let long : c.len.result ≡ length es = c.len.ensures.len ∙ sym (entries_length in'.entries.entries) ∙ ap (λ (t : List GraphEntry). length t) c.self.view_is in
    let h = subst IsHistoryGraph c.self.view_is c.self.invariant.0.kept.history in
    record { run = λ ps z. run_new es ps c.args.parents.now c.len-runs.result h (λ n one last. c.if-parents-len.true (ap (λ (t : List ℕ). get_or t 0 0 + 1) one ∙ last ∙ sym long)) (omega (arith, in'.starts.ok.0, c.len-runs.ensures, begin)) z }

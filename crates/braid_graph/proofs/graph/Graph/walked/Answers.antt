use Rattle.std.proofs.Common.{◌≡◌, ℕ, ◌+◌, List, length, drop, ◌-◌, arith, sym, subst}
use Rattle.std.proofs.lemmas.List.{take_at}
use Rattle.braid_graph.specs.Entries.{IsHistoryGraph}
use Rattle.braid_graph.specs.Inside.{IsReached}
use Rattle.braid_graph.proofs.Fronts.{reached_ok}
use Rattle.braid_graph.proofs.graph.Graph.walked.Goals as goal

pub loop-run-preserved : goal.loop-run-preserved
loop-run-preserved c =
    let es = c.args.self.now in
    let F = c.args.of.now in
    let r = c.loop-run.run - 1 in
    let again : c.loop-run.run ≡ r + 1 = omega arith in
    let old : IsReached es F F (r + 1) c.deref_mut-in-loop-run.result.now = subst (λ (t : List ℕ). IsReached es F F (r + 1) t) (sym c.deref_mut-in-loop-run.ensures.value) (subst (λ (n : ℕ). IsReached es F F n c.loop-run.ends.items) again c.loop-run.invariant) in
    let has = c.reach_behind.ensures.reached F old in
    let new = c.reach_behind.new.ends in
    let rest = drop (length new) c.loop-run.ends.items in
    let long : length new ≡ c.loop-run.ends.len = omega (arith, c.loop-run.ends.ok.0, c.loop-run.invariant.fits.size, has.fits.size) in
    subst (λ (t : List ℕ). IsReached es F F r t) (sym (take_at new rest c.loop-run.ends.len long)) has

pub returns : goal.returns
returns c =
    let es = c.args.self.now in
    let F = c.args.of.now in
    let h = subst IsHistoryGraph c.self.view_is c.self.invariant.0.kept.history in
    let end : c.loop-run.run ≡ 0 = omega arith in
    let all = subst (λ (n : ℕ). IsReached es F F n c.loop-run.ends.items) end c.loop-run.invariant in
    let has = subst (λ (t : List ℕ). IsReached es F F 0 t) (sym c.deref.ensures.value) all in
    record { ok = reached_ok es F c.deref.result.now c.fronts.result h c.requires.held has c.fronts.ensures.size c.fronts.ensures.ok }

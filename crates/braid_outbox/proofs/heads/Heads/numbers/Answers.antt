use Rattle.std.proofs.Common.{◌≡◌, ◌<◌, ◌+◌, ◌-◌, ℕ, Bool, length, get_or, arith, subst, inl, inr, ◌⊎◌}
use Rattle.braid_outbox.proofs.HeadMarks.{AreNumbers, numbers_yes, numbers_no, numbers_all}
use Rattle.braid_outbox.proofs.heads.Heads.numbers.Goals as goal
use Rattle.braid_outbox.proofs.heads.Heads.numbers.Goals.{else-loop-n-test, then-loop-n-test+then-len-count}

pub loop-n-preserved-in-Continue-branch-2 : goal.loop-n-preserved-in-Continue-branch-2
loop-n-preserved-in-Continue-branch-2 c =
    let flags = c.args.self.now.flags.items in
    let n = c.loop-n.n in
    let step : n ≡ (n - 1) + 1 = omega arith in
    let inside : n - 1 < length flags = omega (arith, c.len-n.ensures, c.args.self.now.flags.ok.0) in
    numbers_yes flags (n - 1) c.loop-n.numbers.items c.push.new.self.items inside (subst (λ (b : Bool). b ≡ get_or flags (n - 1) b) c.if-index.true c.index.ensures) c.in_ok-push.ensures.items
    (subst (λ (k : ℕ). AreNumbers flags k c.loop-n.numbers.items) step c.loop-n.invariant)

pub loop-n-preserved : goal.loop-n-preserved
loop-n-preserved c =
    let flags = c.args.self.now.flags.items in
    let n = c.loop-n.n in
    let step : n ≡ (n - 1) + 1 = omega arith in
    let inside : n - 1 < length flags = omega (arith, c.len-n.ensures, c.args.self.now.flags.ok.0) in
    numbers_no flags (n - 1) c.loop-n.numbers.items inside (subst (λ (b : Bool). b ≡ get_or flags (n - 1) b) c.if-index.false c.index.ensures)
    (subst (λ (k : ℕ). AreNumbers flags k c.loop-n.numbers.items) step c.loop-n.invariant)

pub returns-clause-ok : goal.returns-clause-ok
returns-clause-ok c =
    let end : (length c.loop-n.numbers.items ≡ c.args.self.now.count) ⊎ (c.loop-n.n ≡ 0) = elim c.loop-n-test.branch [
      | else-loop-n-test w ↦ inr (omega arith)
      | then-loop-n-test+then-len-count w ↦ inl (omega (arith, w.len.ensures, c.loop-n.numbers.ok.0))
    ] in
    numbers_all c.args.self.now.flags.items c.loop-n.n c.args.self.now.count c.loop-n.numbers.items c.args.self.now.counted end c.loop-n.invariant

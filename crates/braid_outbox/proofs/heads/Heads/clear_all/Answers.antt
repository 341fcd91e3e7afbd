use Rattle.std.proofs.Common.{ap, arith, ◌∙◌}
use Rattle.braid_outbox.specs.declared.heads.Heads.{Heads}
use Rattle.braid_outbox.proofs.HeadMarks.{cleared_found, cleared_missing, cleared_all}
use Rattle.braid_outbox.proofs.heads.Heads.clear_all.Goals as goal
use Rattle.braid_outbox.proofs.heads.Heads.clear_all.Goals.{in-Some-find, in_default-find}

pub loop-i-preserved : goal.loop-i-preserved
loop-i-preserved c = elim c.match-find.branch [
  | in-Some-find w ↦ cleared_found c.args.resource.now c.entries-entries.ensures.legal c.args.of.now c.loop-i.i w.in-Some-find.n c.in-Some.id.now c.in-Some.ensures.value w.in-Some-find.ensures.found c.args.self.now.flags.items c.loop-i.self.flags.items c.match-find.self.flags.items c.requires.size
      (ap (λ (t : Heads). t.flags.items) w.self-is ∙ w.clear.ensures.flags) c.loop-i.invariant
  | in_default-find w ↦ cleared_missing c.args.resource.now c.args.of.now c.loop-i.i c.in-Some.id.now c.in-Some.ensures.value w.in_default-find.ensures.none c.args.self.now.flags.items c.loop-i.self.flags.items c.match-find.self.flags.items
      (ap (λ (t : Heads). t.flags.items) w.self-is) c.loop-i.invariant
]

pub returns-clause-cleared : goal.returns-clause-cleared
returns-clause-cleared c = cleared_all c.args.resource.now c.args.of.now c.loop-i.i c.args.self.now.flags.items c.loop-i.self.flags.items (omega (arith, c.loop-i-test.false, c.len-i-end.ensures.len)) c.loop-i.invariant

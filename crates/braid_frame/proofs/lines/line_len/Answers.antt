use Rattle.std.proofs.Common.{arith, sym, subst}
use Rattle.std.proofs.lemmas.List.{take_more}
use Rattle.braid_ids.specs.Lists.{Lacks}
use Rattle.braid_grammar.specs.Lines.{IsLine}
use Rattle.braid_frame.proofs.LinesKept.{lacks_push, lacks_line}
use Rattle.braid_frame.proofs.lines.line_len.Goals as goal

pub loop-i-preserved : goal.loop-i-preserved
loop-i-preserved c = subst (Lacks 10) (sym (take_more c.args.bytes.now c.loop-i.i 0 c.loop-i-test.true)) (lacks_push 10 _ _ c.loop-i.invariant c.if-byte-eq10.false)

pub returns-then-byte-eq10 : goal.returns-then-byte-eq10
returns-then-byte-eq10 c = (omega arith, omega arith, subst IsLine (sym (take_more c.args.bytes.now c.loop-i.i 0 c.loop-i-test.true)) (lacks_line _ _ c.loop-i.invariant c.if-byte-eq10.true))

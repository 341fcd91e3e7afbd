use Rattle.std.proofs.Common.{length, sym, ◌∙◌, arith}
use Rattle.std.proofs.lemmas.Bool.{eqb-false}
use Rattle.braid_grammar.proofs.ReadStreams.{is_no_gap}
use Rattle.braid_grammar.proofs.stream.end_of.Goals as goal

pub returns-else-is_empty : goal.returns-else-is_empty
returns-else-is_empty c =
    let e = eqb-false (length c.after_gap.result.now) 0 (sym c.is_empty.ensures ∙ c.if-is_empty.false) in
    is_no_gap c.args.rest.now c.after_gap.result.now c.after_gap.ensures (omega (arith, e))

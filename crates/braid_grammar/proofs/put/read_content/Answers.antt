use Rattle.std.proofs.Common.{◌≡◌, true, false, sym, subst, ◌∙◌}
use Rattle.braid_grammar.specs.Readings.{change_at}
use Rattle.braid_grammar.specs.Readers.{Finds}
use Rattle.braid_grammar.proofs.Puts.{part_is_short, bad_is_reason, found_is_whole, found_has_extra}
use Rattle.braid_grammar.proofs.put.read_content.Goals as goal

pub returns-in-Part : goal.returns-in-Part
returns-in-Part c = record {
  content = part_is_short c.args.asks c.args.bytes.now (subst (λ f. Finds f (change_at c.args.asks 0 c.args.bytes.now)) c.in-Part.is c.in_ok-read_change.ensures);
}

pub returns-in-Bad : goal.returns-in-Bad
returns-in-Bad c = record {
  content = bad_is_reason c.args.asks c.args.bytes.now c.in-Bad._at c.in-Bad.reason (subst (λ f. Finds f (change_at c.args.asks 0 c.args.bytes.now)) c.in-Bad.is c.in_ok-read_change.ensures);
}

pub returns-then-is_gap : goal.returns-then-is_gap
returns-then-is_gap c = record {
  content = found_is_whole c.args.asks c.args.bytes.now c.in-Whole.change c.in-Whole._last c.in-Whole.rest.now
      (subst (λ f. Finds f (change_at c.args.asks 0 c.args.bytes.now)) c.in-Whole.is c.in_ok-read_change.ensures) (c.is_gap.ensures.gap.0 c.if-is_gap.true);
}

pub returns-else-is_gap : goal.returns-else-is_gap
returns-else-is_gap c = record {
  content = found_has_extra c.args.asks c.args.bytes.now c.in-Whole.change c.in-Whole._last c.in-Whole.rest.now
      (subst (λ f. Finds f (change_at c.args.asks 0 c.args.bytes.now)) c.in-Whole.is c.in_ok-read_change.ensures)
      (λ k. let both : true ≡ false = sym (c.is_gap.ensures.gap.1 k) ∙ c.if-is_gap.false in cc);
}

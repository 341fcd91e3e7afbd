use Rattle.braid_outbox.proofs.Calls.{other_first, same_first, not_acked, is_acked}
use Rattle.std.proofs.Common.{sym, ap, ◌∙◌}
use Rattle.std.specs.Option.{option_copied}
use Rattle.braid_outbox.proofs.replica.Replica.acked.Goals as goal

pub returns-then-ne-clause-moved : goal.returns-then-ne-clause-moved
returns-then-ne-clause-moved c = not_acked c.args.id.now c.args.self.now (other_first _ _ _ _ (ap option_copied (sym c.in-Some.is) ∙ c.next_out.ensures.value) c.id.ensures.value c.if-ne.ensures)

pub returns-then-ne-clause-told : goal.returns-then-ne-clause-told
returns-then-ne-clause-told c = other_first _ _ _ _ (ap option_copied (sym c.in-Some.is) ∙ c.next_out.ensures.value) c.id.ensures.value c.if-ne.ensures

pub returns-clause-moved : goal.returns-clause-moved
returns-clause-moved c = is_acked c.args.id.now c.args.self.now c.confirm_first.new.self (same_first _ _ _ _ (ap option_copied (sym c.in-Some.is) ∙ c.next_out.ensures.value) c.id.ensures.value c.if-ne.ensures) c.confirm_first.ensures.moved

pub returns-clause-told : goal.returns-clause-told
returns-clause-told c = same_first _ _ _ _ (ap option_copied (sym c.in-Some.is) ∙ c.next_out.ensures.value) c.id.ensures.value c.if-ne.ensures

use Rattle.std.proofs.Common.{arith, rules, ◌∙◌}
use Rattle.std.specs.Ordering.{is_lt}
use Rattle.std.proofs.lemmas.Cmp.{nat_list_cmp_total}
use Rattle.std.proofs.lemmas.List.{take_all}
use Rattle.std.proofs.lemmas.List.Sorted.{ranks_by, answers_always}
use Rattle.braid_ids.specs.Identifiers.{id_cmp}
use Rattle.braid_text.proofs.Sorted.{sorted_is}
use Rattle.braid_text.proofs.digesting.sorted.Goals as goal

pub returns : goal.returns
returns c = record {
  ok = sorted_is (λ update. update.now) c.args.updates.now c.loop-update.sorted.items c.sort_unstable_by.new.self.items c.requires.legal
      (c.loop-update.invariant ∙ take_all c.loop-update.update-index c.args.updates.now (omega (arith, c.loop-update-test.false)))
      c.sort_unstable_by.ensures.permutation
      (c.sort_unstable_by.ensures.sorted (λ one other. is_lt (id_cmp one.now.id other.now.id)) (ranks_by nat_list_cmp_total (λ update. update.now.id)) (answers_always _ _ _ (λ f a r g h. search rules)));
}

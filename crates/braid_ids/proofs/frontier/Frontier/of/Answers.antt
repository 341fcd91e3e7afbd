use Rattle.std.proofs.Common.{arith, nat_eq}
use Rattle.std.specs.Cmp.Lexicographic.{pointwise}
use Rattle.std.proofs.lemmas.List.Filters.{dedup_is}
use Rattle.braid_ids.proofs.Rising.{rising-dedup, same-dedup}
use Rattle.braid_ids.proofs.frontier.Frontier.of.Goals as goal

pub invariant_of-result : goal.invariant_of-result
invariant_of-result c =
    record {
      identifiers = rw (← c.deref.ensures.value) c.are_identifiers.ensures.valid;
      rising = rw (dedup_is (pointwise nat_eq) _ _ c.dedup.ensures.filtered) (rising-dedup _ c.in_ok-sort.ensures.sorted);
      counted = omega (arith, c.dedup.ensures.bound, c.in_ok-sort.ensures.len, c.dedup.new.self.ok.0);
    }

pub returns-clause-rising : goal.returns-clause-rising
returns-clause-rising c = rw (dedup_is (pointwise nat_eq) _ _ c.dedup.ensures.filtered) (rising-dedup _ c.in_ok-sort.ensures.sorted)

pub returns-clause-same : goal.returns-clause-same
returns-clause-same c = rw (dedup_is (pointwise nat_eq) _ _ c.dedup.ensures.filtered) (same-dedup _ _ c.in_ok-sort.ensures.permutation)

use Rattle.braid_tree.specs.Keys.{key_cmp}
use Rattle.braid_tree.proofs.Keys.{keys_strict}
use Rattle.braid_tree.proofs.Member.{contains_member, member_contains}
use Rattle.braid_tree.proofs.Kept.{same_reading}
use Rattle.braid_tree.proofs.laws.one_reading.Goals as goal

pub returns : goal.returns
returns c = record { member = λ xs z. (member_contains xs z, contains_member xs z); law = λ xs ys a b same. same_reading key_cmp keys_strict xs ys a b (λ z m. (same z).0 m) (λ z m. (same z).1 m) }

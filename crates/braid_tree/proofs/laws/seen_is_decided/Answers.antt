use Rattle.braid_tree.proofs.SeenRows.{deleted_words, seen_words, seen_same}
use Rattle.braid_tree.proofs.Deletions.{puts_members, puts_length, puts_permuted}
use Rattle.braid_tree.proofs.laws.seen_is_decided.Goals as goal

pub returns : goal.returns
returns c = record { deleted = deleted_words; seen = seen_words; unordered = seen_same; members = puts_members; counted = puts_length; permuted = puts_permuted }

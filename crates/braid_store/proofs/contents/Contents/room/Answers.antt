use Rattle.std.proofs.Common.{arith}
use Rattle.braid_store.specs.Inside.{entries_in}
use Rattle.braid_store.proofs.Keeping.{versions_len, room_is}
use Rattle.braid_store.proofs.contents.Contents.room.Goals as goal

pub overflow_sub-result : goal.overflow_sub-result
overflow_sub-result c = let few = c.requires.kept.book.few_versions in let len = versions_len _ _ _ _ c.requires.kept in omega (arith, few, len)

pub returns : goal.returns
returns c = record { room = room_is _ _ _ (entries_in c.args.self.now) (let len = versions_len _ _ _ _ c.requires.kept in omega (arith, len, c.len.ensures)) c.requires.kept.elements_sum c.requires.kept.deletions_sum }

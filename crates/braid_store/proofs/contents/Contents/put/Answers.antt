use Rattle.std.proofs.Common.{is_some, sym, ap, ◌∙◌}
use Rattle.braid_store.specs.Inside.{entries_in}
use Rattle.braid_store.proofs.Found.{absent_by, place_by}
use Rattle.braid_store.proofs.contents.Contents.put.Goals as goal

pub put_first-requires-clause-absent : goal.put_first-requires-clause-absent
put_first-requires-clause-absent c = absent_by _ (entries_in c.args.self.now) c.get.result.now c.args.path.now c.requires.kept.resources c.get.ensures.value (sym c.get_index_of.ensures.found ∙ ap is_some c.in-None.is)

pub returns-in-Some : goal.returns-in-Some
returns-in-Some c = record { puts = c.put_behind.ensures.puts c.args.path.now (place_by _ (entries_in c.args.self.now) c.get.result.now c.args.path.now c.in-Some.n c.requires.kept.resources c.get.ensures.value (sym c.get_index_of.ensures.index ∙ c.in-Some.is)) }

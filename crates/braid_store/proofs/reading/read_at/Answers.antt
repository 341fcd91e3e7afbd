use Rattle.std.proofs.Common.{subst}
use Rattle.std.specs.Option.{option_copied}
use Rattle.braid_graph.specs.Ancestries.{IsUnknown}
use Rattle.braid_text.specs.Histories.{graph_of}
use Rattle.braid_store.proofs.Stepping.{unheld_of}
use Rattle.braid_store.proofs.reading.read_at.Goals as goal

pub returns-in-Err-Id-clause-fault : goal.returns-in-Err-Id-clause-fault
returns-in-Err-Id-clause-fault c = unheld_of c.args.resource.now (option_copied c.args.at) c.in-Ok.version c.in-Err-Id.id c.in-Ok.ensures.ok (subst (IsUnknown (graph_of c.args.resource.now) c.in-Ok.version) c.in-Err-Id.field-0-is c.in-Err-Id.ensures.fault)

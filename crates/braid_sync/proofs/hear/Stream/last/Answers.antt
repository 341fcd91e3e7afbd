use Rattle.braid_stream.specs.declared.next.Next.TheVariants.{Update, End, Torn, Fault, ReadFault, Spent}
use Rattle.braid_sync.proofs.AtHands.{hears_end}
use Rattle.braid_sync.proofs.hear.Stream.last.Goals as goal

pub returns-in-Update-clause-hears : goal.returns-in-Update-clause-hears
returns-in-Update-clause-hears c us content h g all = hears_end us content (Update c.in-Update.update) c.next.new.self all (c.in-Update.ensures.answers us content g h)

pub returns-in-End-clause-hears : goal.returns-in-End-clause-hears
returns-in-End-clause-hears c us content h g all = hears_end us content End c.next.new.self all (c.in-End.ensures.answers us content g h)

pub returns-in-Torn-clause-hears : goal.returns-in-Torn-clause-hears
returns-in-Torn-clause-hears c us content h g all = hears_end us content (Torn _) c.next.new.self all (c.in-Torn.ensures.answers us content g h)

pub returns-in-Fault-clause-hears : goal.returns-in-Fault-clause-hears
returns-in-Fault-clause-hears c us content h g all = hears_end us content (Fault c.in-Fault.fault) c.next.new.self all (c.in-Fault.ensures.answers us content g h)

pub returns-in-ReadFault-clause-hears : goal.returns-in-ReadFault-clause-hears
returns-in-ReadFault-clause-hears c us content h g all = hears_end us content ReadFault c.next.new.self all (c.in-ReadFault.ensures.answers us content g h)

pub returns-in-Spent-clause-hears : goal.returns-in-Spent-clause-hears
returns-in-Spent-clause-hears c us content h g all = hears_end us content Spent c.next.new.self all (c.in-Spent.ensures.answers us content g h)

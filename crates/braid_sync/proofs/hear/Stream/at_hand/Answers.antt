use Rattle.braid_sync.proofs.AtHands.{hands_update, hands_none, hands_fault, hands_spent, hands_no_end, hands_no_torn}
use Rattle.braid_sync.proofs.hear.Stream.at_hand.Goals as goal

pub returns-in-Update-clause-hears : goal.returns-in-Update-clause-hears
returns-in-Update-clause-hears c us taken h g = hands_update us taken c.in-Update.update c.args.self.now.reader c.next.new.self c.args.self.now.piece c.next.new.source h (c.in-Update.ensures.answers us taken g h)

pub returns-in-ReadFault-clause-hears : goal.returns-in-ReadFault-clause-hears
returns-in-ReadFault-clause-hears c us taken h g = hands_none us taken c.args.self.now.reader c.next.new.self c.args.self.now.piece c.next.new.source c.left-none.ensures.used (c.in-ReadFault.ensures.answers us taken g h)

pub returns-in-Fault-clause-hears : goal.returns-in-Fault-clause-hears
returns-in-Fault-clause-hears c us taken h g = hands_fault us taken c.in-Fault.fault c.args.self.now.reader c.next.new.self c.args.self.now.piece c.next.new.source (c.in-Fault.ensures.answers us taken g h)

pub returns-in-Spent-clause-hears : goal.returns-in-Spent-clause-hears
returns-in-Spent-clause-hears c us taken h g = hands_spent us taken c.args.self.now.reader c.next.new.self c.args.self.now.piece c.next.new.source (c.in-Spent.ensures.answers us taken g h)

pub returns-in-End-clause-hears : goal.returns-in-End-clause-hears
returns-in-End-clause-hears c us taken h g = hands_no_end us taken c.next.new.self c.args.self.now.piece c.next.new.source (c.in-End.ensures.answers us taken g h)

pub returns-in-Torn-clause-hears : goal.returns-in-Torn-clause-hears
returns-in-Torn-clause-hears c us taken h g = hands_no_torn us taken _ c.next.new.self c.args.self.now.piece c.next.new.source (c.in-Torn.ensures.answers us taken g h)

use Rattle.braid_stream.proofs.update_reader.UpdateReader.next.Goals as goal

pub returns-clause-at_hand : goal.returns-clause-at_hand
returns-clause-at_hand g c = rw (← c.self.view_is) c.next.ensures.at_hand

use Rattle.braid_outbox.proofs.Calls.{entry_past, entry_found}
use Rattle.braid_outbox.proofs.replica.Replica.entry.Goals as goal

pub returns-in_default : goal.returns-in_default
returns-in_default c = record { value = entry_past _ _ _ _ _ c.self.invariant.kept _ c.self.view_is _ _ c.deref.ensures.value c.in_default.ensures.lookup.0 }

pub returns : goal.returns
returns c = record { value = entry_found _ _ _ _ _ c.self.invariant.kept _ c.self.view_is _ _ _ _ c.deref.ensures.value c.in-Some.ensures.lookup.0 c.in-Some.ensures.lookup.1 c.entry.ensures.value }

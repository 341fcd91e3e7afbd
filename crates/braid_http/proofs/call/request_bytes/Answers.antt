use Rattle.braid_http.proofs.call.request_bytes.Goals as goal

pub returns-in-Subscribe : goal.returns-in-Subscribe
returns-in-Subscribe c = record { ok = rw c.in-Subscribe.is c.subscribe_bytes.ensures.ok }

pub returns-in-Put : goal.returns-in-Put
returns-in-Put c = record { ok = rw c.in-Put.is c.put_bytes.ensures.ok }

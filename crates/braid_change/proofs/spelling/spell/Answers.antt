use Rattle.std.proofs.Common.{ap}
use Rattle.braid_ids.specs.Identifiers.{spelled_id}
use Rattle.braid_change.specs.Spellings.{list_text, change_text}
use Rattle.braid_change.proofs.Outlets.{along}
use Rattle.braid_change.proofs.spelling.spell.Goals as goal

pub returns : goal.returns
returns g c =
    let m = g.met.O.Outlet.more in
    let id = along g.O.Outlet.puts _ _ _ _ (ap spelled_id c.id.ensures.value) c.put_id.ensures.puts in
    let parents = along g.O.Outlet.puts _ _ _ _ (ap list_text c.parents.ensures.value) c.put_parents.ensures.puts in
    let change = along g.O.Outlet.puts _ _ _ _ (ap change_text c.change.ensures.value) c.put_change.ensures.puts in
    record { puts = m _ _ _ _ _ (m _ _ _ _ _ (m _ _ _ _ _ (m _ _ _ _ _ (m _ _ _ _ _ (m _ _ _ _ _ c.put.ensures.put id) c.put-2.ensures.put) parents) c.put-3.ensures.put) change) c.put-4.ensures.put }

use Rattle.std.proofs.Common.{◌∷◌, List, ℕ, ap}
use Rattle.braid_ids.specs.Identifiers.{escaped}
use Rattle.braid_change.proofs.Outlets.{along, all_escaped}
use Rattle.braid_change.proofs.Written.{mapped_at}
use Rattle.braid_change.proofs.spelling.put_id.Goals as goal

pub loop-byte-preserved : goal.loop-byte-preserved
loop-byte-preserved g c =
    let items = c.bytes-byte-items.result.now in
    let i = c.loop-byte.byte-index in
    along g.O.Outlet.puts _ _ _ _ (ap (λ (t : List ℕ). 34 ∷ t) (mapped_at escaped items i 0 c.loop-byte-test.true)) (g.met.O.Outlet.more _ _ _ _ _ c.loop-byte.invariant c.put_escaped.ensures.puts)

pub returns : goal.returns
returns g c =
    let all = along g.O.Outlet.puts _ _ _ _ (all_escaped _ _ _ c.loop-byte-test.false c.bytes-byte-items.ensures.value) c.loop-byte.invariant in
    record { puts = g.met.O.Outlet.more _ _ _ _ _ all c.put-2.ensures.put }

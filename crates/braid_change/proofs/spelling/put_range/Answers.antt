use Rattle.braid_change.proofs.spelling.put_range.Goals as goal

pub returns : goal.returns
returns g c =
    let m = g.met.O.Outlet.more in
    record { puts = m _ _ _ _ _ (m _ _ _ _ _ (m _ _ _ _ _ (m _ _ _ _ _ c.put.ensures.put c.put_number.ensures.puts) c.put-2.ensures.put) c.put_number-2.ensures.puts) c.put-3.ensures.put }

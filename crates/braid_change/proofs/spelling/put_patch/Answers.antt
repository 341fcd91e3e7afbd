use Rattle.braid_change.proofs.spelling.put_patch.Goals as goal

pub returns : goal.returns
returns g c =
    let m = g.met.O.Outlet.more in
    record { puts = m _ _ _ _ _ (m _ _ _ _ _ (m _ _ _ _ _ c.put_length.ensures.puts c.put.ensures.put) c.put_range.ensures.puts) c.put_content.ensures.puts }

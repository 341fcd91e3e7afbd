use Rattle.std.proofs.Common.{List, ap, length, decimal, flat_map}
use Rattle.braid_change.specs.declared.patch.Patch.{Patch}
use Rattle.braid_change.specs.Spellings.{patch_text}
use Rattle.braid_change.proofs.Outlets.{along}
use Rattle.braid_change.proofs.spelling.put_change.Goals as goal

pub returns-in-Body : goal.returns-in-Body
returns-in-Body g c = rw c.in-Body.is (record { puts = g.met.O.Outlet.more _ _ _ _ _ c.put_length.ensures.puts c.put_content.ensures.puts })

pub returns-in-Patches : goal.returns-in-Patches
returns-in-Patches g c =
    let m = g.met.O.Outlet.more in
    let count = along g.O.Outlet.puts _ _ _ _ (ap (λ (ps : List Patch). decimal (length ps)) c.get.ensures.value) c.put_number.ensures.puts in
    let patches = along g.O.Outlet.puts _ _ _ _ (ap (flat_map patch_text) c.get-in-Patches.ensures.value) c.put_patches.ensures.puts in
    rw c.in-Patches.is (record { puts = m _ _ _ _ _ (m _ _ _ _ _ (m _ _ _ _ _ c.put.ensures.put count) c.put-in-Patches.ensures.put) patches })

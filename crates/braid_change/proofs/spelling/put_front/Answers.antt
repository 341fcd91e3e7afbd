use Rattle.std.proofs.Common.{◌∙◌, sym}
use Rattle.braid_change.proofs.Outlets.{along}
use Rattle.braid_change.proofs.AsciiTexts.{encoded_ascii}
use Rattle.braid_change.proofs.spelling.put_front.Goals as goal

pub returns-then-count-gt0-clause-puts : goal.returns-then-count-gt0-clause-puts
returns-then-count-gt0-clause-puts g c =
    along g.O.Outlet.puts _ _ _ _ (c.fill_ascii-count.ensures.filled ∙ sym (encoded_ascii _ c.fill_ascii-count.ensures.ascii)) c.put.ensures.put

use Rattle.std.proofs.Common.{ap, length, drop, ◌∙◌, arith}
use Rattle.braid_stream.proofs.Windows.{window_passed, window_size}
use Rattle.braid_stream.proofs.held.Held.pass.Goals as goal

pub returns : goal.returns
returns c =
    let i = c.self.inside in
    let size = window_size i.buffer i.from i.to (omega arith) in
    let same = ap length c.self.view_is in
    record { rest = window_passed i.buffer i.from i.to c.args.count (omega (arith, size, same, c.requires.within)) ∙ ap (drop c.args.count) c.self.view_is }

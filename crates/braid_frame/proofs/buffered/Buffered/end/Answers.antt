use Rattle.std.proofs.Common.{refl}
use Rattle.braid_frame.specs.Buffers.{BufferView}
use Rattle.braid_frame.proofs.Buffers.{ended_part}
use Rattle.braid_frame.proofs.buffered.Buffered.end.Goals as goal

pub returns-then-self-clause-written : goal.returns-then-self-clause-written
returns-then-self-clause-written g c bytes first none sound puts =
    let old : BufferView = record { held = c.args.self.now.held; failed = c.args.self.now.failed; outflow = g.S.Sink.outflow c.args.self.now.sink.now } in
    let new : BufferView = record { held = c.flush.new.self.held; failed = c.flush.new.self.failed; outflow = g.S.Sink.outflow c.flush.new.self.sink.now } in
    (refl, ended_part bytes first old new none sound puts c.flush.ensures.puts c.if-self.true)

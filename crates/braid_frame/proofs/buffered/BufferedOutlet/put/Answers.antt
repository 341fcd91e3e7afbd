use Rattle.std.proofs.Common.{◌≡◌, ◌∙◌, true, false, take}
use Rattle.braid_frame.specs.Buffers.{BufferView}
use Rattle.braid_frame.proofs.Buffers.{cut_off, front_more, joined}
use Rattle.braid_frame.proofs.buffered.BufferedOutlet.put.Goals as goal

pub returns-then-not-make_room : goal.returns-then-not-make_room
returns-then-not-make_room g c =
    let first : BufferView = record { held = c.args.self.now.held; failed = c.args.self.now.failed; outflow = g.S.Sink.outflow c.args.self.now.sink.now } in
    let old : BufferView = record { held = c.filling.self.held; failed = c.filling.self.failed; outflow = g.S.Sink.outflow c.filling.self.sink.now } in
    let new : BufferView = record { held = c.make_room.new.self.held; failed = c.make_room.new.self.failed; outflow = g.S.Sink.outflow c.make_room.new.self.sink.now } in
    let failed : c.make_room.new.self.failed ≡ true = c.make_room.ensures.failed c.if-not-make_room.true in
    record {
      put = (
        cut_off c.args.piece.now c.filling.rest.now first old new c.filling.invariant.front c.make_room.ensures.puts failed,
        c.make_room.ensures.kept ∙ c.filling.invariant.kept,
        c.make_room.ensures.same_sink ∙ c.filling.invariant.same_sink,
      );
    }

pub filling-preserved : goal.filling-preserved
filling-preserved g c =
    let first : BufferView = record { held = c.args.self.now.held; failed = c.args.self.now.failed; outflow = g.S.Sink.outflow c.args.self.now.sink.now } in
    let old : BufferView = record { held = c.filling.self.held; failed = c.filling.self.failed; outflow = g.S.Sink.outflow c.filling.self.sink.now } in
    let room : BufferView = record { held = c.make_room.new.self.held; failed = c.make_room.new.self.failed; outflow = g.S.Sink.outflow c.make_room.new.self.sink.now } in
    let new : BufferView = record { held = c.add-count.new.self; failed = c.make_room.new.self.failed; outflow = g.S.Sink.outflow c.make_room.new.self.sink.now } in
    let sound : c.make_room.new.self.failed ≡ false = (c.make_room.ensures.some c.if-not-make_room.false).0 in
    record {
      front =
          front_more c.args.piece.now c.filling.rest.now c.add-count.result first old room new c.filling.invariant.front c.make_room.ensures.puts
          (joined c.make_room.new.self.held c.add-count.new.self (take c.add-count.result c.filling.rest.now) c.make_room.new.self.failed (g.S.Sink.outflow c.make_room.new.self.sink.now) sound c.add-count.ensures.added);
      kept = c.make_room.ensures.kept ∙ c.filling.invariant.kept;
      same_sink = c.make_room.ensures.same_sink ∙ c.filling.invariant.same_sink;
    }

use Rattle.std.proofs.Common.{refl, ap, ◌∙◌}
use Rattle.braid_world.specs.declared.reading_back.Last.TheVariants.{Stream, Memory}
use Rattle.braid_world.proofs.BodySteps.{read_none, read_more, read_next, read_ends, read_unkept, heard_as}
use Rattle.braid_world.proofs.body_reading.read_body.Goals.{in-Update+in-Err+in-Err+in-Body-1, in-Update+in-Err+in-Err+in-Patches-1, in-Update+in-Err+in-Ok-1, in-Last}
use Rattle.braid_world.proofs.body_reading.read_body.Goals as goal

pub reading-init : goal.reading-init
reading-init g c = record { read = read_none c.args.reading c.new-updates.result.items _ c.new-updates.ensures.items c.requires.going; kept = refl }

pub reading-smaller-in-Piece : goal.reading-smaller-in-Piece
reading-smaller-in-Piece g c =
    let r = c.reading.invariant.read in
    let w = c.in-Piece.ensures.steps c.reading.updates.items r.content r.passed r.on in
    w.less

pub reading-preserved-in-Piece : goal.reading-preserved-in-Piece
reading-preserved-in-Piece g c =
    let r = c.reading.invariant.read in
    let w = c.in-Piece.ensures.steps c.reading.updates.items r.content r.passed r.on in
    record {
      read = read_more c.args.reading.wire.held c.args.reading.body.kind c.reading.reading c.step.new.self c.reading.updates.items c.reading.updates.items _ _ _ r w c.in-Piece.ensures.kind r.begins;
      kept = c.in-Piece.ensures.kept ∙ c.reading.invariant.kept;
    }

pub reading-smaller : goal.reading-smaller
reading-smaller g c =
    let r = c.reading.invariant.read in
    let w = c.in-Update.ensures.steps c.reading.updates.items r.content r.passed r.on in
    w.0.less

pub reading-preserved : goal.reading-preserved
reading-preserved g c =
    let r = c.reading.invariant.read in
    record {
      read = read_next c.args.reading.wire.held c.args.reading.body.kind c.reading.reading c.step.new.self c.reading.updates.items c.push.new.self.items c.in-Update.update _ _ _ r
          (c.in-Update.ensures.steps c.reading.updates.items r.content r.passed r.on) c.in-Update.ensures.kind c.in-Ok.ensures.items;
      kept = c.in-Update.ensures.kept ∙ c.reading.invariant.kept;
    }

pub returns-in-reading-clause-reads : goal.returns-in-reading-clause-reads
returns-in-reading-clause-reads g c =
    let r = c.reading.invariant.read in
    elim c.match-step.branch [
      | in-Update+in-Err+in-Err+in-Body-1 w ↦ read_unkept c.args.reading.wire.held c.args.reading.body.kind c.reading.reading c.step.new.self c.reading.updates.items _ _ _ _ _ r
          (w.in-Update.ensures.steps c.reading.updates.items r.content r.passed r.on).0 w.in-Update.ensures.kind
          (heard_as c.of.result c.reading.updates.items c.match-step.last Memory (c.of.ensures.value ∙ ap (λ v. v.items) w.updates-is ∙ w.in-Err.ensures.items) w.last-is)
      | in-Update+in-Err+in-Err+in-Patches-1 w ↦ read_unkept c.args.reading.wire.held c.args.reading.body.kind c.reading.reading c.step.new.self c.reading.updates.items _ _ _ _ _ r
          (w.in-Update.ensures.steps c.reading.updates.items r.content r.passed r.on).0 w.in-Update.ensures.kind
          (heard_as c.of.result c.reading.updates.items c.match-step.last Memory (c.of.ensures.value ∙ ap (λ v. v.items) w.updates-is ∙ w.in-Err.ensures.items) w.last-is)
      | in-Update+in-Err+in-Ok-1 w ↦ read_unkept c.args.reading.wire.held c.args.reading.body.kind c.reading.reading c.step.new.self c.reading.updates.items _ _ _ _ _ r
          (w.in-Update.ensures.steps c.reading.updates.items r.content r.passed r.on).0 w.in-Update.ensures.kind
          (heard_as c.of.result c.reading.updates.items c.match-step.last Memory (c.of.ensures.value ∙ ap (λ v. v.items) w.updates-is ∙ w.in-Err.ensures.items) w.last-is)
      | in-Last w ↦ read_ends c.args.reading.wire.held c.args.reading.body.kind w.in-Last.next c.reading.reading c.step.new.self c.reading.updates.items _ _ _ _ r
          (w.in-Last.ensures.steps c.reading.updates.items r.content r.passed r.on) w.in-Last.ensures.kind
          (heard_as c.of.result c.reading.updates.items c.match-step.last (Stream w.in-Last.next) (c.of.ensures.value ∙ ap (λ v. v.items) w.updates-is) w.last-is)
    ]

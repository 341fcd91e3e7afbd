use Rattle.std.proofs.Common.{◌<◌, ◌≤◌, ◌-◌, ◌∙◌, length, take, drop, ap, sym, refl, arith, rules}
use Rattle.std.proofs.lemmas.List.{length-take}
use Rattle.braid_sync.specs.Pieces.{PieceView}
use Rattle.braid_sync.proofs.PieceReads.{piece_gives}
use Rattle.braid_sync.proofs.piece.PieceSource.read.Goals as goal

pub returns-then-not-is_empty : goal.returns-then-not-is_empty
returns-then-not-is_empty c =
    let s = c.self.inside in
    let view = c.self.view_is in
    let window = take (s.to - s.at) (drop s.at s.buffer) in
    let size = length-take (s.to - s.at) (drop s.at s.buffer) in
    let count = c.copy_front-n.ensures.count in
    let some : 0 < length window = search rules in
    let few : c.copy_front-n.result ≤ s.to - s.at = omega (arith, size, count) in
    record {
      read = (
        omega (arith, some, count, c.requires.some),
        omega (arith, count, c.copy_front-n.auto.buf),
        piece_gives s.buffer s.at s.to c.copy_front-n.result s.faults c.copy_front-n.new.buf c.args.self.now _
            (sym (ap (λ (p : PieceView). p.left) view)) (sym (ap (λ (p : PieceView). p.faults) view)) few
            (c.copy_front-n.ensures.bytes ∙ ap (λ (p : PieceView). take c.copy_front-n.result p.left) view) refl,
      );
    }

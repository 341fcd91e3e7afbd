use Rattle.std.proofs.Common.{◌≡◌, length, ◌∙◌, arith}
use Rattle.braid_ids.proofs.Ranges.{few_ranges}
use Rattle.braid_ids.proofs.Flags.{pieces_are}
use Rattle.braid_ids.proofs.marks.Marks.pieces.Goals as goal

pub overflow_cast-result : goal.overflow_cast-result
overflow_cast-result c =
    let few = few_ranges 0 c.self.inside.size c.self.inside.pieces.items (omega arith) c.self.invariant.rise c.self.invariant.within in
    omega (arith, c.self.inside.pieces.ok.0, c.len.ensures, c.self.invariant.small)

pub returns : goal.returns
returns c =
    let long : c.len.result ≡ length c.self.inside.pieces.items = omega (arith, c.self.inside.pieces.ok.0, c.len.ensures) in
    rw (← c.self.view_is) (record { pieces = long ∙ pieces_are c.self.inside.size c.self.inside.pieces.items c.self.invariant })

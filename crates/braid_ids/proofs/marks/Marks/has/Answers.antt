use Rattle.braid_ids.proofs.Flags.{marks_in}
use Rattle.braid_ids.proofs.marks.Marks.has.Goals as goal

pub returns : goal.returns
returns c =
    let both = marks_in c.self.inside.size c.self.inside.pieces.items c.args.n c.self.invariant in
    let found = rw c.deref.ensures.value at c.is_in.ensures.is_in in
    rw (← c.self.view_is) (record { has = (λ h. both.1 (found.0 h), λ m. found.1 (both.0 m)) })

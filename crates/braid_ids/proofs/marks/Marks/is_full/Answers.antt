use Rattle.braid_ids.proofs.Flags.{all_marked}
use Rattle.braid_ids.proofs.marks.Marks.is_full.Goals as goal

pub returns : goal.returns
returns c =
    let both = all_marked c.self.inside.size c.self.inside.pieces.items c.self.invariant in
    let found = rw c.deref.ensures.value at c.is_all.ensures.all in
    rw (← c.self.view_is) (record { full = (λ h. both.0 (found.0 h), λ m. found.1 (both.1 m)) })

use Rattle.std.proofs.Common.{◌≤◌, sym, ◌∙◌, arith}
use Rattle.braid_ids.specs.declared.piece.Piece.{Piece}
use Rattle.braid_ids.proofs.Flags.{added, marks_added, size_is}
use Rattle.braid_ids.proofs.marks.Marks.add.Goals as goal

pub invariant_of-self : goal.invariant_of-self
invariant_of-self c =
    let m : Piece = record { from = c.args.from; to = c.args.to } in
    let ps = c.self.inside.pieces.items in
    let long = size_is c.self.inside.size ps c.self.invariant in
    let most = rw (← c.self.view_is) at c.requires.within in
    let within : c.args.to ≤ c.self.inside.size = omega (arith, most, long) in
    let with = rw c.deref-then-begins_before_last.ensures.value at c.in_ok-self-inside.ensures.ok in
    added c.self.inside.size m ps c.in_ok-self-inside.field-0.items c.self.invariant c.requires.some within with

pub returns-then-begins_before_last-clause-size : goal.returns-then-begins_before_last-clause-size
returns-then-begins_before_last-clause-size c =
    let long = size_is c.self.inside.size c.self.inside.pieces.items c.self.invariant in
    let new = size_is c.self.inside.size c.in_ok-self-inside.field-0.items (invariant_of-self c) in
    rw (← c.self.view_is) (new ∙ sym long)

pub returns-then-begins_before_last-clause-ok : goal.returns-then-begins_before_last-clause-ok
returns-then-begins_before_last-clause-ok c =
    let m : Piece = record { from = c.args.from; to = c.args.to } in
    let ps = c.self.inside.pieces.items in
    let long = size_is c.self.inside.size ps c.self.invariant in
    let most = rw (← c.self.view_is) at c.requires.within in
    let within : c.args.to ≤ c.self.inside.size = omega (arith, most, long) in
    let with = rw c.deref-then-begins_before_last.ensures.value at c.in_ok-self-inside.ensures.ok in
    rw (← c.self.view_is) (marks_added c.self.inside.size m ps c.in_ok-self-inside.field-0.items c.self.invariant c.requires.some within with)

pub invariant_of-self-2 : goal.invariant_of-self-2
invariant_of-self-2 c =
    let m : Piece = record { from = c.args.from; to = c.args.to } in
    let ps = c.self.inside.pieces.items in
    let long = size_is c.self.inside.size ps c.self.invariant in
    let most = rw (← c.self.view_is) at c.requires.within in
    let within : c.args.to ≤ c.self.inside.size = omega (arith, most, long) in
    added c.self.inside.size m ps c.add_last.new.pieces.items c.self.invariant c.requires.some within c.in_ok-add_last.ensures.ok

pub returns-clause-size : goal.returns-clause-size
returns-clause-size c =
    let long = size_is c.self.inside.size c.self.inside.pieces.items c.self.invariant in
    let new = size_is c.self.inside.size c.add_last.new.pieces.items (invariant_of-self-2 c) in
    rw (← c.self.view_is) (new ∙ sym long)

pub returns-clause-ok : goal.returns-clause-ok
returns-clause-ok c =
    let m : Piece = record { from = c.args.from; to = c.args.to } in
    let ps = c.self.inside.pieces.items in
    let long = size_is c.self.inside.size ps c.self.invariant in
    let most = rw (← c.self.view_is) at c.requires.within in
    let within : c.args.to ≤ c.self.inside.size = omega (arith, most, long) in
    rw (← c.self.view_is) (marks_added c.self.inside.size m ps c.add_last.new.pieces.items c.self.invariant c.requires.some within c.in_ok-add_last.ensures.ok)

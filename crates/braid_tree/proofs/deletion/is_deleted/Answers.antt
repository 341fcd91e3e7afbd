use Rattle.std.proofs.Common.{◌∙◌, None, sym}
use Rattle.braid_tree.specs.declared.deletion.PlainDeletion.{PlainDeletion}
use Rattle.braid_tree.proofs.Links.{mark_is, walk_begins, walk_ends, walk_steps_at, link_within}
use Rattle.braid_tree.proofs.deletion.is_deleted.Goals as goal

-- what is read where no deletion is
no_deletion : PlainDeletion
no_deletion = record { at = record { version = 0; ordinal = 0 }; by = 0; earlier = None }

pub bounds-deletions-n : goal.bounds-deletions-n
bounds-deletions-n c = link_within c.args.marks.now c.args.deletions.now c.args.row.now.at c.loop-link.link c.in-Some.n c.loop-link.invariant c.in-Some.is

pub returns-then-has : goal.returns-then-has
unfolding no_deletion
returns-then-has c =
    let s = walk_steps_at c.args.marks.now c.args.deletions.now c.args.row.now.at c.loop-link.link c.in-Some.n no_deletion c.requires.linked c.loop-link.invariant c.in-Some.is in
    record { deleted = sym (s.deleted (sym (mark_is c.args.marks.now _ c.has.result c.has.ensures.has) ∙ c.if-has.true)) }

pub loop-link-smaller : goal.loop-link-smaller
unfolding no_deletion
loop-link-smaller c =
    let s = walk_steps_at c.args.marks.now c.args.deletions.now c.args.row.now.at c.loop-link.link c.in-Some.n no_deletion c.requires.linked c.loop-link.invariant c.in-Some.is in rw c.in-Some.is s.falls

pub loop-link-preserved : goal.loop-link-preserved
unfolding no_deletion
loop-link-preserved c =
    let s = walk_steps_at c.args.marks.now c.args.deletions.now c.args.row.now.at c.loop-link.link c.in-Some.n no_deletion c.requires.linked c.loop-link.invariant c.in-Some.is in
    s.goes_on (sym (mark_is c.args.marks.now _ c.has.result c.has.ensures.has) ∙ c.if-has.false)

pub loop-link-init : goal.loop-link-init
loop-link-init c = walk_begins c.args.marks.now c.args.deletions.now c.args.row.now.at c.args.row.now.newest c.requires.newest

pub returns : goal.returns
returns c = record { deleted = sym (walk_ends c.args.marks.now c.args.deletions.now c.args.row.now.at c.loop-link.link c.loop-link.invariant c.in_default.is) }

use Rattle.std.proofs.Common.{None, ◌∙◌, sym, arith}
use Rattle.braid_spans.specs.declared.link.Link.{Link}
use Rattle.braid_tree.proofs.Links.{mark_is}
use Rattle.braid_spans.proofs.Chains.{chain_steps, link_there, any_first, any_rest}
use Rattle.braid_spans.proofs.link.is_deleted.Goals as goal

-- what is read where no link is
no_link : Link
no_link = record { by = 0; earlier = None }

pub returns-then-has : goal.returns-then-has
unfolding no_link
returns-then-has c =
    let s = chain_steps c.args.marks.now c.args.links.now c.loop-next.next c.in-Some.n no_link c.requires.linked c.in-Some.is (link_there _ _ _ c.in-Some.is c.loop-next.invariant.within) in
    record { deleted = any_first c.args.marks.now _ _ _ _ s.any (sym (mark_is c.args.marks.now _ c.has.result c.has.ensures.has) ∙ c.if-has.true) c.loop-next.invariant.left }

pub loop-next-smaller : goal.loop-next-smaller
unfolding no_link
loop-next-smaller c =
    let s = chain_steps c.args.marks.now c.args.links.now c.loop-next.next c.in-Some.n no_link c.requires.linked c.in-Some.is (link_there _ _ _ c.in-Some.is c.loop-next.invariant.within) in s.inside

pub loop-next-preserved : goal.loop-next-preserved
unfolding no_link
loop-next-preserved c =
    let s = chain_steps c.args.marks.now c.args.links.now c.loop-next.next c.in-Some.n no_link c.requires.linked c.in-Some.is (link_there _ _ _ c.in-Some.is c.loop-next.invariant.within) in
    record {
      within = omega (arith, s.inside, c.loop-next.invariant.within);
      left = any_rest c.args.marks.now _ _ _ _ s.any (sym (mark_is c.args.marks.now _ c.has.result c.has.ensures.has) ∙ c.if-has.false) c.loop-next.invariant.left;
    }

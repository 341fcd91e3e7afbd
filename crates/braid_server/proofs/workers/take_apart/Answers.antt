use Rattle.std.proofs.Common.{rules, ◌++◌, ◌∷◌, [], length-append, arith}
use Rattle.braid_server.proofs.Lists.{taken_more, mapped_last}
use Rattle.braid_server.proofs.workers.take_apart.Goals as goal

pub loop-n-preserved : goal.loop-n-preserved
loop-n-preserved g c = record {
  apart = c.loop-n.invariant.apart ++ c.in-Some.worker ∷ [];
  whole = taken_more _ c.loop-n.invariant.apart c.in-Some.worker _ _ c.loop-n.invariant.whole c.in-Some.ensures.items;
  many = let e = c.loop-n.invariant.many in let l = length-append c.loop-n.invariant.apart (c.in-Some.worker ∷ []) in omega (arith, e, l);
  doors = mapped_last _ c.loop-n.invariant.apart c.in-Some.worker _ _ c.loop-n.invariant.doors c.push_reserved.ensures.items;
  passes = mapped_last _ c.loop-n.invariant.apart c.in-Some.worker _ _ c.loop-n.invariant.passes c.push_reserved-in-loop-n.ensures.items;
  notes = mapped_last _ c.loop-n.invariant.apart c.in-Some.worker _ _ c.loop-n.invariant.notes c.push_reserved-in-loop-n-2.ensures.items;
  door_room = search rules;
  pass_room = search rules;
  note_room = search rules;
}

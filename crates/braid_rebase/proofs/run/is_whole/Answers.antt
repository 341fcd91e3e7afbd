use Rattle.std.proofs.Common.{eqb-true}
use Rattle.braid_rebase.proofs.RunLists.{whole_places}
use Rattle.braid_rebase.proofs.run.is_whole.Goals as goal

pub returns-then-range-first : goal.returns-then-range-first
returns-then-range-first c = record {
  whole = λ h. whole_places c.args.places.now c.args.first c.args.ranges.now c.index-ranges-0.result c.if-ranges-ne1.false c.index-ranges-0.is c.if-range-first.true (eqb-true _ _ h);
}

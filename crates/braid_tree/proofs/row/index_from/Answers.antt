use Rattle.std.proofs.Common.{ℕ, arith, subst, inl, inr}
use Rattle.std.proofs.lemmas.Bool.{cases_eq}
use Rattle.braid_tree.specs.Inside.{rows_in, IsPlaceOf}
use Rattle.braid_tree.proofs.RowReads.{place_read, place_within, other_place}
use Rattle.braid_tree.proofs.row.index_from.Goals as goal

pub loop-i-preserved : goal.loop-i-preserved
loop-i-preserved c = λ k s l h. elim (cases_eq k c.loop-i.i) [
  | inl same ↦ other_place _ _ c.eq.result c.eq.ensures c.if-eq.false (place_read c.args.rows.now c.loop-i.i _ c.args.at (omega arith) (subst (λ (n : ℕ). IsPlaceOf (rows_in c.args.rows.now) c.args.at n) same h))
  | inr other ↦ c.loop-i.invariant k s (omega arith) h
]

pub returns-clause-none : goal.returns-clause-none
returns-clause-none c = λ k s h. let w = place_within c.args.rows.now c.args.at k h in c.loop-i.invariant k s (omega arith) h

use Rattle.std.proofs.Common.{ℕ, ◌-◌, arith, subst, inl, inr}
use Rattle.std.proofs.lemmas.Bool.{cases_eq}
use Rattle.braid_tree.specs.Inside.{rows_in, IsPlaceOf}
use Rattle.braid_tree.proofs.Places.{place_number}
use Rattle.braid_tree.proofs.RowReads.{place_read, other_place}
use Rattle.braid_tree.proofs.row.index_before.Goals as goal

pub unreachable-requires : goal.unreachable-requires
unreachable-requires c = let p = place_number (rows_in c.args.rows.now) c.args.at c.requires.there in c.loop-i.invariant p.0 (omega arith) p.2

pub loop-i-init : goal.loop-i-init
loop-i-init c = c.requires.before

pub loop-i-preserved : goal.loop-i-preserved
loop-i-preserved c = λ k l h. elim (cases_eq k (c.loop-i.i - 1)) [
  | inl same ↦ other_place _ _ c.eq.result c.eq.ensures c.if-eq.false (place_read c.args.rows.now (c.loop-i.i - 1) _ c.args.at (omega arith) (subst (λ (n : ℕ). IsPlaceOf (rows_in c.args.rows.now) c.args.at n) same h))
  | inr other ↦ c.loop-i.invariant k (omega arith) h
]

use Rattle.std.proofs.Common.{ℕ, ◌≤◌, None, arith, below_more}
use Rattle.std.proofs.lemmas.List.{length-map}
use Rattle.std.proofs.lemmas.Bool.{both_ways}
use Rattle.braid_tree.specs.declared.row.PlainRow.{PlainRow}
use Rattle.braid_tree.specs.Rows.{IsKnownRow}
use Rattle.braid_tree.specs.Inside.{stamp_of, stamps_in, rows_in, IsPassed}
use Rattle.braid_tree.proofs.RowReads.{read_all, passed_is, not_passed_is}
use Rattle.braid_tree.proofs.row.landing.Goals as goal

-- what is read where no row is
no_row : PlainRow
no_row = record { at = record { version = 0; ordinal = 0 }; character = 0; origin = None; newest = None }

pub has_greater_key-requires-clause-at_known : goal.has_greater_key-requires-clause-at_known
unfolding no_row
has_greater_key-requires-clause-at_known c =
    let known = read_all (IsKnownRow (stamps_in c.args.versions.now)) c.args.rows.now c.loop-index.index no_row c.loop-index-test.true c.requires.known in
    omega (arith, known.place_known, length-map c.args.versions.now stamp_of)

pub loop-index-preserved : goal.loop-index-preserved
unfolding no_row
loop-index-preserved c =
    let here = passed_is (stamps_in c.args.versions.now) c.args.rows.now c.loop-index.index no_row c.args.first c.loop-index-test.true (c.has_greater_key.ensures.greater.0 c.if-has_greater_key.true) in
    record {
      from = omega arith;
      within = omega arith;
      passed = λ k a b. below_more (λ (j : ℕ). c.args.start ≤ j → IsPassed (stamps_in c.args.versions.now) (rows_in c.args.rows.now) c.args.first j) c.loop-index.index (λ j l m. c.loop-index.invariant.passed j m l) (λ m. here) k b a;
    }

pub returns-else-has_greater_key-clause-stop : goal.returns-else-has_greater_key-clause-stop
unfolding no_row
returns-else-has_greater_key-clause-stop c l =
    not_passed_is (stamps_in c.args.versions.now) c.args.rows.now c.loop-index.index no_row c.args.first l
    (λ h. both_ways c.has_greater_key.result c.if-has_greater_key.false (c.has_greater_key.ensures.greater.1 h))

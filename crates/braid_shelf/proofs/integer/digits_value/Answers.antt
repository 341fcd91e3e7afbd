use Rattle.std.proofs.Common.{◌≡◌, take, arith}
use Rattle.std.specs.Str.Parse.{digits_value}
use Rattle.std.proofs.lemmas.Str.Parse.{digits_value-take-le}
use Rattle.braid_shelf.proofs.Digits.{small, next_digit, next_small}
use Rattle.braid_shelf.proofs.integer.digits_value.Goals as goal

pub overflow_mul-number : goal.overflow_mul-number
overflow_mul-number c =
    let s = next_small c.args.digits.now c.loop-digit.digit-index c.loop-digit.number c.requires.digits c.requires.few c.loop-digit-test.true c.loop-digit.invariant in
    omega arith

pub overflow_add-number : goal.overflow_add-number
overflow_add-number c =
    let s = next_small c.args.digits.now c.loop-digit.digit-index c.loop-digit.number c.requires.digits c.requires.few c.loop-digit-test.true c.loop-digit.invariant in
    omega arith

pub loop-digit-preserved : goal.loop-digit-preserved
loop-digit-preserved c =
    let n = next_digit c.args.digits.now c.loop-digit.digit-index c.loop-digit.number c.requires.digits c.loop-digit-test.true c.loop-digit.invariant in
    rw c.from.ensures n

pub returns-clause-small : goal.returns-clause-small
returns-clause-small c =
    let digits = c.args.digits.now in
    let e : c.loop-digit.number ≡ digits_value 10 (take c.loop-digit.digit-index digits) = c.loop-digit.invariant in
    let t = digits_value-take-le 10 digits c.loop-digit.digit-index (omega arith) in
    let s = small digits c.requires.digits c.requires.few in
    omega arith

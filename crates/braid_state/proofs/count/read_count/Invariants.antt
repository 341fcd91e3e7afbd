use Rattle.std.proofs.Common.{◌≡◌, min, take}
use Rattle.std.specs.Str.Parse.{AllDigits, digits_value}
use Rattle.braid_state.proofs.count.read_count.Given as goal

abbrev pub invariant-loop-digit : goal.invariant-loop-digit
invariant-loop-digit l = record {
  are_digits : AllDigits 10 (take l.digit-index l.digits);
  counted : l.count ≡ min (digits_value 10 (take l.digit-index l.digits)) 524_289;
}

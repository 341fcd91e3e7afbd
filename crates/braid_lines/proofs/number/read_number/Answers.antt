use Rattle.std.proofs.lemmas.Str.{IsUtf8-from_ascii}
use Rattle.std.proofs.lemmas.Fmt.{IsAscii-from_digits}
use Rattle.braid_lines.proofs.number.read_number.Goals as goal

-- digits are text
pub returns-in_default : goal.returns-in_default
returns-in_default c =
    record { number = λ n small h. c.in_default.ensures.cases.0 (IsUtf8-from_ascii _ (IsAscii-from_digits _ h.numeral.1)) }

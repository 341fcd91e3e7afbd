use Rattle.std.proofs.Common.{decimal}
use Rattle.braid_ids.proofs.Named.{same_rest, same_digits, no_zero}
use Rattle.braid_ids.proofs.agent.Agent.number.Goals as goal

pub returns-in_default-after : goal.returns-in_default-after
returns-in_default-after c =
    record {
      number = λ k low small e.
          c.in_default-after.ensures.found (decimal k) (same_rest _ _ _ _ _ _ c.bytes.ensures.value c.bytes-2.ensures.value c.in-Some.ensures.found e);
    }

pub returns-in_default-read_decimal : goal.returns-in_default-read_decimal
returns-in_default-read_decimal c =
    record {
      number = λ k low small e.
          let rest = same_rest _ _ _ _ _ _ c.bytes.ensures.value c.bytes-2.ensures.value c.in-Some.ensures.found e in
          c.in_default-read_decimal.ensures.found k small (same_digits _ _ _ c.in-Some-after.ensures.found rest);
    }

pub returns-then-k-eq0 : goal.returns-then-k-eq0
returns-then-k-eq0 c =
    record {
      number = λ k low small e.
          let rest = same_rest _ _ _ _ _ _ c.bytes.ensures.value c.bytes-2.ensures.value c.in-Some.ensures.found e in
          let digits = c.in-Some-read_decimal.ensures.found in
          no_zero _ k _ c.if-k-eq0.true low digits.0 small digits.1 (same_digits _ _ _ c.in-Some-after.ensures.found rest);
    }

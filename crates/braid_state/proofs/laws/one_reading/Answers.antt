use Rattle.std.proofs.Common.{ap, length, arith}
use Rattle.braid_state.proofs.OneReading.{bad_same}
use Rattle.braid_state.proofs.Spelled.{one_state, not_bad}
use Rattle.braid_state.proofs.laws.one_reading.Goals as goal

pub returns : goal.returns
returns c = record {
  state = one_state;
  place = λ bytes at to h k. omega (arith, h.2, k.2, ap length (bad_same h.0 k.0 bytes h.1 k.1));
  within = λ bytes at h. omega (arith, h.2);
  apart = λ s bytes at h k. not_bad s k.0 bytes h k.1;
}

use Rattle.std.proofs.Common.{◌≡◌, ◌++◌, map}
use Rattle.http_header.specs.FieldValue.{FieldValue}
use Rattle.http_header.specs.Token.{lowercase}
use Rattle.braid_sync.specs.Judging.{values_of}
use Rattle.braid_sync.proofs.judge.values.Given as goal

abbrev pub invariant-loop-value : goal.invariant-loop-value
invariant-loop-value l = values_of l.fn.head (lowercase l.fn.name) ≡ l.values ++ map (λ (v : FieldValue). v.bytes) l.value-iterator

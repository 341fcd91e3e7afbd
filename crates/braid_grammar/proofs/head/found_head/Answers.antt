use Rattle.std.proofs.Common.{length, refl, subst, arith}
use Rattle.braid_grammar.specs.Readers.{IsVerdict}
use Rattle.braid_grammar.proofs.Readers.{limit_is}
use Rattle.braid_grammar.proofs.ReadLines.{found_open, found_long}
use Rattle.braid_grammar.proofs.head.found_head.Goals as goal

pub returns-then-bytes-lt-HEAD_LIMIT : goal.returns-then-bytes-lt-HEAD_LIMIT
returns-then-bytes-lt-HEAD_LIMIT c = λ v h. found_open c.args.at (length c.args.bytes.now) c.args.bytes.now v refl (omega (arith, limit_is)) (subst (λ s. IsVerdict s v) c.in-Open.is h)

pub returns-else-bytes-lt-HEAD_LIMIT : goal.returns-else-bytes-lt-HEAD_LIMIT
returns-else-bytes-lt-HEAD_LIMIT c = λ v h. found_long c.args.at (length c.args.bytes.now) c.args.bytes.now v refl (omega (arith, limit_is)) (subst (λ s. IsVerdict s v) c.in-Open.is h)

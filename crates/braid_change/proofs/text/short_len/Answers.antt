use Rattle.std.proofs.Common.{arith}
use Rattle.std.proofs.lemmas.Grind.{common_steps}
use Rattle.braid_change.proofs.Lengths.{encoded_len}
use Rattle.braid_change.proofs.text.short_len.Goals as goal

pub returns : goal.returns
returns c = rw (encoded_len c.args.chars.now) (grind (arith, common_steps))

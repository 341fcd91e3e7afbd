use Rattle.std.proofs.Common.{encode_utf8_all, arith}
use Rattle.std.proofs.lemmas.Grind.{common_steps}
use Rattle.std.proofs.lemmas.List.Concat.{length-flat_map}
use Rattle.braid_change.specs.declared.patch.Patch.{Patch}
use Rattle.braid_change.proofs.change.patches_len.Goals as goal

pub returns-clause-len : goal.returns-clause-len
returns-clause-len c = rw (length-flat_map (λ (p : Patch). encode_utf8_all p.text) c.args.patches.now) (grind (arith, common_steps))

use Rattle.std.proofs.Common.{◌∙◌}
use Rattle.braid_change.proofs.Short.{counted_all}
use Rattle.braid_change.proofs.spelling.canon_len.Goals as goal

pub returns : goal.returns
returns c = record { len = counted_all _ _ _ c.id.ensures.valid c.new-out.ensures.none (c.bytes.ensures.value ∙ c.spell.ensures.puts) }

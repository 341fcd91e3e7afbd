use Rattle.std.proofs.Common.{rules}
use Rattle.braid_fields.specs.Known.{known}
use Rattle.braid_fields.proofs.parts.HeadFields.new.Goals as goal

pub returns : goal.returns
unfolding known
returns c = search rules

use Rattle.std.proofs.Common.{◌≡◌, ◌∙◌, arith}
use Rattle.braid_ids.specs.Agents.{agent_name}
use Rattle.braid_ids.proofs.Named.{named_identifier, name_is}
use Rattle.braid_ids.proofs.agent.Agent.name.Goals as goal

pub from_bytes-requires : goal.from_bytes-requires
from_bytes-requires c =
    let e : c.deref.result.now ≡ agent_name c.args.self.now c.args.k =
    c.deref.ensures.value ∙ name_is _ _ _ _ _ _ _ _ c.bytes.ensures.value c.in_ok-bytes.ensures.items c.in_ok-push.ensures.items c.as_bytes.ensures.value c.format.ensures.text c.in_ok-extend_from_slice.ensures.items in
    rw e (named_identifier c.args.self.now c.args.k c.bytes.ensures.valid (omega arith))

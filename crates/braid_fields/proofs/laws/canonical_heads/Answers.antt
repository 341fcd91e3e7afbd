use Rattle.braid_fields.proofs.CanonicalHeads.{canonical_head, canonical_patch}
use Rattle.braid_fields.proofs.laws.canonical_heads.Goals as goal

pub returns : goal.returns
returns c = record { head = canonical_head; patch = canonical_patch }

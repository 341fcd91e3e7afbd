use Rattle.braid_fields.proofs.CanonicalLines.{version_field, parents_field, length_field, patches_field, range_field}
use Rattle.braid_fields.proofs.laws.canonical_lines.Goals as goal

pub returns : goal.returns
returns c = record { version = version_field; parents = parents_field; length = length_field; patches = patches_field; range = range_field }

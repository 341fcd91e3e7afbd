use Rattle.braid_fields.proofs.Padding.{both_ends, padded_same}
use Rattle.braid_fields.proofs.Computed.{trimmed_padded}
use Rattle.braid_fields.proofs.field.trimmed.Goals as goal

pub returns : goal.returns
returns c =
    let padded = both_ends _ _ _ c.after_blanks.ensures c.without_blanks_behind.ensures in
    record { value = padded_same _ _ _ padded (trimmed_padded _); padded = padded }

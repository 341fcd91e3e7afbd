-- Where the bytes of an identifier lie. No public clause cites this.
use Rattle.std.specs.Prelude.{ℕ, List}
use Rattle.braid_ids.specs.declared.id_bytes.Place.{Place}
use Rattle.braid_ids.specs.declared.id_bytes.Place.TheVariants.{Here, There}

-- the bytes that lie there
abbrev pub bytes_at : Place → List ℕ
bytes_at (Here few) = few
bytes_at (There list) = list.value.items

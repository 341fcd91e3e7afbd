-- The digest of a history: over its updates by rising identifier.
use Rattle.std.specs.Prelude.{ℕ, List, [], ◌∷◌, if◌then◌else◌}
use Rattle.std.specs.Ordering.{is_lt, is_eq}
use Rattle.braid_ids.specs.Identifiers.{id_cmp}
use Rattle.braid_change.specs.Updates.{UpdateView}
use Rattle.braid_change.specs.Spellings.{digest_of}

abbrev pub id_in : UpdateView → List ℕ
id_in u = u.id

-- an update put among others by rising identifier, each identifier once
abbrev pub with_update : UpdateView → List UpdateView → List UpdateView
with_update u [] = u ∷ []
with_update u (w ∷ ws) = if is_lt (id_cmp u.id w.id) then u ∷ w ∷ ws
    else (if is_eq (id_cmp u.id w.id) then w ∷ ws else w ∷ with_update u ws)

-- updates by rising identifier
abbrev pub by_identifier : List UpdateView → List UpdateView
by_identifier [] = []
by_identifier (u ∷ us) = with_update u (by_identifier us)

-- the digest of a history: SHA-256 (FIPS 180-4) of its updates' canonical spellings, by rising identifier
abbrev pub digest_at : List UpdateView → List ℕ
digest_at H = digest_of (by_identifier H)

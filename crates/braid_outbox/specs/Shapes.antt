-- Tests of updates and changes: which are as the program builds them.
use Rattle.std.specs.Prelude.{ℕ, ◌^◌, nat_le, nat_lt, List, [], ◌∷◌, length, Bool, true, ◌&&◌}
use Rattle.std.specs.Ordering.{is_lt}
use Rattle.std.specs.Str.{all_scalars}
use Rattle.braid_ids.specs.Identifiers.{id_cmp}
use Rattle.braid_change.specs.declared.patch.Patch.{Patch}
use Rattle.braid_change.specs.declared.change.Change.{Change}
use Rattle.braid_change.specs.declared.change.Change.TheVariants.{Body, Patches}
use Rattle.braid_change.specs.Changes.{patches_of, content_len}
use Rattle.braid_change.specs.Updates.{UpdateView}

-- no patch's start is above its end, none starts below the end of the one before it, and the first not below `low`
abbrev pub are_listed : ℕ → List Patch → Bool
are_listed low [] = true
are_listed low (p ∷ ps) = nat_le low p.start && (nat_le p.start p.end && are_listed p.end ps)

-- the patches' ends are below 2^32
abbrev pub are_numbered : List Patch → Bool
are_numbered [] = true
are_numbered (p ∷ ps) = nat_lt p.end (2 ^ 32) && are_numbered ps

-- the patches' texts are scalar values
abbrev pub have_scalars : List Patch → Bool
have_scalars [] = true
have_scalars (p ∷ ps) = all_scalars p.text && have_scalars ps

-- all texts of a change are scalar values
abbrev pub are_scalars : Change → Bool
are_scalars (Body text) = all_scalars text
are_scalars (Patches patches) = have_scalars patches

-- a change has the shape that an update may have, and its texts are scalar values
abbrev pub is_change : Change → Bool
is_change c =
    nat_le (length (patches_of c)) 1_000
    && (are_listed 0 (patches_of c)
    && (nat_le (content_len c) 1_048_576 && (are_numbered (patches_of c) && are_scalars c)))

-- bytes from space to tilde
abbrev pub are_printable : List ℕ → Bool
are_printable [] = true
are_printable (b ∷ bs) = nat_le 0x20 b && (nat_le b 0x7e && are_printable bs)

-- bytes are an identifier
abbrev pub is_identifier : List ℕ → Bool
is_identifier v = nat_lt 0 (length v) && (nat_le (length v) 128 && are_printable v)

-- each identifier is below the next
abbrev pub is_rising : List (List ℕ) → Bool
is_rising [] = true
is_rising (v ∷ []) = true
is_rising (v ∷ w ∷ ws) = is_lt (id_cmp v w) && is_rising (w ∷ ws)

-- an update is one as the program has them
abbrev pub is_update : UpdateView → Bool
is_update u = is_identifier u.id && (is_rising u.parents && (nat_le (length u.parents) 32 && is_change u.change))

-- The canonical spelling of an update, line by line, and the digest of many.
use Rattle.std.specs.Prelude.{ℕ, List, [], ◌∷◌, ◌++◌, length, flat_map, codes, decimal, encode_utf8_all}
use Rattle.braid_ids.specs.Identifiers.{spelled_id, spelled_ids}
use Rattle.sha2.specs.Sha256.{sha256}
use Rattle.braid_change.specs.Updates.{UpdateView}
use Rattle.braid_change.specs.declared.patch.Patch.{Patch}
use Rattle.braid_change.specs.declared.change.Change.{Change}
use Rattle.braid_change.specs.declared.change.Change.TheVariants.{Body, Patches}

-- what follows `Parents:`: nothing where there are none, else a space and their list
abbrev pub list_text : List (List ℕ) → List ℕ
list_text [] = []
list_text (id ∷ ids) = codes " " ++ spelled_ids (id ∷ ids)

-- the line of a text's length, without its end
abbrev pub length_text : List ℕ → List ℕ
length_text text = codes "Content-Length: " ++ decimal (length (encode_utf8_all text))

-- a text behind an empty line
abbrev pub content_text : List ℕ → List ℕ
content_text text = codes "\r\n\r\n" ++ encode_utf8_all text ++ codes "\r\n"

-- the range of a patch, in characters
abbrev pub range_text : ℕ → ℕ → List ℕ
range_text start end = codes "text [" ++ decimal start ++ codes ":" ++ decimal end ++ codes "]"

-- a patch: its length, its range and its content
abbrev pub patch_text : Patch → List ℕ
patch_text p = length_text p.text ++ codes "\r\nContent-Range: " ++ range_text p.start p.end ++ content_text p.text

-- a change: the length and the content of a body, or the number of patches and each patch as listed
abbrev pub change_text : Change → List ℕ
change_text (Body text) = length_text text ++ content_text text
change_text (Patches patches) =
    codes "Patches: " ++ decimal (length patches) ++ codes "\r\n\r\n" ++ flat_map patch_text patches

-- the canonical spelling of an update
abbrev pub canonical : UpdateView → List ℕ
canonical u = codes "Version: " ++ spelled_id u.id ++ codes "\r\nParents:" ++ list_text u.parents ++ codes "\r\n"
    ++ change_text u.change ++ codes "\r\n"

-- the canonical spellings of updates, one after the other
abbrev pub canonical_all : List UpdateView → List ℕ
canonical_all us = flat_map canonical us

-- the digest of updates: SHA-256 (FIPS 180-4) of their canonical spellings, one after the other
abbrev pub digest_of : List UpdateView → List ℕ
digest_of us = sha256 (canonical_all us)

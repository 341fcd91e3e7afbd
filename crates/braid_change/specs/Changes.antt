-- Changes: their patches, their content, and the shape that an update asks of them.
use Rattle.std.specs.Prelude.{◌≡◌, true, ℕ, ◌≤◌, ◌<◌, ◌^◌, nat_lt, Bool, List, [], ◌∷◌, length, drop, flat_map, encode_utf8_all, Option, ◌+◌}
use Rattle.std.specs.Option.{option_map}
use Rattle.std.specs.Str.{all_scalars}
use Rattle.std.specs.List.{zip, position_from, AllByRecursion}
use Rattle.braid_change.specs.declared.patch.Patch.{Patch}
use Rattle.braid_change.specs.declared.change.Change.{Change}
use Rattle.braid_change.specs.declared.change.Change.TheVariants.{Body, Patches}

-- the patches as listed; a body has none
abbrev pub patches_of : Change → List Patch
patches_of (Body text) = []
patches_of (Patches patches) = patches

-- the UTF-8 of the patches' texts, one after the other
abbrev pub patches_content : List Patch → List ℕ
patches_content patches = flat_map (λ p. encode_utf8_all p.text) patches

-- the UTF-8 of all texts of a change, one after the other
abbrev pub content : Change → List ℕ
content (Body text) = encode_utf8_all text
content (Patches patches) = patches_content patches

-- the number of bytes of a change's content
abbrev pub content_len : Change → ℕ
content_len change = length (content change)

-- a patch whose start is above its end
abbrev pub is_backwards : Patch → Bool
is_backwards p = nat_lt p.end p.start

-- two patches of which the second starts below the end of the first
abbrev pub do_overlap : (Patch × Patch) → Bool
do_overlap pair = nat_lt (pair.1).start (pair.0).end

-- the number of the first patch that is backwards, from 0
abbrev pub first_backwards : List Patch → Option ℕ
first_backwards patches = position_from is_backwards 0 patches

-- each patch but the last with the one after it
abbrev pub neighbours : List Patch → List (Patch × Patch)
neighbours patches = zip patches (drop 1 patches)

-- the number of the first patch that starts below the end of the one before it, from 0
abbrev pub first_overlap : List Patch → Option ℕ
first_overlap patches = option_map (λ n. n + 1) (position_from do_overlap 0 (neighbours patches))

-- no patch's start is above its end, none starts below the end of the one before it, and the first not below `low`
abbrev pub AreListed : ℕ → List Patch → Type 0
AreListed low [] = Unit {0}
AreListed low (p ∷ ps) = (low ≤ p.start) × (p.start ≤ p.end) × AreListed p.end ps

-- the patches' ends are below 2^32, as those of every patch of the program are
abbrev pub AreNumbered : List Patch → Type 0
AreNumbered patches = AllByRecursion (λ (p : Patch). p.end < 2 ^ 32) patches

-- the patches' texts are scalar values
abbrev pub HaveScalars : List Patch → Type 0
HaveScalars patches = AllByRecursion (λ (p : Patch). all_scalars p.text ≡ true) patches

-- all texts of a change are scalar values
abbrev pub AreScalars : Change → Type 0
AreScalars (Body text) = all_scalars text ≡ true
AreScalars (Patches patches) = HaveScalars patches

-- the shape of a change that an update may have
pub record IsShaped (change : Change) : Type 0 where
  pub few : length (patches_of change) ≤ 1_000
  pub listed : AreListed 0 (patches_of change)
  pub short : content_len change ≤ 1_048_576
  pub numbered : AreNumbered (patches_of change)

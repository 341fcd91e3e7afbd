-- How many runs of characters the document of a history may have.
use Rattle.std.specs.Prelude.{ℕ, ◌+◌, ◌*◌, List, [], ◌∷◌, length, sum_by}
use Rattle.braid_change.specs.declared.patch.Patch.{Patch}
use Rattle.braid_change.specs.declared.change.Change.{Change}
use Rattle.braid_change.specs.declared.change.Change.TheVariants.{Body, Patches}
use Rattle.braid_change.specs.Splices.{joined}
use Rattle.braid_change.specs.Updates.{UpdateView}
use Rattle.braid_text.specs.Histories.{deletions_of}

-- one for a text, none for the empty one
abbrev pub text_count : List ℕ → ℕ
text_count [] = 0
text_count (c ∷ cs) = 1

abbrev pub patch_count : Patch → ℕ
patch_count p = text_count p.text

-- how many ranges insert text
abbrev pub insertions_in : List Patch → ℕ
insertions_in rs = sum_by patch_count rs

-- how many joined ranges of a change insert text; a body is one range
abbrev pub insertions_of : Change → ℕ
insertions_of (Body x) = text_count x
insertions_of (Patches ps) = insertions_in (joined ps)

abbrev pub update_count : UpdateView → ℕ
update_count u = insertions_of u.change

-- how many joined ranges of a history's updates insert text
abbrev pub insertions_by : List UpdateView → ℕ
insertions_by H = sum_by update_count H

-- two for each joined range that inserts text, and two for each deletion: the document of a history has no more runs
abbrev pub most_runs : List UpdateView → ℕ
most_runs H = 2 * (insertions_by H + length (deletions_of H))

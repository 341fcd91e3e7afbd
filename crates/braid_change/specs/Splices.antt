-- Joined patches, the ranges that a change replaces, and the splice of a text (after Range Patch of the Braid drafts).
use Rattle.std.specs.Prelude.{◌≡◌, ℕ, ◌-◌, ◌==◌, ◌≤◌, ◌<◌, nat_le, nat_lt, List, [], ◌∷◌, ◌++◌, length, take, drop, sum_by, Bool, true, ◌&&◌, if◌then◌else◌, Option, Some, None}
use Rattle.std.specs.Option.{option_map}
use Rattle.std.specs.List.{position_from}
use Rattle.braid_change.specs.declared.patch.Patch.{Patch}
use Rattle.braid_change.specs.declared.change.Change.{Change}
use Rattle.braid_change.specs.declared.change.Change.TheVariants.{Body, Patches}
use Rattle.braid_change.specs.declared.splices.SpliceFault.{SpliceFault}
use Rattle.braid_change.specs.declared.splices.SpliceFault.TheVariants.{OutOfRange, Memory}

-- a patch in front of joined ones: one with the next where both have one start, with the last end and the texts in order
abbrev pub join : Patch → List Patch → List Patch
join p [] = p ∷ []
join p (q ∷ qs) = if p.start == q.start then record { start = p.start; end = q.end; text = p.text ++ q.text } ∷ qs
    else (p ∷ q ∷ qs)

-- neighbours with one start made into one patch, with the last end and the texts in order
abbrev pub joined : List Patch → List Patch
joined [] = []
joined (p ∷ ps) = join p (joined ps)

-- every patch ends within a text of this length
abbrev pub all_within : ℕ → List Patch → Bool
all_within len [] = true
all_within len (p ∷ ps) = nat_le p.end len && all_within len ps

-- the ranges of characters that a change replaces in a text: a body replaces all of it, and patches are joined; there are none where a joined patch passes the text's end
abbrev pub ranges : List ℕ → Change → Option (List Patch)
ranges t (Body x) = Some (record { start = 0; end = length t; text = x } ∷ [])
ranges t (Patches ps) = if all_within (length t) (joined ps) then Some (joined ps) else None

-- the pieces of t outside the ranges, with each text at its range's start; t is what follows character number `at`
abbrev pub cut : ℕ → List ℕ → List Patch → List ℕ
cut at t [] = t
cut at t (r ∷ rs) = take (r.start - at) t ++ (r.text ++ cut r.end (drop (r.end - at) t) rs)

-- what a change makes of a text: the text cut at the ranges that the change replaces, where there are such
abbrev pub spliced : List ℕ → Change → Option (List ℕ)
spliced t change = option_map (cut 0 t) (ranges t change)

-- a patch whose end passes the end of a text of this length
abbrev pub is_past : ℕ → Patch → Bool
is_past len p = nat_lt len p.end

-- the number of the first joined patch whose end passes the text's end, from 0; a body has none
abbrev pub first_past : List ℕ → Change → Option ℕ
first_past t (Body x) = None
first_past t (Patches ps) = position_from (is_past (length t)) 0 (joined ps)

-- the fault of a change that has no splice: its first joined patch past the end, and the text's length. Memory may come for any change
abbrev pub IsSpliceFault : List ℕ → Change → SpliceFault → Type 0
IsSpliceFault t change (OutOfRange patch len) = (first_past t change ≡ Some patch) × (len ≡ length t)
IsSpliceFault t change Memory = Unit {0}

-- the first range, if there is one, has a greater start
abbrev pub StartAfter : Patch → List Patch → Type 0
StartAfter r [] = Unit {0}
StartAfter r (q ∷ qs) = r.start < q.start

-- ranges that rise and do not overlap, each with another start, within a text of this length; all begin at place `low` or later
abbrev pub AreRanges : ℕ → ℕ → List Patch → Type 0
AreRanges low len [] = Unit {0}
AreRanges low len (r ∷ rs) = (low ≤ r.start) × (r.start ≤ r.end) × (r.end ≤ len) × StartAfter r rs
    × AreRanges r.end len rs

-- the number of characters that ranges replace
abbrev pub removed : List Patch → ℕ
removed rs = sum_by (λ r. r.end - r.start) rs

-- the number of characters that ranges put in their place
abbrev pub inserted : List Patch → ℕ
inserted rs = sum_by (λ r. length r.text) rs

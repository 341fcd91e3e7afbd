-- What a book keeps.
use Rattle.std.specs.Prelude.{◌≡◌, ◌≢◌, ℕ, ◌-◌, ◌<◌, ◌≤◌, List, [], ◌∷◌, ◌++◌, Contains, Option, IsSome, map, length, slice_get, vec_capacity}
use Rattle.std.specs.Option.{option_map, option_and_then}
use Rattle.std.specs.List.{AllByRecursion, filter_map}
use Rattle.indexmap.specs.IndexMap.{spare}
use Rattle.braid_change.specs.Updates.{UpdateView}
use Rattle.braid_text.specs.Histories.{elements_of, deletions_of}
use Rattle.braid_text.specs.declared.room.Room.{Room}
use Rattle.braid_store.specs.declared.entry.Entry.{Entry}
use Rattle.braid_store.specs.declared.place.Place.{Place}
use Rattle.braid_store.specs.declared.contents.Contents.{Contents}
use Rattle.braid_store.specs.declared.put.Put.{Put}
use Rattle.braid_store.specs.declared.put.Put.TheVariants.{New, Known}
use Rattle.braid_store.specs.Books.{of_path, paths_of, sum_of, IsLegalBook}
use Rattle.braid_store.specs.Answers.{IsPut}

-- the entry at a place, where the place is an update's: its path, its number and its update
abbrev pub entry_at : List (List ℕ × List UpdateView) → Place → Option Entry
entry_at rs place =
    option_and_then
    (λ (r : List ℕ × List UpdateView). option_map
    (λ (u : UpdateView). record { path = r.0; by = place.by; update = u }) (slice_get r.1 place.number))
    (slice_get rs place.resource)

-- the entries at places, of resources that are listed by path
abbrev pub entries_at : List (List ℕ × List UpdateView) → List Place → List Entry
entries_at rs places = filter_map (entry_at rs) places

-- the entries of what a book keeps
abbrev pub entries_in : Contents → List Entry
entries_in c = entries_at c.resources.entries c.places.items

-- each path of a book with its history, in the order in which the paths came
abbrev pub resources_of : List Entry → List (List ℕ × List UpdateView)
resources_of B = map (λ (p : List ℕ). (p, of_path B p)) (paths_of B)

-- each place is an update's
abbrev pub ArePlaced : List (List ℕ × List UpdateView) → List Place → Type 0
ArePlaced rs places = AllByRecursion (λ (place : Place). IsSome (entry_at rs place)) places

-- a book that is legal and within the limits of a server
pub record IsBook (B : List Entry) : Type 0 where
  pub legal : IsLegalBook B
  pub few_resources : length (paths_of B) ≤ 4_096
  pub few_versions : length B ≤ 262_144
  pub few_elements : sum_of (λ (H : List UpdateView). length (elements_of H)) B ≤ 16_777_216
  pub few_deletions : sum_of (λ (H : List UpdateView). length (deletions_of H)) B ≤ 33_554_432

-- resources by path, places and totals are those of a book: the resources of its paths, a place for each entry, and the sums over all paths
pub record KeepsBook (rs : List (List ℕ × List UpdateView)) (places : List Place)
    (elements deletions : ℕ) : Type 0 where
  pub placed : ArePlaced rs places
  pub resources : rs ≡ resources_of (entries_at rs places)
  pub elements_sum : elements ≡ sum_of (λ (H : List UpdateView). length (elements_of H)) (entries_at rs places)
  pub deletions_sum : deletions ≡ sum_of (λ (H : List UpdateView). length (deletions_of H)) (entries_at rs places)
  pub book : IsBook (entries_at rs places)

-- what is kept is a book
abbrev pub IsKept : Contents → Type 0
IsKept c = KeepsBook c.resources.entries c.places.items c.elements c.deletions

-- what the limits of a server leave beside a book; the width is for one path
abbrev pub room_beside : List Entry → Room
room_beside B = record {
  versions = 262_144 - length B;
  elements = 16_777_216 - sum_of (λ (H : List UpdateView). length (elements_of H)) B;
  deletions = 33_554_432 - sum_of (λ (H : List UpdateView). length (deletions_of H)) B;
  width = 1_000;
}

-- what an entry that was put leaves, by the answer that it got
pub record Puts (old new : Contents) (e : Entry) (a : Put) : Type 0 where
  pub answer : IsPut (entries_in old) e a
  pub taken : a ≡ New → entries_in new ≡ entries_in old ++ e ∷ []
  pub same : a ≢ New → entries_in new ≡ entries_in old
  pub known : Contains (of_path (entries_in old) e.path) e.update → a ≡ Known
  pub kept : IsKept new

-- a resource that may be added: its one update is new to the book
abbrev pub MayAdd : Contents → List ℕ → ℕ → List UpdateView → Type 0
MayAdd c path by us = (u : UpdateView) × (us ≡ u ∷ [])
    × IsPut (entries_in c) (record { path = path; by = by; update = u }) New

-- what a resource that was added leaves: an entry of its one update
abbrev pub Adds : Contents → Contents → List ℕ → ℕ → List UpdateView → Type 0
Adds old new path by us = (u : UpdateView) → us ≡ u ∷ []
    → entries_in new ≡ entries_in old ++ (record { path = path; by = by; update = u }) ∷ []

-- there is room for one resource and one entry more
pub record HasSpare (c : Contents) : Type 0 where
  pub resource : 0 < spare c.resources
  pub place : length c.places.items < vec_capacity c.places

-- nothing but room has changed
pub record SameContents (old new : Contents) : Type 0 where
  pub resources : new.resources.entries ≡ old.resources.entries
  pub places : new.places.items ≡ old.places.items
  pub elements : new.elements ≡ old.elements
  pub deletions : new.deletions ≡ old.deletions

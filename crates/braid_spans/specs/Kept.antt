-- What a document of runs keeps, and how contracts see it.
use Rattle.std.specs.Prelude.{◌≡◌, ℕ, zero, suc, ◌+◌, ◌-◌, ◌*◌, ◌<◌, ◌≤◌, ◌^◌, List, [], ◌∷◌, ◌++◌, Option, Some, None, All, length, map, take, drop, slice_get, get_or, IfSome, IsSomeAnd, sum_by}
use Rattle.braid_tree.specs.Keys.{key_cmp}
use Rattle.std.specs.declared.cmp.Ordering.TheVariants.{Less}
use Rattle.braid_tree.specs.Rows.{Stamp, DocumentRoom, AreKnown, PutsRun, ListsWithRun, key_at, place}
use Rattle.braid_tree.specs.Inside.{HaveOwnPlaces}
use Rattle.braid_tree.specs.declared.at.At.{At}
use Rattle.braid_spans.specs.Spans.{Span, Spelled, spelled, rows_of, deletions_of}
use Rattle.braid_spans.specs.declared.version.SpanVersion.{SpanVersion}
use Rattle.braid_spans.specs.declared.link.Link.{Link}
use Rattle.braid_spans.specs.declared.run.Run.{Run}
use Rattle.braid_spans.specs.declared.left.Left.{Left}

abbrev pub stamp_of : SpanVersion → Stamp
stamp_of v = record { id = v.id; level = v.level }

abbrev pub stamps_in : List SpanVersion → List Stamp
stamps_in vs = map stamp_of vs

-- the versions of the chain that a link begins; none begins no link
abbrev pub chain_at : List (List ℕ) → Option ℕ → List ℕ
chain_at chains None = []
chain_at chains (Some n) = get_or chains n []

-- the chains that these links begin, one for each, behind those of the links before: a link's chain is its version and
-- then the chain of the link that it leads to
abbrev pub chains_after : List (List ℕ) → List Link → List (List ℕ)
chains_after done [] = done
chains_after done (x ∷ xs) = chains_after (done ++ (x.by ∷ chain_at done x.earlier) ∷ []) xs

abbrev pub chains_of : List Link → List (List ℕ)
chains_of xs = chains_after [] xs

-- a run as contracts see it: its characters and the chain of its deletions are spelled out
abbrev pub span_of : List ℕ → List (List ℕ) → Run → Span
span_of chars chains r =
    record { first = r.first; origin = r.origin; text = take r.len (drop r.start chars); by = chain_at chains r.newest }

abbrev pub spans_of : List ℕ → List (List ℕ) → List Run → List Span
spans_of chars chains rs = map (span_of chars chains) rs

-- how far a link leads: above its number
abbrev pub reach : Option ℕ → ℕ
reach None = 0
reach (Some n) = n + 1

-- a run is not empty, its version is one of so many, its characters too, its chain is one of so many, and its ordinals are
-- numbers of 32 bits
pub record IsFitting (versions chars links : ℕ) (r : Run) : Type 0 where
  pub some : 0 < r.len
  pub known : r.first.version < versions
  pub within : r.start + r.len ≤ chars
  pub linked : reach r.newest ≤ links
  pub ordinals : r.first.ordinal + r.len < 2 ^ 32

abbrev pub AreFitting : ℕ → List ℕ → List (List ℕ) → List Run → Type 0
AreFitting versions chars chains rs = All (IsFitting versions (length chars) (length chains)) rs

-- the numbers of a run are of 32 bits
pub record IsSmall (r : Run) : Type 0 where
  pub some : 0 < r.len
  pub ordinals : r.first.ordinal + r.len < 2 ^ 32
  pub starts : r.start + r.len < 2 ^ 32

-- the new runs spell the elements that the old ones spell
abbrev pub SpellsAlike : List Run → List Run → Type 0
SpellsAlike old new = (versions : ℕ) (chars : List ℕ) (chains : List (List ℕ)) → AreFitting versions chars chains old
    → AreFitting versions chars chains new × (spelled (spans_of chars chains new) ≡ spelled (spans_of chars chains old))

-- run number i ends with the element at a place
abbrev pub IsEndAt : List Run → At → ℕ → Type 0
IsEndAt rs at i =
    IsSomeAnd (slice_get rs i) (λ (r : Run). (r.first.version ≡ at.version)
    × (r.first.ordinal + r.len ≡ at.ordinal + 1))

-- run number i begins with the element at a place and has at most so many
abbrev pub IsPartAt : List Run → At → ℕ → ℕ → Type 0
IsPartAt rs at most i = IsSomeAnd (slice_get rs i) (λ (r : Run). (r.first ≡ at) × (0 < r.len) × (r.len ≤ most))

-- a run goes on where the other ends
pub record IsNext (l r : Run) : Type 0 where
  pub version : l.first.version ≡ r.first.version
  pub ordinal : l.first.ordinal + l.len ≡ r.first.ordinal
  pub start : l.start + l.len ≡ r.start
  pub origin : r.origin ≡ Some (place r.first.version (r.first.ordinal - 1))

-- the new elements are the old ones, and one more version deletes the one at a place
abbrev pub MarksOne : List Spelled → List Spelled → At → ℕ → Type 0
MarksOne old new at by = (front : List Spelled) × (e : Spelled) × (back : List Spelled)
    × (old ≡ front ++ e ∷ back) × (e.row.at ≡ at) × (new ≡ front ++ record { row = e.row; by = by ∷ e.by } ∷ back)

-- the new elements are the old ones, and one more version deletes so many of them: those of a version from an ordinal on
abbrev pub MarksEach : List Spelled → List Spelled → ℕ → ℕ → ℕ → ℕ → Type 0
MarksEach old new version n zero by = old ≡ new
MarksEach old new version n (suc k) by = (mid : List Spelled) × MarksOne old mid (place version n) by
    × MarksEach mid new version (n + 1) k by

-- the new elements are the old ones with those of a run in its place, and what deletes the old ones is as before
pub record IsPut (vs : List Stamp) (old new : List Spelled) (first : At) (after : Option At)
    (text : List ℕ) : Type 0 where
  pub put : PutsRun (rows_of old) (rows_of new) first.version after first.ordinal text
  pub placed : ListsWithRun vs (rows_of old) (rows_of new) after first.ordinal text
  pub deletions : deletions_of new ≡ deletions_of old

-- the first element of run number i goes over to the run before it, which this version deletes beside those that delete
-- run number i
abbrev pub PassesFirst : List Run → List Run → ℕ → Type 0
PassesFirst old new i = (l r : Run) (versions by : ℕ) (chars : List ℕ) (chains : List (List ℕ))
    → slice_get old (i - 1) ≡ Some l → slice_get old i ≡ Some r
    → chain_at chains l.newest ≡ by ∷ chain_at chains r.newest
    → AreFitting versions chars chains old
    → AreFitting versions chars chains new
    × MarksOne (spelled (spans_of chars chains old)) (spelled (spans_of chars chains new)) r.first by

-- each link leads to one with a smaller number
abbrev pub AreLinked : List Link → Type 0
AreLinked xs = (n : ℕ) (x : Link) → slice_get xs n ≡ Some x → reach x.earlier ≤ n

-- the element at a place is one of the run
pub record IsHeld (at : At) (r : Run) : Type 0 where
  pub version : r.first.version ≡ at.version
  pub from : r.first.ordinal ≤ at.ordinal
  pub to : at.ordinal < r.first.ordinal + r.len

-- run number i holds the element at a place
abbrev pub IsHeldAt : List Run → At → ℕ → Type 0
IsHeldAt rs at i = IsSomeAnd (slice_get rs i) (IsHeld at)

-- the first k characters of a run
abbrev pub front_of : Run → ℕ → Run
front_of r k = record { first = r.first; start = r.start; len = k; origin = r.origin; newest = r.newest }

-- the characters of a run from number k on: the one before is the origin
abbrev pub rest_of : Run → ℕ → Run
rest_of r k = record {
  first = place r.first.version (r.first.ordinal + k);
  start = r.start + k;
  len = r.len - k;
  origin = Some (place r.first.version (r.first.ordinal + k - 1));
  newest = r.newest;
}

-- a run that one more link deletes
abbrev pub linked_to : Run → ℕ → Run
linked_to r n = record { first = r.first; start = r.start; len = r.len; origin = r.origin; newest = Some n }

-- run number i begins with the element at a place and goes on where the run before it ends, which a version deletes beside
-- those that delete run number i
pub record IsPassable (rs : List Run) (chains : List (List ℕ)) (i : ℕ) (at : At) (by : ℕ) : Type 0 where
  pub behind : 0 < i
  pub first : IsSomeAnd (slice_get rs i) (λ (r : Run). r.first ≡ at)
  pub next : IsSomeAnd (slice_get rs (i - 1)) (λ (l : Run). IsSomeAnd (slice_get rs i) (IsNext l))
  pub chain : IsSomeAnd (slice_get rs (i - 1))
      (λ (l : Run). IsSomeAnd (slice_get rs i) (λ (r : Run). chain_at chains l.newest ≡ by ∷ chain_at chains r.newest))

-- run number i, if there is one, begins with a greater key than `first`
abbrev pub IsRunPassed : List Stamp → List Run → At → ℕ → Type 0
IsRunPassed vs rs first i = IfSome (slice_get rs i) (λ (r : Run). key_cmp (key_at vs first) (key_at vs r.first) ≡ Less)

-- run number i, if there is one, begins with no greater key
abbrev pub IsRunNotPassed : List Stamp → List Run → At → ℕ → Type 0
IsRunNotPassed vs rs first i =
    IfSome (slice_get rs i) (λ (r : Run). ¬ (key_cmp (key_at vs first) (key_at vs r.first) ≡ Less))

-- how many elements runs hold
abbrev pub size_in : List Run → ℕ
size_in rs = sum_by (λ (r : Run). r.len) rs

-- how many of a run's elements nothing deletes
abbrev pub undeleted_of : Option ℕ → ℕ → ℕ
undeleted_of None n = n
undeleted_of (Some _) n = 0

abbrev pub undeleted_in : List Run → ℕ
undeleted_in rs = sum_by (λ (r : Run). undeleted_of r.newest r.len) rs

-- runs of which none is empty, which hold elements for 32 bits, and of which this many are deleted by nothing
pub record AreCounted (rs : List Run) (n : ℕ) : Type 0 where
  pub some : All (λ (r : Run). 0 < r.len) rs
  pub size : size_in rs < 2 ^ 32
  pub undeleted : n ≡ undeleted_in rs

-- what contracts see of kept runs: the list of them, the blocks that they stand in, and for how many more there is room
pub record RunsView : Type 0 where
  pub list : List Run
  pub blocks : List (List Run)
  pub room : ℕ

-- versions, characters, links and runs that fit together, with this many deletions
pub record IsSound (vs : List SpanVersion) (chars : List ℕ) (links : List Link) (rs : List Run)
    (deletions : ℕ) : Type 0 where
  pub known : AreKnown (stamps_in vs) (rows_of (spelled (spans_of chars (chains_of links) rs)))
  pub own_places : HaveOwnPlaces (rows_of (spelled (spans_of chars (chains_of links) rs)))
  pub fitting : AreFitting (length vs) chars (chains_of links) rs
  pub linked : AreLinked links
  pub made : All (λ (x : Link). x.by < length vs) links
  pub elements : length chars ≡ length (rows_of (spelled (spans_of chars (chains_of links) rs)))
  pub deletions_are : deletions ≡ length (deletions_of (spelled (spans_of chars (chains_of links) rs)))
  pub few_links : length links ≤ deletions

-- the room that is left is there: for versions, characters and links, and for two runs for each element and each deletion
pub record HasLeft (left : Left)
    (versions versions_capacity chars chars_capacity links links_capacity deletions runs_room : ℕ) : Type 0 where
  pub versions_fit : versions + left.versions ≤ versions_capacity
  pub chars_fit : chars + left.elements ≤ chars_capacity
  pub links_fit : links + left.deletions ≤ links_capacity
  pub runs_fit : 2 * (left.elements + left.deletions) ≤ runs_room
  pub few_versions : versions + left.versions < 2 ^ 32
  pub few_elements : chars + left.elements < 2 ^ 32
  pub few_deletions : deletions + left.deletions < 2 ^ 32

abbrev pub room_of : Left → DocumentRoom
room_of left = record { versions = left.versions; elements = left.elements; deletions = left.deletions }

-- The answer of a book to an entry that is put to it.
use Rattle.std.specs.Prelude.{◌≡◌, ℕ, ◌<◌, ◌≤◌, nat_lt, List, [], ◌∷◌, ◌++◌, length, if◌then◌else◌, Option, Some, None, Contains}
use Rattle.braid_change.specs.Splices.{first_past}
use Rattle.braid_graph.specs.Entries.{Holds, HoldsAll}
use Rattle.braid_graph.specs.Ancestries.{IsLeastUnheld}
use Rattle.braid_text.specs.Histories.{graph_of, text_at, MayFollow}
use Rattle.braid_text.specs.Answers.{refusal_to}
use Rattle.braid_text.specs.declared.accept.Accept.{Accept}
use Rattle.braid_text.specs.declared.accept.Accept.TheVariants as accepts
use Rattle.braid_text.specs.declared.room.Which.{Which}
use Rattle.braid_text.specs.declared.room.Which.TheVariants.{Resources, Versions, Elements, Deletions, Width}
use Rattle.braid_store.specs.declared.entry.Entry.{Entry}
use Rattle.braid_store.specs.declared.put.Put.{Put}
use Rattle.braid_store.specs.declared.put.Put.TheVariants.{New, Known, Clash, UnknownParent, OutOfRange, Full, Memory}
use Rattle.braid_store.specs.Books.{Counts, counts_at, of_path}

-- the limit of each count
abbrev pub limit_of : Which → ℕ
limit_of Resources = 4_096
limit_of Versions = 262_144
limit_of Elements = 16_777_216
limit_of Deletions = 33_554_432
limit_of Width = 1_000

-- the number that is counted
abbrev pub count_of : Counts → Which → ℕ
count_of c Resources = c.resources
count_of c Versions = c.versions
count_of c Elements = c.elements
count_of c Deletions = c.deletions
count_of c Width = c.width

-- no count is above its limit
abbrev pub IsWithin : Counts → Type 0
IsWithin c = (which : Which) → count_of c which ≤ limit_of which

-- the place of a count in the order of `Which`
abbrev pub place_of : Which → ℕ
place_of Resources = 0
place_of Versions = 1
place_of Elements = 2
place_of Deletions = 3
place_of Width = 4

-- this count is above its limit, and none before it is, in the order of `Which`
pub record IsFirstOver (c : Counts) (which : Which) : Type 0 where
  pub over : limit_of which < count_of c which
  pub first : (earlier : Which) → place_of earlier < place_of which → count_of c earlier ≤ limit_of earlier

-- when each answer to an entry comes. The counts are those of the book with the entry. Memory may come for any update that the path does not hold
abbrev pub IsPut : List Entry → Entry → Put → Type 0
IsPut B e New = MayFollow (of_path B e.path) e.update × IsWithin (counts_at (B ++ e ∷ []) e.path)
IsPut B e Known = Contains (of_path B e.path) e.update
IsPut B e (Clash v) = (v ≡ e.update.id) × Holds (graph_of (of_path B e.path)) v
    × ¬ (Contains (of_path B e.path) e.update)
IsPut B e (UnknownParent v) = ¬ (Holds (graph_of (of_path B e.path)) e.update.id)
    × IsLeastUnheld (graph_of (of_path B e.path)) e.update.parents v
IsPut B e (OutOfRange patch len) =
    ¬ (Holds (graph_of (of_path B e.path)) e.update.id) × HoldsAll (graph_of (of_path B e.path)) e.update.parents
    × (first_past (text_at (of_path B e.path) e.update.parents) e.update.change ≡ Some patch)
    × (len ≡ length (text_at (of_path B e.path) e.update.parents))
IsPut B e (Full which limit) =
    MayFollow (of_path B e.path) e.update × IsFirstOver (counts_at (B ++ e ∷ []) e.path) which
    × (limit ≡ limit_of which)
IsPut B e Memory = ¬ (Contains (of_path B e.path) e.update)

-- a refusal of a path's history as the book's answer; what a history says of room is no answer of a book
abbrev pub refused_as : Accept → Put
refused_as accepts.New = New
refused_as accepts.Known = Known
refused_as (accepts.Clash v) = Clash v
refused_as (accepts.UnknownParent v) = UnknownParent v
refused_as (accepts.OutOfRange patch len) = OutOfRange patch len
refused_as (accepts.Full which need room) = Full which (limit_of which)
refused_as accepts.Memory = Memory

-- the same of a resource that would be one too many: of the counts, that of the resources is the first
abbrev pub refused_when_full : Accept → Put
refused_when_full accepts.New = Full Resources 4_096
refused_when_full accepts.Known = Known
refused_when_full (accepts.Clash v) = Clash v
refused_when_full (accepts.UnknownParent v) = UnknownParent v
refused_when_full (accepts.OutOfRange patch len) = OutOfRange patch len
refused_when_full (accepts.Full which need room) = Full Resources 4_096
refused_when_full accepts.Memory = Memory

-- the first count that is above its limit, in the order of `Which`
abbrev pub first_over : Counts → Option Which
first_over c =
    if nat_lt 4_096 c.resources then Some Resources else
    (if nat_lt 262_144 c.versions then Some Versions else
    (if nat_lt 16_777_216 c.elements then Some Elements else
    (if nat_lt 33_554_432 c.deletions then Some Deletions else
    (if nat_lt 1_000 c.width then Some Width else None))))

-- the answer where the path's history does not refuse
abbrev pub counted_answer : Option Which → Put
counted_answer (Some which) = Full which (limit_of which)
counted_answer None = New

-- the refusal of the path's history, where there is one, and else the first count over its limit, and else New
abbrev pub answered : List Entry → Entry → Option Accept → Put
answered B e (Some a) = refused_as a
answered B e None = counted_answer (first_over (counts_at (B ++ e ∷ []) e.path))

-- the answer as a function
abbrev pub put_answer : List Entry → Entry → Put
put_answer B e = answered B e (refusal_to (of_path B e.path) e.update)

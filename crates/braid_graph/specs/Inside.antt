-- What a graph keeps beside its entries.
use Rattle.std.specs.Prelude.{All, ◌≡◌, ◌≤◌, ◌<◌, ◌↔◌, ◌⊎◌, ◌+◌, ◌==◌, ℕ, List, [], ◌∷◌, ◌++◌, Bool, true, false, Option, Some, None, map, fold, length, slice_get, slice_set, if◌then◌else◌, Contains}
use Rattle.std.specs.List.{AllZip}
use Rattle.std.specs.Ordering.{is_lt}
use Rattle.braid_ids.specs.Identifiers.{id_cmp}
use Rattle.braid_ids.specs.MarkSets.{IsMarked}
use Rattle.braid_graph.specs.Entries.{GraphEntry, ids_of, HoldsAll, IsHistoryGraph}
use Rattle.braid_graph.specs.Ancestries.{IsAncestor, IsLeastUnheld, MarksAncestry}
use Rattle.braid_graph.specs.Levels.{level_of}
use Rattle.braid_graph.specs.Frontiers.{is_head}
use Rattle.braid_graph.specs.Runs.{goes_on, starts_of, runs_of}
use Rattle.braid_graph.specs.declared.known.Known.{Known}
use Rattle.braid_graph.specs.declared.links.Links.{Links}

-- the entries of a map from identifiers to parents
abbrev pub entries_in : List (List ℕ × List (List ℕ)) → List GraphEntry
entries_in pairs = map (λ (p : List ℕ × List (List ℕ)). record { id = p.0; parents = p.1 }) pairs

-- this is the arrival number of the identifier
abbrev pub IsNumberOf : List GraphEntry → List ℕ → ℕ → Type 0
IsNumberOf es v n = slice_get (ids_of es) n ≡ Some v

-- what is kept beside one entry
pub record IsLinked (es : List GraphEntry) (e : GraphEntry) (links : Links) : Type 0 where
  pub level : links.level ≡ level_of es e.id
  pub parents : AllZip (IsNumberOf es) e.parents links.parents.items

-- what is kept beside the entries: their links, and whether each is no entry's parent
pub record IsKept (es : List GraphEntry) (links : List Links) (flags : List Bool) : Type 0 where
  pub history : IsHistoryGraph es
  pub linked : AllZip (IsLinked es) es links
  pub heads : flags ≡ map (is_head es) (ids_of es)
  pub few : length es ≤ 524288

-- flags, with those of these numbers taken back
abbrev pub cleared : List Bool → List ℕ → List Bool
cleared flags ns = fold (λ (old : List Bool) (n : ℕ). slice_set old n false) flags ns

-- this is the number of a parent of the entry with number n
abbrev pub IsParentNumber : List GraphEntry → ℕ → ℕ → Type 0
IsParentNumber es n m = (e : GraphEntry) × (v : List ℕ) × (slice_get es n ≡ Some e) × Contains e.parents v
    × IsNumberOf es v m

-- the numbers of these identifiers are marked
abbrev pub AllMarked : List GraphEntry → List (List ℕ) → List Bool → Type 0
AllMarked es F marks = (n : ℕ) (v : List ℕ) → IsNumberOf es v n → Contains F v → IsMarked marks n

-- the lesser of two identifiers, where there are two
abbrev pub lesser_of : Option (List ℕ) → List ℕ → List ℕ
lesser_of None v = v
lesser_of (Some u) v = if is_lt (id_cmp u v) then u else v

-- none of these identifiers is missing, or this is the least that is
abbrev pub IsLeastOf : List GraphEntry → List (List ℕ) → Option (List ℕ) → Type 0
IsLeastOf es F None = HoldsAll es F
IsLeastOf es F (Some v) = IsLeastUnheld es F v

-- the identifier of the last entry, where there is one; of none it is the one before
abbrev pub last_from : Option (List ℕ) → List GraphEntry → Option (List ℕ)
last_from before [] = before
last_from before (e ∷ es) = last_from (Some e.id) es

-- the number of the run of a new entry with these parents
pub record IsRunAfter (es : List GraphEntry) (parents : List (List ℕ)) (run : ℕ) : Type 0 where
  pub on : goes_on (last_from None es) parents ≡ true → run + 1 ≡ runs_of es
  pub new : goes_on (last_from None es) parents ≡ false → run ≡ runs_of es

-- where runs begin, after an entry with this number and run
abbrev pub begun : List ℕ → ℕ → ℕ → List ℕ
begun starts run number = if run == length starts then starts ++ number ∷ [] else starts

-- the run with number r has number n: it begins at n or before, and the next one, if there is one, behind
pub record IsRunOf (starts : List ℕ) (n r : ℕ) : Type 0 where
  pub start : ℕ
  pub begins : slice_get starts r ≡ Some start
  pub from : start ≤ n
  pub next : (t : ℕ) → slice_get starts (r + 1) ≡ Some t → n < t

-- what is kept of runs: where each begins, and the run of each entry
pub record KeepsRuns (es : List GraphEntry) (links : List Links) (starts : List ℕ) : Type 0 where
  pub begin : starts ≡ starts_of es
  pub placed : (n : ℕ) (k : Links) → slice_get links n ≡ Some k → IsRunOf starts n k.run

-- all that is kept beside the entries
pub record IsWhole (es : List GraphEntry) (links : List Links) (flags : List Bool) (starts : List ℕ) : Type 0 where
  pub kept : IsKept es links flags
  pub runs : KeepsRuns es links starts

-- the ancestry that is kept of an entry
pub record IsKnown (es : List GraphEntry) (k : Known) : Type 0 where
  pub id : List ℕ
  pub number : IsNumberOf es id k.of
  pub size : length k.marks ≤ length es
  pub exact : (n : ℕ) (e : GraphEntry) → slice_get es n ≡ Some e → IsMarked k.marks n ↔ IsAncestor es (id ∷ []) e.id

abbrev pub AreKnown : List GraphEntry → List Known → Type 0
AreKnown es ks = All (IsKnown es) ks

-- marked is the ancestry of the parents of the newest entry, among those before it
pub record MarksPast (es : List GraphEntry) (marks : List Bool) : Type 0 where
  pub front : List GraphEntry
  pub newest : GraphEntry
  pub all : es ≡ front ++ newest ∷ []
  pub past : MarksAncestry front newest.parents marks

-- m is n, or stands before it in its run: nothing behind m and up to n begins a run
pub record IsBehind (es : List GraphEntry) (n m : ℕ) : Type 0 where
  pub below : m ≤ n
  pub none : (k : ℕ) → m < k → k ≤ n → ¬ (Contains (starts_of es) k)

-- the number is in the front of a run that ends there
pub record Reaches (starts ends : List ℕ) (n : ℕ) : Type 0 where
  pub run : ℕ
  pub start : ℕ
  pub end : ℕ
  pub starts_at : slice_get starts run ≡ Some start
  pub ends_at : slice_get ends run ≡ Some end
  pub from : start ≤ n
  pub below : n < end

-- an end for each run, none behind the run's
pub record AreEnds (es : List GraphEntry) (ends : List ℕ) : Type 0 where
  pub size : length ends ≡ runs_of es
  pub within : (r e : ℕ) → slice_get ends r ≡ Some e → e ≤ length es
  pub apart : (r e t : ℕ) → slice_get ends r ≡ Some e → slice_get (starts_of es) (r + 1) ≡ Some t → e ≤ t

-- the numbers in the fronts are those in the old ones, and those that stand behind one of these
abbrev pub ReachesMore : List GraphEntry → List ℕ → List ℕ → (ℕ → Type 0) → Type 0
ReachesMore es old new more = (m : ℕ)
    → Reaches (starts_of es) new m ↔ (Reaches (starts_of es) old m ⊎ ((n : ℕ) × more n × IsBehind es n m))

-- what the fronts have once the runs from number r on are done: these members, the parents of what begins those runs, and nothing but the ancestry
pub record IsReached (es : List GraphEntry) (F G : List (List ℕ)) (r : ℕ) (ends : List ℕ) : Type 0 where
  pub fits : AreEnds es ends
  pub members : (n : ℕ) (v : List ℕ) → IsNumberOf es v n → Contains G v → Reaches (starts_of es) ends n
  pub closed : (k s m : ℕ) → r ≤ k → slice_get (starts_of es) k ≡ Some s → Reaches (starts_of es) ends s
      → IsParentNumber es s m → Reaches (starts_of es) ends m
  pub within : (n : ℕ) (v : List ℕ) → IsNumberOf es v n → Reaches (starts_of es) ends n → IsAncestor es F v

-- marked are exactly the numbers in the fronts of the runs below r
abbrev pub MarksFronts : List GraphEntry → List ℕ → ℕ → List Bool → Type 0
MarksFronts es ends r marks = (n : ℕ) → IsMarked marks n ↔ ((x : Reaches (starts_of es) ends n) × (x.run < r))

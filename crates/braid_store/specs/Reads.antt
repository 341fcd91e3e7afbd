-- What is read of a path of a book, and why it is not.
use Rattle.std.specs.Prelude.{◌≡◌, ◌≢◌, ℕ, List, [], Option, MatchOption}
use Rattle.braid_change.specs.Updates.{UpdateView}
use Rattle.braid_graph.specs.Entries.{HoldsAll}
use Rattle.braid_graph.specs.Ancestries.{IsLeastUnheld}
use Rattle.braid_graph.specs.Frontiers.{IsFrontierOf}
use Rattle.braid_text.specs.Histories.{graph_of, text_at}
use Rattle.braid_store.specs.declared.entry.Entry.{Entry}
use Rattle.braid_store.specs.declared.got.Got.{Got}
use Rattle.braid_store.specs.declared.got.GetFault.{GetFault}
use Rattle.braid_store.specs.declared.got.GetFault.TheVariants.{Absent, Unknown, Memory}
use Rattle.braid_store.specs.Books.{of_path}

-- the version is the frontier that was asked for, or the history's own where none was; its members are held; and the text is what is read at it
pub record ReadsHistory (H : List UpdateView) (at : Option (List (List ℕ))) (got : Got) : Type 0 where
  pub version : MatchOption at (IsFrontierOf (graph_of H) got.version) (λ (F : List (List ℕ)). got.version ≡ F)
  pub held : HoldsAll (graph_of H) got.version
  pub text : got.text ≡ text_at H got.version

-- the path has an entry, and this is read of its history
abbrev pub IsRead : List Entry → List ℕ → Option (List (List ℕ)) → Got → Type 0
IsRead B path at got = (of_path B path ≢ []) × ReadsHistory (of_path B path) at got

-- a version was asked for, and this is the least of its identifiers that the history does not hold
abbrev pub IsUnheldOf : List UpdateView → Option (List (List ℕ)) → List ℕ → Type 0
IsUnheldOf H at v = MatchOption at ⊥ (λ (F : List (List ℕ)). IsLeastUnheld (graph_of H) F v)

-- why a path is not read: it has no entry, or it does not hold an identifier of the version asked for. Memory may come for any path
abbrev pub IsGetFault : List Entry → List ℕ → Option (List (List ℕ)) → GetFault → Type 0
IsGetFault B path at Absent = of_path B path ≡ []
IsGetFault B path at (Unknown v) = (of_path B path ≢ []) × IsUnheldOf (of_path B path) at v
IsGetFault B path at Memory = Unit {0}

-- why a history is not read
abbrev pub IsReadFault : List UpdateView → Option (List (List ℕ)) → GetFault → Type 0
IsReadFault H at Absent = ⊥
IsReadFault H at (Unknown v) = IsUnheldOf H at v
IsReadFault H at Memory = Unit {0}

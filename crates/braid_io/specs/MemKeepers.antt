-- A keeper in memory, as its contracts see it, and exactly what one call of it does.
use Rattle.std.specs.Prelude.{◌≡◌, ℕ, List, ◌∷◌, Some, None}
use Rattle.std.specs.List.{Contains}
use Rattle.std.specs.Ordering.{nat_cmp}
use Rattle.std.specs.Cmp.Lexicographic.{slice_cmp}
use Rattle.std.specs.FinMap as map
use Rattle.braid_io.specs.declared.keeper.Loaded.{Loaded}
use Rattle.braid_io.specs.declared.keeper.Loaded.TheVariants.{Bytes, Nothing, Failed, Memory}
use Rattle.braid_io.specs.declared.keeper.Saved.{Saved}
use Rattle.braid_io.specs.declared.keeper.Saved.TheVariants.{Done, Failed as NotSaved, Memory as NoMemory}
use Rattle.braid_io.specs.Outside.{next_count}
use Rattle.braid_io.specs.Keepers.{Kept, Keeping}

-- A keeper in memory: names and bytes, the newest first, of which the first that has a name counts; the numbers of the
-- calls that fail, the number of the next call, and the counts of failed loads and failed saves.
pub record MemKeeping : Type 0 where
  pub saved : List (List ℕ × List ℕ)
  pub fails : List ℕ
  pub calls : ℕ
  pub load_faults : ℕ
  pub save_faults : ℕ

-- What is kept by a keeper in memory.
abbrev pub kept_of : MemKeeping → Kept
kept_of k = map.from_entries k.saved

-- What a keeper in memory tells: all of it.
abbrev pub keeping_of : MemKeeping → Keeping
keeping_of k = record { kept = Some (kept_of k); load_faults = k.load_faults; save_faults = k.save_faults }

-- One load of a keeper in memory. It fails exactly where its number is listed, and then only the counts change. Else it
-- gives the bytes that stand under the name, or says that none do. For want of memory all stays as it was.
abbrev pub MemLoads : List ℕ → Loaded → MemKeeping → MemKeeping → Type 0
MemLoads name Memory old new = new ≡ old
MemLoads name Failed old new = Contains old.fails old.calls
    × (new ≡ record old { calls = next_count old.calls; load_faults = next_count old.load_faults })
MemLoads name Nothing old new = ¬ Contains old.fails old.calls × (map.get (kept_of old) name ≡ None)
    × (new ≡ record old { calls = next_count old.calls })
MemLoads name (Bytes bytes) old new = ¬ Contains old.fails old.calls × (map.get (kept_of old) name ≡ Some bytes)
    × (new ≡ record old { calls = next_count old.calls })

-- One save of a keeper in memory. It fails exactly where its number is listed, and then only the counts change. Else the
-- bytes stand under the name. For want of memory all stays as it was.
abbrev pub MemSaves : List ℕ → List ℕ → Saved → MemKeeping → MemKeeping → Type 0
MemSaves name bytes NoMemory old new = new ≡ old
MemSaves name bytes NotSaved old new = Contains old.fails old.calls
    × (new ≡ record old { calls = next_count old.calls; save_faults = next_count old.save_faults })
MemSaves name bytes Done old new = ¬ Contains old.fails old.calls
    × (new ≡ record old { saved = (name, bytes) ∷ old.saved; calls = next_count old.calls })

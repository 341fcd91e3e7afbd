-- What a keeper tells, and what loading and saving do.
use Rattle.std.specs.Prelude.{◌≡◌, ◌≢◌, ℕ, ◌≤◌, List, ⊤, Option, None, Some}
use Rattle.std.specs.Option.{option_map}
use Rattle.std.specs.Ordering.{nat_cmp}
use Rattle.std.specs.Cmp.Lexicographic.{slice_cmp}
use Rattle.std.specs.FinMap as map
use Rattle.braid_io.specs.declared.keeper.Loaded.{Loaded}
use Rattle.braid_io.specs.declared.keeper.Loaded.TheVariants.{Bytes, Nothing, Failed, Memory}
use Rattle.braid_io.specs.declared.keeper.Saved.{Saved}
use Rattle.braid_io.specs.declared.keeper.Saved.TheVariants.{Done, Failed as NotSaved, Memory as NoMemory}
use Rattle.braid_io.specs.Outside.{Rose}

-- What is kept: bytes under names, which are bytes too.
abbrev pub Kept : Type 0
Kept = map.FinMap (slice_cmp nat_cmp) (List ℕ)

-- What a keeper tells: what it keeps, None where it does not tell it, and how often loading and saving failed.
pub record Keeping : Type 0 where
  pub kept : Option Kept
  pub load_faults : ℕ
  pub save_faults : ℕ

-- Where it is told what is kept, this is what stands under the name: bytes, or nothing.
abbrev pub Holds : Option Kept → List ℕ → Option (List ℕ) → Type 0
Holds None name found = ⊤
Holds (Some kept) name found = map.get kept name ≡ found

-- What is kept once the bytes stand under the name, where it is told.
abbrev pub with_kept : Option Kept → List ℕ → List ℕ → Option Kept
with_kept told name bytes = option_map (λ kept. map.insert kept name bytes) told

-- All other names stay as they were; of this one nothing is said.
abbrev pub KeepsOthers : List ℕ → Option Kept → Option Kept → Type 0
KeepsOthers name None None = ⊤
KeepsOthers name None (Some new) = ⊥
KeepsOthers name (Some old) None = ⊥
KeepsOthers name (Some old) (Some new) = (other : List ℕ) → other ≢ name → map.get new other ≡ map.get old other

-- One load: it gives the bytes that stand under the name, or says that none do, and all stays as it was; or it fails,
-- where the count of failed loads rises. For want of memory all stays as it was.
abbrev pub Loads : List ℕ → Loaded → Keeping → Keeping → Type 0
Loads name (Bytes bytes) old new = Holds old.kept name (Some bytes) × (new ≡ old)
Loads name Nothing old new = Holds old.kept name None × (new ≡ old)
Loads name Failed old new = (new ≡ record old { load_faults = new.load_faults }) × (old.load_faults ≤ new.load_faults)
    × Rose old.load_faults new.load_faults
Loads name Memory old new = new ≡ old

-- One save: the bytes then stand under the name, and all else stays; or it fails, where the count of failed saves rises
-- and the other names stay. For want of memory all stays as it was.
abbrev pub Saves : List ℕ → List ℕ → Saved → Keeping → Keeping → Type 0
Saves name bytes Done old new = new ≡ record old { kept = with_kept old.kept name bytes }
Saves name bytes NotSaved old new = KeepsOthers name old.kept new.kept × (new.load_faults ≡ old.load_faults)
    × (old.save_faults ≤ new.save_faults) × Rose old.save_faults new.save_faults
Saves name bytes NoMemory old new = new ≡ old

-- A key compares alike with all keys of another version.
use Rattle.std.proofs.Common.{◌≡◌, ℕ, List, refl, ap, Less, Equal, Greater, Ordering}
use Rattle.std.specs.Ordering.{nat_cmp, ordering_then}
use Rattle.std.specs.Cmp.Lexicographic.{slice_cmp}
use Rattle.braid_tree.specs.Keys.{Key, key_cmp, key_in}
use Rattle.braid_tree.proofs.Keys.{ids_strict}

pub alike : (k : Key) (level : ℕ) (id : List ℕ) (m n : ℕ) → ((k.id ≡ id) → ⊥) → key_cmp k (key_in level id m) ≡ key_cmp k (key_in level id n)
alike k level id m n ne = ap (ordering_then (nat_cmp k.level level)) (go (slice_cmp nat_cmp k.id id) refl)
  where
    go : (o : Ordering) → slice_cmp nat_cmp k.id id ≡ o → ordering_then o (nat_cmp k.ordinal m) ≡ ordering_then o (nat_cmp k.ordinal n)
    go Less e = refl
    go Equal e = absurd (ne (ids_strict.same k.id id e))
    go Greater e = refl

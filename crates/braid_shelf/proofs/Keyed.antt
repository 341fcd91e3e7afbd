-- Parameters as the entries of a map.
use Rattle.std.proofs.Common.{◌≡◌, ℕ, Bool, true, false, List, [], ◌∷◌, map, refl, ap, nat_eq}
use Rattle.std.specs.Cmp.Lexicographic.{pointwise}
use Rattle.indexmap.specs.IndexMap.{insert_entry}
use Rattle.braid_shelf.specs.declared.item.Item.{Item}
use Rattle.braid_shelf.specs.declared.param.Param.{Param}
use Rattle.braid_shelf.specs.Lists.{param_of, put}

-- to insert an entry is to put a parameter
pub inserted : (entries : List (List ℕ × Item)) (key : List ℕ) (value : Item) → map param_of (insert_entry (pointwise nat_eq) entries key value) ≡ put (map param_of entries) (record { key = key; value = value })
inserted [] key value = refl
inserted (first ∷ entries) key value = go (pointwise nat_eq key first.0) refl (inserted entries key value)
  where
    go : (b : Bool) → pointwise nat_eq key first.0 ≡ b → map param_of (insert_entry (pointwise nat_eq) entries key value) ≡ put (map param_of entries) (record { key = key; value = value })
        → map param_of (insert_entry (pointwise nat_eq) (first ∷ entries) key value) ≡ put (map param_of (first ∷ entries)) (record { key = key; value = value })
    go true e later = rw e refl
    go false e later = rw e (ap (λ (x : List Param). param_of first ∷ x) later)

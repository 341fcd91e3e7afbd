-- Paths that are found among the resources of a book.
use Rattle.std.proofs.Common.{◌≡◌, ◌≢◌, ℕ, List, [], ◌∷◌, Bool, true, false, ◌||◌, cond, map, Bor, Option, Some, None, is_some, IfSome, IfNone, position, refl, sym, ap, ◌∙◌}
use Rattle.std.specs.List.{list_any, slice_get}
use Rattle.std.specs.Map.{lookup, keys_of}
use Rattle.std.specs.Option.{option_copied}
use Rattle.std.proofs.lemmas.List.Quantifiers.{position-Some}
use Rattle.std.proofs.lemmas.Option.{slice_get-get_or}
use Rattle.braid_ids.proofs.Rising.{same_bytes}
use Rattle.braid_change.specs.Updates.{UpdateView}
use Rattle.braid_store.specs.declared.entry.Entry.{Entry}
use Rattle.braid_store.specs.Books.{same_path, of_path, paths_of}
use Rattle.braid_store.specs.Inside.{resources_of}
use Rattle.braid_store.proofs.Paths.{has_path, none_of_path, some_of_path, path_among}

-- the keys are the paths
pub keys_are_paths : (B : List Entry) → keys_of (resources_of B) ≡ paths_of B
keys_are_paths B = go (paths_of B)
  where
    go : (ps : List (List ℕ)) → keys_of (map (λ (p : List ℕ). (p, of_path B p)) ps) ≡ ps
    go [] = refl
    go (p ∷ ps) = ap (λ (qs : List (List ℕ)). p ∷ qs) (go ps)

-- a look-up finds the history of a path that has an entry
pub lookup_finds : (B : List Entry) (p : List ℕ) → lookup (same_path p) (resources_of B) ≡ cond (has_path p B) (Some (of_path B p)) None
lookup_finds B p = go (paths_of B) ∙ ap (λ (b : Bool). cond b (Some (of_path B p)) None) (path_among B p)
  where
    go : (ps : List (List ℕ)) → lookup (same_path p) (map (λ (q : List ℕ). (q, of_path B q)) ps) ≡ cond (list_any (same_path p) ps) (Some (of_path B p)) None
    go [] = refl
    go (q ∷ ps) = by (same_path p q) refl (go ps)
      where
        by : (b : Bool) → same_path p q ≡ b → lookup (same_path p) (map (λ (r : List ℕ). (r, of_path B r)) ps) ≡ cond (list_any (same_path p) ps) (Some (of_path B p)) None
            → cond b (Some (of_path B q)) (lookup (same_path p) (map (λ (r : List ℕ). (r, of_path B r)) ps)) ≡ cond (b || list_any (same_path p) ps) (Some (of_path B p)) None
        by true e h = ap (λ (r : List ℕ). Some (of_path B r)) (sym (same_bytes p q e))
        by false e h = h

-- what is found is the path's history, which is not empty; and where nothing is found the path has none
pub record Finds (B : List Entry) (p : List ℕ) (H : List UpdateView) : Type 0 where
  pub history : H ≡ of_path B p
  pub some : H ≢ []

pub found_is : (B : List Entry) (p : List ℕ) (H : List UpdateView) → lookup (same_path p) (resources_of B) ≡ Some H → Finds B p H
found_is B p H h = go (has_path p B) refl (sym (lookup_finds B p) ∙ h)
  where
    go : (b : Bool) → has_path p B ≡ b → cond (has_path p B) (Some (of_path B p)) None ≡ Some H → Finds B p H
    go true e f =
        let k : Some (of_path B p) ≡ Some H = sym (ap (λ (b : Bool). cond b (Some (of_path B p)) None) e) ∙ f in
        let is : H ≡ of_path B p = cc in
        record { history = is; some = λ n. some_of_path B p e (sym is ∙ n) }
    go false e f = absurd (let k : None ≡ Some H = sym (ap (λ (b : Bool). cond b (Some (of_path B p)) None) e) ∙ f in none_is_some k)
      where
        none_is_some : None ≡ Some H → ⊥
        none_is_some k = cc

pub absent_is : (B : List Entry) (p : List ℕ) → is_some (lookup (same_path p) (resources_of B)) ≡ false → of_path B p ≡ []
absent_is B p h = go (has_path p B) refl (ap is_some (sym (lookup_finds B p)) ∙ h)
  where
    go : (b : Bool) → has_path p B ≡ b → is_some (cond (has_path p B) (Some (of_path B p)) None) ≡ false → of_path B p ≡ []
    go true e f = absurd (let k : true ≡ false = sym (ap (λ (b : Bool). is_some (cond b (Some (of_path B p)) None)) e) ∙ f in cc)
    go false e f = none_of_path B p e

-- the place that is found is the path's
pub place_is : (B : List Entry) (p : List ℕ) (n : ℕ) → position (same_path p) (keys_of (resources_of B)) ≡ Some n → slice_get (paths_of B) n ≡ Some p
place_is B p n h =
    let found = position-Some (same_path p) (paths_of B) n p (ap (position (same_path p)) (sym (keys_are_paths B)) ∙ h) in
    slice_get-get_or (paths_of B) n p found.0 ∙ ap Some (sym (same_bytes p _ found.1))

-- what a look-up lends
pub lent : {A : Type 0} (P : A → Type 0) (r : Option (Bor A)) (x : Option A) → option_copied r ≡ x → ((a : A) → x ≡ Some a → P a) → IfSome r (λ b. P b.now)
lent P None x e h = tt
lent P (Some b) x e h = h b.now (sym e)

pub not_lent : {A : Type 0} (Q : Type 0) (r : Option (Bor A)) (x : Option A) → option_copied r ≡ x → (is_some x ≡ false → Q) → IfNone r Q
not_lent Q None x e h = h (ap is_some (sym e))
not_lent Q (Some b) x e h = tt

-- what is found by the bytes of a path
pub found_by : (rs : List (List ℕ × List UpdateView)) (B : List Entry) (q p : List ℕ) → rs ≡ resources_of B → q ≡ p → (H : List UpdateView) → lookup (same_path q) rs ≡ Some H → (H ≡ of_path B p) × (H ≢ [])
found_by rs B q p e f H h =
    let found = found_is B p H (sym (ap (λ (t : List (List ℕ × List UpdateView)). lookup (same_path p) t) e) ∙ sym (ap (λ (t : List ℕ). lookup (same_path t) rs) f) ∙ h) in
    (found.history, found.some)

pub absent_by : (rs : List (List ℕ × List UpdateView)) (B : List Entry) (q p : List ℕ) → rs ≡ resources_of B → q ≡ p → is_some (lookup (same_path q) rs) ≡ false → of_path B p ≡ []
absent_by rs B q p e f h = absent_is B p (ap is_some (sym (ap (λ (t : List ℕ). lookup (same_path t) rs) f ∙ ap (λ (t : List (List ℕ × List UpdateView)). lookup (same_path p) t) e)) ∙ h)

pub place_by : (rs : List (List ℕ × List UpdateView)) (B : List Entry) (q p : List ℕ) (n : ℕ) → rs ≡ resources_of B → q ≡ p → position (same_path q) (keys_of rs) ≡ Some n → slice_get (paths_of B) n ≡ Some p
place_by rs B q p n e f h = place_is B p n (sym (ap (λ (t : List ℕ). position (same_path t) (keys_of rs)) f ∙ ap (λ (t : List (List ℕ × List UpdateView)). position (same_path p) (keys_of t)) e) ∙ h)

-- Sums over the paths of a book, with one entry more.
use Rattle.std.proofs.Common.{◌≡◌, ◌≢◌, ℕ, ◌+◌, ◌≤◌, List, [], ◌∷◌, ◌++◌, Bool, true, false, ◌||◌, cond, refl, sym, ap, subst, ◌∙◌, append-nil, arith}
use Rattle.std.specs.List.{sum_by, list_any, IsDistinct, AllByRecursion}
use Rattle.std.proofs.lemmas.List.Sums.{sum_by-cons, sum_by_push}
use Rattle.braid_ids.proofs.Rising.{same_bytes}
use Rattle.braid_change.specs.Updates.{UpdateView}
use Rattle.braid_store.specs.declared.entry.Entry.{Entry}
use Rattle.braid_store.specs.Books.{same_path, of_path, paths_of, sum_of}
use Rattle.braid_store.proofs.Paths.{same_itself, has_path, of_path_own, of_path_other, none_of_path, paths_push, path_among, paths_differ}

-- a path is none of those that differ from it
none_any : (q : List ℕ) (ps : List (List ℕ)) → AllByRecursion (λ (p : List ℕ). same_path q p ≡ false) ps → list_any (same_path q) ps ≡ false
none_any q [] h = refl
none_any q (p ∷ ps) h = ap (λ (b : Bool). b || list_any (same_path q) ps) h.0 ∙ none_any q ps h.1

module _ (f g : List ℕ → ℕ) (q : List ℕ) (same : (p : List ℕ) → p ≢ q → g p ≡ f p) where
  -- two numbers that agree but at one path have the same sum where it is not among the paths
  pub sum_absent : (ps : List (List ℕ)) → list_any (same_path q) ps ≡ false → sum_by g ps ≡ sum_by f ps
  sum_absent [] h = refl
  sum_absent (p ∷ ps) h = go (same_path q p) refl h (sum_absent ps)
    where
      go : (b : Bool) → same_path q p ≡ b → b || list_any (same_path q) ps ≡ false → (list_any (same_path q) ps ≡ false → sum_by g ps ≡ sum_by f ps) → sum_by g (p ∷ ps) ≡ sum_by f (p ∷ ps)
      go true e h ih = cc
      go false e h ih =
          let here : g p ≡ f p = same p (λ (d : p ≡ q). (let t : same_path q q ≡ false = subst (λ (r : List ℕ). same_path q r ≡ false) d e in absurd (itself t))) in
          let rest = ih h in
          let left = sum_by-cons g p ps in
          let right = sum_by-cons f p ps in
          omega (arith, left, right, rest, here)
        where
          itself : same_path q q ≡ false → ⊥
          itself t = let s = same_itself q in cc

  -- and where it is among them once, sums that differ as it does
  pub sum_once : (ps : List (List ℕ)) → IsDistinct same_path ps → list_any (same_path q) ps ≡ true → sum_by g ps + f q ≡ sum_by f ps + g q
  unfolding IsDistinct
  sum_once [] d h = cc
  sum_once (p ∷ ps) d h = go (same_path q p) refl h (sum_once ps d.1)
    where
      go : (b : Bool) → same_path q p ≡ b → b || list_any (same_path q) ps ≡ true → (list_any (same_path q) ps ≡ true → sum_by g ps + f q ≡ sum_by f ps + g q) → sum_by g (p ∷ ps) + f q ≡ sum_by f (p ∷ ps) + g q
      go true e h ih =
          let here : p ≡ q = sym (same_bytes q p e) in
          let rest = sum_absent ps (subst (λ (r : List ℕ). list_any (same_path r) ps ≡ false) here (none_any p ps d.0)) in
          let left = sum_by-cons g p ps in
          let right = sum_by-cons f p ps in
          let gs : g p ≡ g q = ap g here in
          let fs : f p ≡ f q = ap f here in
          omega (arith, left, right, rest, gs, fs)
      go false e h ih =
          let here : g p ≡ f p = same p (λ (d : p ≡ q). (let t : same_path q q ≡ false = subst (λ (r : List ℕ). same_path q r ≡ false) d e in let s = same_itself q in cc)) in
          let rest = ih h in
          let left = sum_by-cons g p ps in
          let right = sum_by-cons f p ps in
          omega (arith, left, right, rest, here)

-- the number of one path is at most the sum
pub one_of_sum : (f : List ℕ → ℕ) (q : List ℕ) (ps : List (List ℕ)) → list_any (same_path q) ps ≡ true → f q ≤ sum_by f ps
one_of_sum f q [] h = cc
one_of_sum f q (p ∷ ps) h = go (same_path q p) refl h (one_of_sum f q ps)
  where
    go : (b : Bool) → same_path q p ≡ b → b || list_any (same_path q) ps ≡ true → (list_any (same_path q) ps ≡ true → f q ≤ sum_by f ps) → f q ≤ sum_by f (p ∷ ps)
    go true e h ih = let here : f q ≡ f p = ap f (same_bytes q p e) in let whole = sum_by-cons f p ps in omega (arith, here, whole)
    go false e h ih = let rest = ih h in let whole = sum_by-cons f p ps in omega (arith, rest, whole)

-- a sum over the histories, with one entry more
pub sum_push : (number : List UpdateView → ℕ) → number [] ≡ 0 → (B : List Entry) (e : Entry) → sum_of number (B ++ e ∷ []) + number (of_path B e.path) ≡ sum_of number B + number (of_path B e.path ++ e.update ∷ [])
sum_push number zero B e = go (has_path e.path B) refl
  where
    before : List ℕ → ℕ
    before p = number (of_path B p)

    after : List ℕ → ℕ
    after p = number (of_path (B ++ e ∷ []) p)

    same : (p : List ℕ) → p ≢ e.path → after p ≡ before p
    same p d = ap number (of_path_other B e p d)

    own : after e.path ≡ number (of_path B e.path ++ e.update ∷ [])
    own = ap number (of_path_own B e)

    go : (b : Bool) → has_path e.path B ≡ b → sum_by after (paths_of (B ++ e ∷ [])) + before e.path ≡ sum_by before (paths_of B) + number (of_path B e.path ++ e.update ∷ [])
    go true h =
        let ps : paths_of (B ++ e ∷ []) ≡ paths_of B = paths_push B e ∙ ap (λ (b : Bool). paths_of B ++ cond b [] (e.path ∷ [])) h ∙ append-nil (paths_of B) in
        let sums = sum_once before after e.path same (paths_of B) (paths_differ B) (path_among B e.path ∙ h) in
        ap (λ (qs : List (List ℕ)). sum_by after qs + before e.path) ps ∙ sums ∙ ap (λ (n : ℕ). sum_by before (paths_of B) + n) own
    go false h =
        let ps : paths_of (B ++ e ∷ []) ≡ paths_of B ++ e.path ∷ [] = paths_push B e ∙ ap (λ (b : Bool). paths_of B ++ cond b [] (e.path ∷ [])) h in
        let whole : sum_by after (paths_of (B ++ e ∷ [])) ≡ sum_by after (paths_of B) + after e.path = ap (sum_by after) ps ∙ sum_by_push after (paths_of B) e.path in
        let sums = sum_absent before after e.path same (paths_of B) (path_among B e.path ∙ h) in
        let none : before e.path ≡ 0 = ap number (none_of_path B e.path h) ∙ zero in
        omega (arith, whole, sums, none, own)

-- the number of each path is at most the sum
pub one_of_sum_of : (number : List UpdateView → ℕ) → number [] ≡ 0 → (B : List Entry) (p : List ℕ) → number (of_path B p) ≤ sum_of number B
one_of_sum_of number zero B p = go (has_path p B) refl
  where
    go : (b : Bool) → has_path p B ≡ b → number (of_path B p) ≤ sum_of number B
    go true h = one_of_sum (λ (q : List ℕ). number (of_path B q)) p (paths_of B) (path_among B p ∙ h)
    go false h = let none : number (of_path B p) ≡ 0 = ap number (none_of_path B p h) ∙ zero in omega (arith, none)

-- The paths of a book, and the history of each, with one entry more.
use Rattle.std.proofs.Common.{◌≡◌, ◌≢◌, ℕ, List, [], ◌∷◌, ◌++◌, Bool, true, false, not, ◌||◌, cond, map, filter, refl, sym, ap, subst, ◌∙◌, append-nil, inl, inr}
use Rattle.std.specs.List.{Contains, list_any, IsDistinct, AllByRecursion}
use Rattle.std.proofs.lemmas.Cmp.{nat_list_eq_equiv}
use Rattle.std.proofs.lemmas.List.{map-append}
use Rattle.std.proofs.lemmas.List.Elements.{filter-append}
use Rattle.braid_ids.proofs.Rising.{same_bytes}
use Rattle.braid_ids.proofs.Members.{Member, contains_member, member_contains}
use Rattle.braid_change.specs.Updates.{UpdateView}
use Rattle.braid_store.specs.declared.entry.Entry.{Entry}
use Rattle.braid_store.specs.Books.{same_path, entries_of, of_path, paths_of}

-- a path is itself, and no other
pub same_itself : (p : List ℕ) → same_path p p ≡ true
same_itself p = nat_list_eq_equiv.refl p

pub not_same : (p q : List ℕ) → p ≢ q → same_path p q ≡ false
not_same p q d = go (same_path p q) refl
  where
    go : (b : Bool) → same_path p q ≡ b → b ≡ false
    go true e = absurd (d (same_bytes p q e))
    go false e = refl

pub turned : (p q : List ℕ) → same_path p q ≡ same_path q p
turned p q = nat_list_eq_equiv.symm p q

-- a path among others
pub any_listed : (ps : List (List ℕ)) (p : List ℕ) → Member p ps → list_any (same_path p) ps ≡ true
any_listed [] p m = absurd m
any_listed (q ∷ ps) p (inl e) = ap (λ (b : Bool). b || list_any (same_path p) ps) (subst (λ (t : List ℕ). same_path p t ≡ true) (sym e) (same_itself p))
any_listed (q ∷ ps) p (inr m) = go (same_path p q) (any_listed ps p m)
  where
    go : (b : Bool) → list_any (same_path p) ps ≡ true → b || list_any (same_path p) ps ≡ true
    go true h = refl
    go false h = h

pub listed_any : (ps : List (List ℕ)) (p : List ℕ) → list_any (same_path p) ps ≡ true → Member p ps
listed_any [] p h = cc
listed_any (q ∷ ps) p h = go (same_path p q) refl h (listed_any ps p)
  where
    go : (b : Bool) → same_path p q ≡ b → b || list_any (same_path p) ps ≡ true → (list_any (same_path p) ps ≡ true → Member p ps) → Member p (q ∷ ps)
    go true e h ih = inl (sym (same_bytes p q e))
    go false e h ih = inr (ih h)

-- whether a path has an entry
abbrev pub has_path : List ℕ → List Entry → Bool
has_path p [] = false
has_path p (e ∷ B) = same_path p e.path || has_path p B

-- with one entry more
pub of_path_push : (B : List Entry) (e : Entry) (p : List ℕ) → of_path (B ++ e ∷ []) p ≡ of_path B p ++ cond (same_path p e.path) (e.update ∷ []) []
of_path_push [] e p = go (same_path p e.path)
  where
    go : (b : Bool) → map (λ (x : Entry). x.update) (cond b (e ∷ []) []) ≡ cond b (e.update ∷ []) []
    go true = refl
    go false = refl
of_path_push (x ∷ B) e p = go (same_path p x.path) (of_path_push B e p)
  where
    go : (b : Bool) → of_path (B ++ e ∷ []) p ≡ of_path B p ++ cond (same_path p e.path) (e.update ∷ []) []
        → map (λ (y : Entry). y.update) (cond b (x ∷ entries_of (B ++ e ∷ []) p) (entries_of (B ++ e ∷ []) p))
        ≡ map (λ (y : Entry). y.update) (cond b (x ∷ entries_of B p) (entries_of B p)) ++ cond (same_path p e.path) (e.update ∷ []) []
    go true h = ap (λ (us : List UpdateView). x.update ∷ us) h
    go false h = h

pub of_path_own : (B : List Entry) (e : Entry) → of_path (B ++ e ∷ []) e.path ≡ of_path B e.path ++ e.update ∷ []
of_path_own B e = of_path_push B e e.path ∙ ap (λ (b : Bool). of_path B e.path ++ cond b (e.update ∷ []) []) (same_itself e.path)

pub of_path_other : (B : List Entry) (e : Entry) (p : List ℕ) → p ≢ e.path → of_path (B ++ e ∷ []) p ≡ of_path B p
of_path_other B e p d = of_path_push B e p ∙ ap (λ (b : Bool). of_path B p ++ cond b (e.update ∷ []) []) (not_same p e.path d) ∙ append-nil (of_path B p)

pub of_path_append : (B C : List Entry) (p : List ℕ) → of_path (B ++ C) p ≡ of_path B p ++ of_path C p
of_path_append B C p = ap (map (λ (x : Entry). x.update)) (filter-append (λ (x : Entry). same_path p x.path) B C) ∙ map-append (λ (x : Entry). x.update) (entries_of B p) (entries_of C p)

-- a path without an entry has no history, and one with an entry has
pub none_of_path : (B : List Entry) (p : List ℕ) → has_path p B ≡ false → of_path B p ≡ []
none_of_path [] p h = refl
none_of_path (x ∷ B) p h = go (same_path p x.path) h (none_of_path B p)
  where
    go : (b : Bool) → b || has_path p B ≡ false → (has_path p B ≡ false → of_path B p ≡ []) → map (λ (y : Entry). y.update) (cond b (x ∷ entries_of B p) (entries_of B p)) ≡ []
    go true h ih = cc
    go false h ih = ih h

pub some_of_path : (B : List Entry) (p : List ℕ) → has_path p B ≡ true → of_path B p ≢ []
some_of_path [] p h n = cc
some_of_path (x ∷ B) p h n = go (same_path p x.path) h n (some_of_path B p)
  where
    go : (b : Bool) → b || has_path p B ≡ true → map (λ (y : Entry). y.update) (cond b (x ∷ entries_of B p) (entries_of B p)) ≡ [] → (has_path p B ≡ true → of_path B p ≢ []) → ⊥
    go true h n ih = cc
    go false h n ih = ih h n

pub has_from_history : (B : List Entry) (p : List ℕ) → of_path B p ≢ [] → has_path p B ≡ true
has_from_history B p d = go (has_path p B) refl
  where
    go : (b : Bool) → has_path p B ≡ b → b ≡ true
    go true e = refl
    go false e = absurd (d (none_of_path B p e))

pub absent_from_history : (B : List Entry) (p : List ℕ) → of_path B p ≡ [] → has_path p B ≡ false
absent_from_history B p d = go (has_path p B) refl
  where
    go : (b : Bool) → has_path p B ≡ b → b ≡ false
    go true e = absurd (some_of_path B p e d)
    go false e = refl

-- the paths, with one entry more
pub paths_push : (B : List Entry) (e : Entry) → paths_of (B ++ e ∷ []) ≡ paths_of B ++ cond (has_path e.path B) [] (e.path ∷ [])
paths_push [] e = refl
paths_push (x ∷ B) e = ap (λ (ps : List (List ℕ)). x.path ∷ filter other ps) (paths_push B e) ∙ ap (λ (ps : List (List ℕ)). x.path ∷ ps) (filter-append other (paths_of B) (cond (has_path e.path B) [] (e.path ∷ [])) ∙ ap (λ (ps : List (List ℕ)). filter other (paths_of B) ++ ps) (go (same_path e.path x.path) refl (has_path e.path B)))
  where
    other : List ℕ → Bool
    other p = not (same_path p x.path)

    go : (s : Bool) → same_path e.path x.path ≡ s → (a : Bool) → filter other (cond a [] (e.path ∷ [])) ≡ cond (s || a) [] (e.path ∷ [])
    go s h true = go_true s
      where
        go_true : (t : Bool) → filter other [] ≡ cond (t || true) [] (e.path ∷ [])
        go_true true = refl
        go_true false = refl
    go true h false = ap (λ (b : Bool). cond (not b) (e.path ∷ []) []) h
    go false h false = ap (λ (b : Bool). cond (not b) (e.path ∷ []) []) h

pub paths_there : (B : List Entry) (e : Entry) → of_path B e.path ≢ [] → paths_of (B ++ e ∷ []) ≡ paths_of B
paths_there B e d = paths_push B e ∙ ap (λ (b : Bool). paths_of B ++ cond b [] (e.path ∷ [])) (has_from_history B e.path d) ∙ append-nil (paths_of B)

pub paths_new : (B : List Entry) (e : Entry) → of_path B e.path ≡ [] → paths_of (B ++ e ∷ []) ≡ paths_of B ++ e.path ∷ []
paths_new B e n = paths_push B e ∙ ap (λ (b : Bool). paths_of B ++ cond b [] (e.path ∷ [])) (absent_from_history B e.path n)

-- whether a path is among those of a book
pub path_among : (B : List Entry) (p : List ℕ) → list_any (same_path p) (paths_of B) ≡ has_path p B
path_among [] p = refl
path_among (x ∷ B) p = go (same_path p x.path) refl (path_among B p)
  where
    other : List ℕ → Bool
    other q = not (same_path q x.path)

    kept : (ps : List (List ℕ)) → same_path p x.path ≡ false → list_any (same_path p) (filter other ps) ≡ list_any (same_path p) ps
    kept [] s = refl
    kept (q ∷ ps) s = by (same_path q x.path) refl (kept ps s)
      where
        by : (b : Bool) → same_path q x.path ≡ b → list_any (same_path p) (filter other ps) ≡ list_any (same_path p) ps → list_any (same_path p) (cond (not b) (q ∷ filter other ps) (filter other ps)) ≡ same_path p q || list_any (same_path p) ps
        by true e h = h ∙ ap (λ (b : Bool). b || list_any (same_path p) ps) (sym (turned p q ∙ nat_list_eq_equiv.congr q x.path p e ∙ turned x.path p ∙ s))
        by false e h = ap (λ (b : Bool). same_path p q || b) h

    go : (b : Bool) → same_path p x.path ≡ b → list_any (same_path p) (paths_of B) ≡ has_path p B → same_path p x.path || list_any (same_path p) (filter other (paths_of B)) ≡ same_path p x.path || has_path p B
    go true e h = ap (λ (b : Bool). b || list_any (same_path p) (filter other (paths_of B))) e ∙ sym (ap (λ (b : Bool). b || has_path p B) e)
    go false e h = ap (λ (b : Bool). same_path p x.path || b) (kept (paths_of B) e ∙ h)

-- no path comes twice
all_kept : (P : List ℕ → Type 0) (test : List ℕ → Bool) (ps : List (List ℕ)) → AllByRecursion P ps → AllByRecursion P (filter test ps)
all_kept P test [] h = h
all_kept P test (p ∷ ps) h = go (test p) (all_kept P test ps h.1)
  where
    go : (b : Bool) → AllByRecursion P (filter test ps) → AllByRecursion P (cond b (p ∷ filter test ps) (filter test ps))
    go true rest = (h.0, rest)
    go false rest = rest

distinct_kept : (test : List ℕ → Bool) (ps : List (List ℕ)) → IsDistinct same_path ps → IsDistinct same_path (filter test ps)
unfolding IsDistinct
distinct_kept test [] h = h
distinct_kept test (p ∷ ps) h = go (test p) (distinct_kept test ps h.1)
  where
    go : (b : Bool) → IsDistinct same_path (filter test ps) → IsDistinct same_path (cond b (p ∷ filter test ps) (filter test ps))
    go true rest = (all_kept (λ (q : List ℕ). same_path p q ≡ false) test ps h.0, rest)
    go false rest = rest

others_differ : (x : List ℕ) (ps : List (List ℕ)) → AllByRecursion (λ (q : List ℕ). same_path x q ≡ false) (filter (λ (q : List ℕ). not (same_path q x)) ps)
others_differ x [] = tt
others_differ x (q ∷ ps) = go (same_path q x) refl (others_differ x ps)
  where
    go : (b : Bool) → same_path q x ≡ b → AllByRecursion (λ (r : List ℕ). same_path x r ≡ false) (filter (λ (r : List ℕ). not (same_path r x)) ps) → AllByRecursion (λ (r : List ℕ). same_path x r ≡ false) (cond (not b) (q ∷ filter (λ (r : List ℕ). not (same_path r x)) ps) (filter (λ (r : List ℕ). not (same_path r x)) ps))
    go true e rest = rest
    go false e rest = (turned x q ∙ e, rest)

pub paths_differ : (B : List Entry) → IsDistinct same_path (paths_of B)
unfolding IsDistinct
paths_differ [] = tt
paths_differ (x ∷ B) = (others_differ x.path (paths_of B), distinct_kept (λ (q : List ℕ). not (same_path q x.path)) (paths_of B) (paths_differ B))

-- a path is listed exactly where it has an entry
pub listed_path : (B : List Entry) (p : List ℕ) → Contains (paths_of B) p → of_path B p ≢ []
listed_path B p c = some_of_path B p (sym (path_among B p) ∙ any_listed (paths_of B) p (contains_member (paths_of B) p c))

pub path_listed : (B : List Entry) (p : List ℕ) → of_path B p ≢ [] → Contains (paths_of B) p
path_listed B p d = member_contains (paths_of B) p (listed_any (paths_of B) p (path_among B p ∙ has_from_history B p d))

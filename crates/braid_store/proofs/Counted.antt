-- What is counted of a book with one entry more.
use Rattle.std.proofs.Common.{◌≡◌, ◌≢◌, ℕ, ◌+◌, ◌≤◌, List, [], ◌∷◌, ◌++◌, Bool, true, false, cond, map, length, refl, sym, ap, subst, ◌∙◌, length-append, arith}
use Rattle.std.proofs.lemmas.List.{length-map}
use Rattle.braid_change.specs.Updates.{UpdateView}
use Rattle.braid_graph.specs.Frontiers.{frontier_of}
use Rattle.braid_text.specs.Versions.{elements_by, deletions_by}
use Rattle.braid_text.specs.Histories.{graph_of, added_by, elements_of, deletions_of, IsLegal}
use Rattle.braid_text.specs.Answers.{needs_of}
use Rattle.braid_text.proofs.Public.{legal_more, elements_more, deletions_more, width_after}
use Rattle.braid_store.specs.declared.entry.Entry.{Entry}
use Rattle.braid_store.specs.declared.put.Put.TheVariants.{New}
use Rattle.braid_store.specs.Books.{same_path, entries_of, of_path, paths_of, sum_of, IsLegalBook}
use Rattle.braid_store.specs.Answers.{IsPut}
use Rattle.braid_ids.proofs.Rising.{same_bytes}
use Rattle.braid_store.proofs.Paths.{of_path_own, of_path_other, paths_there, paths_new, same_itself}
use Rattle.braid_store.proofs.Sums.{sum_push}

-- how many elements and deletions a history has
abbrev pub elements_len : List UpdateView → ℕ
elements_len H = length (elements_of H)

abbrev pub deletions_len : List UpdateView → ℕ
deletions_len H = length (deletions_of H)

pub elements_added : (H : List UpdateView) (u : UpdateView) → length (elements_of (H ++ u ∷ [])) ≡ length (elements_of H) + (needs_of H u).elements
elements_added H u = ap length (elements_more H u) ∙ length-append (elements_of H) (elements_by (added_by H u)) ∙ ap (λ (n : ℕ). length (elements_of H) + n) (length-map (added_by H u).nodes _)

pub deletions_added : (H : List UpdateView) (u : UpdateView) → length (deletions_of (H ++ u ∷ [])) ≡ length (deletions_of H) + (needs_of H u).deletions
deletions_added H u = ap length (deletions_more H u) ∙ length-append (deletions_of H) (deletions_by (added_by H u)) ∙ ap (λ (n : ℕ). length (deletions_of H) + n) (length-map (added_by H u).deleted _)

-- each count with one entry more
pub resources_new : (B : List Entry) (e : Entry) → of_path B e.path ≡ [] → length (paths_of (B ++ e ∷ [])) ≡ length (paths_of B) + 1
resources_new B e n = ap length (paths_new B e n) ∙ length-append (paths_of B) (e.path ∷ [])

pub resources_same : (B : List Entry) (e : Entry) → of_path B e.path ≢ [] → length (paths_of (B ++ e ∷ [])) ≡ length (paths_of B)
resources_same B e d = ap length (paths_there B e d)

pub versions_grow : (B : List Entry) (e : Entry) → length (B ++ e ∷ []) ≡ length B + 1
versions_grow B e = length-append B (e ∷ [])

pub elements_grow : (B : List Entry) (e : Entry) → sum_of elements_len (B ++ e ∷ []) ≡ sum_of elements_len B + (needs_of (of_path B e.path) e.update).elements
elements_grow B e = let sums = sum_push elements_len refl B e in let added = elements_added (of_path B e.path) e.update in omega (arith, sums, added)

pub deletions_grow : (B : List Entry) (e : Entry) → sum_of deletions_len (B ++ e ∷ []) ≡ sum_of deletions_len B + (needs_of (of_path B e.path) e.update).deletions
deletions_grow B e = let sums = sum_push deletions_len refl B e in let added = deletions_added (of_path B e.path) e.update in omega (arith, sums, added)

pub width_grows : (B : List Entry) (e : Entry) → length (frontier_of (graph_of (of_path (B ++ e ∷ []) e.path))) ≡ (needs_of (of_path B e.path) e.update).width
width_grows B e = ap (λ (H : List UpdateView). length (frontier_of (graph_of H))) (of_path_own B e) ∙ sym (width_after (of_path B e.path) e.update)

-- a history is no longer than its book
pub history_within : (B : List Entry) (p : List ℕ) → length (of_path B p) ≤ length B
history_within [] p = omega arith
history_within (x ∷ B) p = go (same_path p x.path) (history_within B p)
  where
    go : (b : Bool) → length (of_path B p) ≤ length B → length (map (λ (y : Entry). y.update) (cond b (x ∷ entries_of B p) (entries_of B p))) ≤ length (x ∷ B)
    go true h = omega (arith, h)
    go false h = omega (arith, h)

-- a legal book stays legal with an entry that is new to it
pub legal_book_more : (B : List Entry) (e : Entry) → IsLegalBook B → IsPut B e New → IsLegalBook (B ++ e ∷ [])
legal_book_more B e legal put p = go (same_path p e.path) refl
  where
    own : IsLegal (of_path (B ++ e ∷ []) e.path)
    own = subst IsLegal (sym (of_path_own B e)) ((legal_more (of_path B e.path) e.update).1 (legal e.path, put.0))

    go : (b : Bool) → same_path p e.path ≡ b → IsLegal (of_path (B ++ e ∷ []) p)
    go true h = subst (λ (q : List ℕ). IsLegal (of_path (B ++ e ∷ []) q)) (sym (same_bytes p e.path h)) own
    go false h = subst IsLegal (sym (of_path_other B e p other)) (legal p)
      where
        other : p ≢ e.path
        other d = let t : same_path e.path e.path ≡ false = subst (λ (q : List ℕ). same_path q e.path ≡ false) d h in let s = same_itself e.path in cc

-- What the tests' scenes are made of.
use Rattle.std.proofs.Common.{◌≡◌, ℕ, ◌+◌, ◌-◌, ◌≤◌, zero, suc, Bool, true, not, cond, List, [], ◌∷◌, ◌++◌, refl, sym, ap, subst, ◌∙◌, inl, take, drop, filter, Some, arith}
use Rattle.std.specs.Prelude.{◌↔◌}
use Rattle.std.specs.List.{Contains, slice_get}
use Rattle.braid_change.specs.Updates.{UpdateView}
use Rattle.braid_rebase.proofs.Members.{contains_member, member_contains}
use Rattle.braid_text.specs.Versions.{Version, ancestors_in, has_version}
use Rattle.braid_graph.specs.Entries.{HoldsAll}
use Rattle.braid_text.specs.Histories.{graph_of, versions_at}
use Rattle.braid_text.specs.Sent.{is_outside}
use Rattle.braid_store.specs.declared.entry.Entry.{Entry}
use Rattle.braid_store.specs.Books.{of_path}
use Rattle.braid_store.specs.Cursors.{CursorView, IsFit, left_past}

-- nothing is in the ancestry of no version, so all is outside it
no_ancestor : (vs : List Version) → ancestors_in vs [] ≡ []
no_ancestor [] = refl
no_ancestor (v ∷ vs) = no_ancestor vs

is_out : (H : List UpdateView) (u : UpdateView) → is_outside H [] u ≡ true
is_out H u = ap (λ (vs : List Version). not (has_version u.id vs)) (no_ancestor (versions_at H))

all_outside : (H us : List UpdateView) → filter (is_outside H []) us ≡ us
all_outside H [] = refl
all_outside H (u ∷ us) = ap (λ (b : Bool). cond b (u ∷ filter (is_outside H []) us) (filter (is_outside H []) us)) (is_out H u) ∙ ap (λ (t : List UpdateView). u ∷ t) (all_outside H us)

abbrev no_ids : List (List ℕ)
no_ids = []

-- no identifier is a member of no list
no_member : (F : List (List ℕ)) → ((v : List ℕ) → Contains F v ↔ Contains no_ids v) → F ≡ []
no_member [] h = refl
no_member (v ∷ F) h = absurd (contains_member no_ids v ((h v).0 (member_contains (v ∷ F) v (inl refl))))

-- these updates were given of a path, and the cursor has the rest
pub record IsGiven (book : List Entry) (path : List ℕ) (us : List UpdateView) (c : CursorView) : Type 0 where
  pub path_is : c.path ≡ path
  pub from_is : c.from ≡ []
  pub fits : IsFit book c
  pub whole : us ++ left_past (of_path book path) [] c.passed ≡ of_path book path

pub given_none : (book : List Entry) (path : List ℕ) (F : List (List ℕ)) (us : List UpdateView) (c : CursorView) → ((v : List ℕ) → Contains F v ↔ Contains no_ids v) → us ≡ [] → c.path ≡ path → c.from ≡ F → c.passed ≡ 0 → IsFit book c → IsGiven book path us c
given_none book path F us c none empty p f z fits = record {
  path_is = p;
  from_is = f ∙ no_member F none;
  fits = fits;
  whole = ap (λ (t : List UpdateView). t ++ left_past (of_path book path) [] c.passed) empty ∙ ap (left_past (of_path book path) []) z ∙ all_outside (of_path book path) (of_path book path);
}

-- a cursor is opened where its frontier is held
pub fit_held : (book : List Entry) (c : CursorView) (path : List ℕ) (from : List (List ℕ)) → IsFit book c → c.path ≡ path → c.from ≡ from → HoldsAll (graph_of (of_path book path)) from
fit_held book c path from fits p f = subst (λ (F : List (List ℕ)). HoldsAll (graph_of (of_path book path)) F) f (subst (λ (q : List ℕ). HoldsAll (graph_of (of_path book q)) c.from) p fits.held)

-- the entry at a place, behind those before it
front_more : (xs : List UpdateView) (k : ℕ) (x : UpdateView) → slice_get xs k ≡ Some x → take (suc k) xs ≡ take k xs ++ x ∷ []
front_more [] k x h = cc
front_more (y ∷ xs) zero x h = let e : y ≡ x = cc in ap (λ (t : UpdateView). t ∷ []) e
front_more (y ∷ xs) (suc k) x h = ap (λ (t : List UpdateView). y ∷ t) (front_more xs k x h)

part_more : (xs : List UpdateView) (from n k : ℕ) (x : UpdateView) → n ≡ from + k → slice_get xs n ≡ Some x → take (suc k) (drop from xs) ≡ take k (drop from xs) ++ x ∷ []
part_more [] from n k x e h = cc
part_more (y ∷ xs) zero n k x e h = let same : n ≡ k = omega (arith, e) in front_more (y ∷ xs) k x (subst (λ (i : ℕ). slice_get (y ∷ xs) i ≡ Some x) same h)
part_more (y ∷ xs) (suc from) zero k x e h = absurd (omega (arith, e))
part_more (y ∷ xs) (suc from) (suc n) k x e h = part_more xs from n k x (omega (arith, e)) h

pub entries_more : (xs us vs : List UpdateView) (from n : ℕ) (x : UpdateView) → from ≤ n → slice_get xs n ≡ Some x → us ≡ take (n - from) (drop from xs) → vs ≡ us ++ x ∷ [] → vs ≡ take (n + 1 - from) (drop from xs)
entries_more xs us vs from n x l h e f =
    let step : suc (n - from) ≡ n + 1 - from = omega (arith, l) in
    f ∙ ap (λ (t : List UpdateView). t ++ x ∷ []) e ∙ sym (part_more xs from n (n - from) x (omega (arith, l)) h) ∙ ap (λ (k : ℕ). take k (drop from xs)) step

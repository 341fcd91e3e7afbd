-- What is kept of a book with one entry more.
use Rattle.std.proofs.Common.{◌≡◌, ◌≢◌, ℕ, List, [], ◌∷◌, ◌++◌, false, true≢false, map, length, Option, Some, None, IsSome, is_some, refl, sym, ap, subst, ◌∙◌, inl, inr, zero, suc}
use Rattle.std.specs.List.{slice_get, cons_option, IsDistinct, AllByRecursion}
use Rattle.std.specs.Option.{option_map, option_and_then}
use Rattle.std.proofs.lemmas.List.{map-append}
use Rattle.std.proofs.lemmas.List.Elements.{filter_map-append}
use Rattle.std.proofs.lemmas.Option.{slice_get-map, none-some, same_Some}
use Rattle.indexmap.specs.IndexMap.{set_value_at}
use Rattle.braid_ids.proofs.Members.{Member, member_contains, member_at, kept_place}
use Rattle.braid_change.specs.Updates.{UpdateView}
use Rattle.braid_text.specs.declared.room.Which.TheVariants.{Resources, Versions, Elements, Deletions}
use Rattle.braid_store.specs.declared.entry.Entry.{Entry}
use Rattle.braid_store.specs.declared.place.Place.{Place}
use Rattle.braid_store.specs.declared.put.Put.TheVariants.{New}
use Rattle.braid_store.specs.Books.{same_path, of_path, paths_of, sum_of}
use Rattle.braid_store.specs.Answers.{IsPut}
use Rattle.braid_store.specs.Inside.{entry_at, entries_at, resources_of, ArePlaced, IsBook, KeepsBook}
use Rattle.braid_store.proofs.Paths.{same_itself, of_path_push, of_path_own, of_path_other, paths_push, paths_new, paths_there, paths_differ, listed_path}
use Rattle.braid_store.proofs.Counted.{elements_len, deletions_len, legal_book_more}

-- the entry at a place, by the path and the update that stand there
entry_of_parts : (B : List Entry) (place : Place) (p : List ℕ) (u : UpdateView) → slice_get (paths_of B) place.resource ≡ Some p → slice_get (of_path B p) place.number ≡ Some u → entry_at (resources_of B) place ≡ Some (record { path = p; by = place.by; update = u })
entry_of_parts B place p u h k =
    ap (option_and_then at) (slice_get-map (λ (q : List ℕ). (q, of_path B q)) (paths_of B) place.resource ∙ ap (option_map (λ (q : List ℕ). (q, of_path B q))) h)
    ∙ ap (option_map (λ (w : UpdateView). record { path = p; by = place.by; update = w })) k
  where
    at : List ℕ × List UpdateView → Option Entry
    at r = option_map (λ (w : UpdateView). record { path = r.0; by = place.by; update = w }) (slice_get r.1 place.number)

-- the path and the update of the entry at a place
record Parts (B : List Entry) (place : Place) (x : Entry) : Type 0 where
  path : slice_get (paths_of B) place.resource ≡ Some x.path
  update : slice_get (of_path B x.path) place.number ≡ Some x.update
  by : x.by ≡ place.by

parts_of : (B : List Entry) (place : Place) (x : Entry) → entry_at (resources_of B) place ≡ Some x → Parts B place x
parts_of B place x h = outer (slice_get (paths_of B) place.resource) refl (sym (ap (option_and_then at) (slice_get-map (λ (q : List ℕ). (q, of_path B q)) (paths_of B) place.resource)) ∙ h)
  where
    at : List ℕ × List UpdateView → Option Entry
    at r = option_map (λ (w : UpdateView). record { path = r.0; by = place.by; update = w }) (slice_get r.1 place.number)

    inner : (p : List ℕ) (o : Option UpdateView) → slice_get (paths_of B) place.resource ≡ Some p → slice_get (of_path B p) place.number ≡ o → option_map (λ (w : UpdateView). record { path = p; by = place.by; update = w }) o ≡ Some x → Parts B place x
    inner p None e f k = absurd (none-some x k)
    inner p (Some w) e f k = subst (Parts B place) (same_Some (record { path = p; by = place.by; update = w }) x k) (record { path = e; update = f; by = refl })

    outer : (o : Option (List ℕ)) → slice_get (paths_of B) place.resource ≡ o → option_and_then at (option_map (λ (q : List ℕ). (q, of_path B q)) (slice_get (paths_of B) place.resource)) ≡ Some x → Parts B place x
    outer None e k = absurd (none-some x (sym (ap (λ (o : Option (List ℕ)). option_and_then at (option_map (λ (q : List ℕ). (q, of_path B q)) o)) e) ∙ k))
    outer (Some p) e k = inner p (slice_get (of_path B p) place.number) e refl (sym (ap (λ (o : Option (List ℕ)). option_and_then at (option_map (λ (q : List ℕ). (q, of_path B q)) o)) e) ∙ k)

-- an entry stays at its place as the book grows
stays_at : (B : List Entry) (e : Entry) (place : Place) (x : Entry) → entry_at (resources_of B) place ≡ Some x → entry_at (resources_of (B ++ e ∷ [])) place ≡ Some x
stays_at B e place x h =
    let parts = parts_of B place x h in
    entry_of_parts (B ++ e ∷ []) place x.path x.update
    (ap (λ (ps : List (List ℕ)). slice_get ps place.resource) (paths_push B e) ∙ kept_place (paths_of B) _ place.resource x.path parts.path)
    (ap (λ (us : List UpdateView). slice_get us place.number) (of_path_push B e x.path) ∙ kept_place (of_path B x.path) _ place.number x.update parts.update)
    ∙ ap (λ (n : ℕ). Some (record { path = x.path; by = n; update = x.update })) (sym parts.by)

-- and so all of them do
record Stay (rs : List (List ℕ × List UpdateView)) (places : List Place) (B : List Entry) : Type 0 where
  placed : ArePlaced rs places
  same : entries_at rs places ≡ B

stay : (B : List Entry) (e : Entry) (places : List Place) → ArePlaced (resources_of B) places → Stay (resources_of (B ++ e ∷ [])) places (entries_at (resources_of B) places)
stay B e [] placed = record { placed = tt; same = refl }
stay B e (place ∷ places) placed = go (entry_at (resources_of B) place) refl placed.0 (stay B e places placed.1)
  where
    go : (o : Option Entry) → entry_at (resources_of B) place ≡ o → IsSome o → Stay (resources_of (B ++ e ∷ [])) places (entries_at (resources_of B) places) → Stay (resources_of (B ++ e ∷ [])) (place ∷ places) (cons_option o (entries_at (resources_of B) places))
    go None h some rest = absurd (true≢false (sym some))
    go (Some x) h some rest =
        let here = stays_at B e place x h in
        record {
          placed = (ap is_some here, rest.placed);
          same = ap (λ (o : Option Entry). cons_option o (entries_at (resources_of (B ++ e ∷ [])) places)) here ∙ ap (λ (es : List Entry). x ∷ es) rest.same;
        }

placed_push : (rs : List (List ℕ × List UpdateView)) (places : List Place) (place : Place) → ArePlaced rs places → IsSome (entry_at rs place) → ArePlaced rs (places ++ place ∷ [])
placed_push rs [] place h k = (k, tt)
placed_push rs (p ∷ places) place h k = (h.0, placed_push rs places place h.1 k)

-- as many entries as places
pub placed_len : (rs : List (List ℕ × List UpdateView)) (places : List Place) → ArePlaced rs places → length (entries_at rs places) ≡ length places
placed_len rs [] placed = refl
placed_len rs (place ∷ places) placed = go (entry_at rs place) placed.0 (placed_len rs places placed.1)
  where
    go : (o : Option Entry) → IsSome o → length (entries_at rs places) ≡ length places → length (cons_option o (entries_at rs places)) ≡ suc (length places)
    go None some h = absurd (true≢false (sym some))
    go (Some x) some h = ap suc h

-- a book that may grow stays a book
is_book_more : (B : List Entry) (e : Entry) → IsBook B → IsPut B e New → IsBook (B ++ e ∷ [])
is_book_more B e book put = record {
  legal = legal_book_more B e book.legal put;
  few_resources = put.1 Resources;
  few_versions = put.1 Versions;
  few_elements = put.1 Elements;
  few_deletions = put.1 Deletions;
}

-- this place is for the next entry
pub record IsPlaceFor (B : List Entry) (e : Entry) (place : Place) : Type 0 where
  pub path : slice_get (paths_of (B ++ e ∷ [])) place.resource ≡ Some e.path
  pub number : place.number ≡ length (of_path B e.path)
  pub by : place.by ≡ e.by

-- what is kept with one entry more
pub record Grows (rs : List (List ℕ × List UpdateView)) (places : List Place) (elements deletions : ℕ) (B : List Entry) : Type 0 where
  pub kept : KeepsBook rs places elements deletions
  pub entries : entries_at rs places ≡ B

slice_get_last : (xs : List UpdateView) (u : UpdateView) (n : ℕ) → n ≡ length xs → slice_get (xs ++ u ∷ []) n ≡ Some u
slice_get_last xs u n h = ap (slice_get (xs ++ u ∷ [])) h ∙ last xs
  where
    last : (ys : List UpdateView) → slice_get (ys ++ u ∷ []) (length ys) ≡ Some u
    last [] = refl
    last (y ∷ ys) = last ys

grows_on : (B : List Entry) (e : Entry) (places : List Place) (place : Place) (elements deletions : ℕ) → ArePlaced (resources_of B) places → entries_at (resources_of B) places ≡ B → IsBook B → IsPut B e New → IsPlaceFor B e place
    → elements ≡ sum_of elements_len (B ++ e ∷ []) → deletions ≡ sum_of deletions_len (B ++ e ∷ []) → Grows (resources_of (B ++ e ∷ [])) (places ++ place ∷ []) elements deletions (B ++ e ∷ [])
grows_on B e places place elements deletions placed whole book put at es ds = record {
  kept = record {
    placed = placed_push (resources_of (B ++ e ∷ [])) places place before.placed (ap is_some here);
    resources = ap resources_of (sym all);
    elements_sum = es ∙ ap (sum_of elements_len) (sym all);
    deletions_sum = ds ∙ ap (sum_of deletions_len) (sym all);
    book = subst IsBook (sym all) (is_book_more B e book put);
  };
  entries = all;
}
  where
    before : Stay (resources_of (B ++ e ∷ [])) places (entries_at (resources_of B) places)
    before = stay B e places placed

    here : entry_at (resources_of (B ++ e ∷ [])) place ≡ Some e
    here = entry_of_parts (B ++ e ∷ []) place e.path e.update at.path (ap (λ (us : List UpdateView). slice_get us place.number) (of_path_own B e) ∙ slice_get_last (of_path B e.path) e.update place.number at.number)
        ∙ ap (λ (n : ℕ). Some (record { path = e.path; by = n; update = e.update })) at.by

    all : entries_at (resources_of (B ++ e ∷ [])) (places ++ place ∷ []) ≡ B ++ e ∷ []
    all = filter_map-append (entry_at (resources_of (B ++ e ∷ []))) places (place ∷ []) ∙ ap (λ (es : List Entry). es ++ entries_at (resources_of (B ++ e ∷ [])) (place ∷ [])) (before.same ∙ whole) ∙ ap (λ (o : Option Entry). B ++ cons_option o []) here

pub grows : (rs new : List (List ℕ × List UpdateView)) (places : List Place) (elements deletions : ℕ) → KeepsBook rs places elements deletions → (e : Entry) (place : Place) (more_elements more_deletions : ℕ) → IsPut (entries_at rs places) e New → IsPlaceFor (entries_at rs places) e place
    → new ≡ resources_of (entries_at rs places ++ e ∷ []) → more_elements ≡ sum_of elements_len (entries_at rs places ++ e ∷ []) → more_deletions ≡ sum_of deletions_len (entries_at rs places ++ e ∷ []) → Grows new (places ++ place ∷ []) more_elements more_deletions (entries_at rs places ++ e ∷ [])
grows rs new places elements deletions k e place more_elements more_deletions put at is es ds =
    subst (λ (t : List (List ℕ × List UpdateView)). Grows t (places ++ place ∷ []) more_elements more_deletions (entries_at rs places ++ e ∷ [])) (sym is)
    (grows_on (entries_at rs places) e places place more_elements more_deletions (subst (λ (t : List (List ℕ × List UpdateView)). ArePlaced t places) k.resources k.placed) (ap (λ (t : List (List ℕ × List UpdateView)). entries_at t places) (sym k.resources)) k.book put at es ds)

-- a resource that took an update
not_later : (q : List ℕ) (ps : List (List ℕ)) → AllByRecursion (λ (p : List ℕ). same_path q p ≡ false) ps → Member q ps → ⊥
not_later q [] h m = m
not_later q (p ∷ ps) h (inl e) = true≢false (sym (same_itself q) ∙ subst (λ (r : List ℕ). same_path q r ≡ false) e h.0)
not_later q (p ∷ ps) h (inr m) = not_later q ps h.1 m

map_agrees : (f g : List ℕ → List UpdateView) (q : List ℕ) → ((p : List ℕ) → p ≢ q → g p ≡ f p) → (ps : List (List ℕ)) → (Member q ps → ⊥) → map {B = List ℕ × List UpdateView} (λ (p : List ℕ). (p, f p)) ps ≡ map {B = List ℕ × List UpdateView} (λ (p : List ℕ). (p, g p)) ps
map_agrees f g q same [] out = refl
map_agrees f g q same (p ∷ ps) out =
    ap (λ (us : List UpdateView). (p, us) ∷ map {B = List ℕ × List UpdateView} (λ (r : List ℕ). (r, f r)) ps) (sym (same p (λ d. out (inl d))))
    ∙ ap (λ (rs : List (List ℕ × List UpdateView)). (p, g p) ∷ rs) (map_agrees f g q same ps (λ m. out (inr m)))

set_at : (f g : List ℕ → List UpdateView) (q : List ℕ) → ((p : List ℕ) → p ≢ q → g p ≡ f p) → (ps : List (List ℕ)) (n : ℕ) → IsDistinct same_path ps → slice_get ps n ≡ Some q → set_value_at (map {B = List ℕ × List UpdateView} (λ (p : List ℕ). (p, f p)) ps) n (g q) ≡ map {B = List ℕ × List UpdateView} (λ (p : List ℕ). (p, g p)) ps
unfolding IsDistinct
set_at f g q same [] n d h = absurd (none-some q h)
set_at f g q same (p ∷ ps) zero d h =
    let here : p ≡ q = same_Some p q h in
    ap (λ (r : List ℕ). (p, g r) ∷ map {B = List ℕ × List UpdateView} (λ (r : List ℕ). (r, f r)) ps) (sym here)
    ∙ ap (λ (rs : List (List ℕ × List UpdateView)). (p, g p) ∷ rs) (map_agrees f g q same ps (not_later q ps (subst (λ (r : List ℕ). AllByRecursion (λ (s : List ℕ). same_path r s ≡ false) ps) here d.0)))
set_at f g q same (p ∷ ps) (suc n) d h =
    ap (λ (us : List UpdateView). (p, us) ∷ set_value_at (map {B = List ℕ × List UpdateView} (λ (r : List ℕ). (r, f r)) ps) n (g q)) (sym (same p (λ e. not_later p ps d.0 (subst (λ (r : List ℕ). Member r ps) (sym e) (member_at ps n q h)))))
    ∙ ap (λ (rs : List (List ℕ × List UpdateView)). (p, g p) ∷ rs) (set_at f g q same ps n d.1 h)

-- a path that stands at a place has an entry
pub there : (B : List Entry) (e : Entry) (n : ℕ) → slice_get (paths_of B) n ≡ Some e.path → of_path B e.path ≢ []
there B e n h = listed_path B e.path (member_contains (paths_of B) e.path (member_at (paths_of B) n e.path h))

pub resource_grown : (B : List Entry) (e : Entry) (n : ℕ) → slice_get (paths_of B) n ≡ Some e.path → set_value_at (resources_of B) n (of_path B e.path ++ e.update ∷ []) ≡ resources_of (B ++ e ∷ [])
resource_grown B e n h =
    ap (set_value_at (resources_of B) n) (sym (of_path_own B e))
    ∙ set_at (of_path B) (of_path (B ++ e ∷ [])) e.path (of_path_other B e) (paths_of B) n (paths_differ B) h
    ∙ ap (map {B = List ℕ × List UpdateView} (λ (p : List ℕ). (p, of_path (B ++ e ∷ []) p))) (sym (paths_there B e (there B e n h)))

-- a resource that was added
pub resource_added : (B : List Entry) (e : Entry) → of_path B e.path ≡ [] → resources_of B ++ (e.path, e.update ∷ []) ∷ [] ≡ resources_of (B ++ e ∷ [])
resource_added B e absent =
    ap (λ (rs : List (List ℕ × List UpdateView)). rs ++ (e.path, e.update ∷ []) ∷ []) (map_agrees (of_path B) (of_path (B ++ e ∷ [])) e.path (of_path_other B e) (paths_of B) out)
    ∙ ap (λ (us : List UpdateView). map {B = List ℕ × List UpdateView} (λ (p : List ℕ). (p, of_path (B ++ e ∷ []) p)) (paths_of B) ++ (e.path, us) ∷ []) (sym (of_path_own B e ∙ ap (λ (us : List UpdateView). us ++ e.update ∷ []) absent))
    ∙ sym (map-append (λ (p : List ℕ). (p, of_path (B ++ e ∷ []) p)) (paths_of B) (e.path ∷ []))
    ∙ ap (map {B = List ℕ × List UpdateView} (λ (p : List ℕ). (p, of_path (B ++ e ∷ []) p))) (sym (paths_new B e absent))
  where
    out : Member e.path (paths_of B) → ⊥
    out m = listed_path B e.path (member_contains (paths_of B) e.path m) absent

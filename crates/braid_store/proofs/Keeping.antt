-- What a book keeps, call by call.
use Rattle.std.proofs.Common.{◌≡◌, ◌≢◌, ℕ, ◌+◌, ◌-◌, ◌<◌, ◌≤◌, List, [], ◌∷◌, ◌++◌, Bool, cond, map, length, reverse, Some, None, refl, sym, ap, subst, ◌∙◌, arith, zero, suc, inr, Contains}
use Rattle.std.specs.List.{slice_get}
use Rattle.std.specs.Map.{lookup, values_of}
use Rattle.std.specs.Option.{option_map}
use Rattle.std.proofs.lemmas.List.{length-map}
use Rattle.std.proofs.lemmas.Option.{slice_get-map, slice_get_within, get_or_from_slice_get, slice_get-get_or, none-some, same_Some}
use Rattle.indexmap.specs.IndexMap.{set_value_at}
use Rattle.braid_ids.proofs.Members.{member_reverse, member_at, contains_member, slice_get_push}
use Rattle.braid_change.specs.Updates.{UpdateView}
use Rattle.braid_graph.specs.Entries.{GraphEntry, ids_of}
use Rattle.braid_text.specs.Histories.{IsLegal, graph_of, entry_of}
use Rattle.braid_text.specs.declared.room.Room.{Room}
use Rattle.braid_text.specs.declared.accept.Accept.TheVariants as accepts
use Rattle.braid_text.specs.Answers.{IsAnswer}
use Rattle.braid_text.proofs.Held.{one_update}
use Rattle.braid_store.specs.declared.entry.Entry.{Entry}
use Rattle.braid_store.specs.declared.place.Place.{Place}
use Rattle.braid_store.specs.declared.contents.Contents.{Contents}
use Rattle.braid_store.specs.declared.put.Put.{Put}
use Rattle.braid_store.specs.declared.put.Put.TheVariants.{New, Known, Memory}
use Rattle.braid_store.specs.Answers.{IsPut}
use Rattle.braid_store.specs.Books.{same_path, of_path, paths_of, sum_of}
use Rattle.braid_store.specs.Inside.{entries_at, entries_in, resources_of, IsBook, KeepsBook, IsKept, Puts, MayAdd, Adds, SameContents, room_beside}
use Rattle.braid_store.proofs.Paths.{absent_from_history, paths_new, paths_there}
use Rattle.braid_store.proofs.Sums.{sum_push}
use Rattle.braid_store.proofs.Found.{lookup_finds}
use Rattle.braid_store.proofs.Grown.{placed_len, there, resource_grown, resource_added, IsPlaceFor, Grows, grows}
use Rattle.braid_store.proofs.Counted.{elements_len, deletions_len, elements_added, deletions_added}
use Rattle.braid_store.proofs.Fitting.{none_contained, fits_by, below_from}

-- the update that has an identifier is the one that is sought, where the history holds that one
pub contained : (H : List UpdateView) (n : ℕ) (held u : UpdateView) → slice_get H n ≡ Some held → held ≡ u → Contains H u
contained H n held u h e = subst (Contains H) e (n, slice_get_within H n held h, get_or_from_slice_get H n held held h)

pub same_held : (H : List UpdateView) → IsLegal H → (n : ℕ) (v : List ℕ) (held u : UpdateView) → slice_get (ids_of (graph_of H)) n ≡ Some v → v ≡ u.id → slice_get H n ≡ Some held → Contains H u → held ≡ u
same_held H legal n v held u named e h c = one_update (reverse H) legal held u (member_reverse H held (member_at H n held h)) (member_reverse H u (contains_member H u c)) (same_Some held.id v (sym at ∙ named) ∙ e)
  where
    at : slice_get (ids_of (graph_of H)) n ≡ Some held.id
    at = slice_get-map (λ (x : GraphEntry). x.id) (graph_of H) n ∙ ap (option_map (λ (x : GraphEntry). x.id)) (slice_get-map entry_of H n ∙ ap (option_map entry_of) h)

pub named_there : (H : List UpdateView) (n : ℕ) (v : List ℕ) → slice_get (ids_of (graph_of H)) n ≡ Some v → slice_get H n ≡ None → ⊥
named_there H n v named h = none-some v (sym (slice_get-map (λ (x : GraphEntry). x.id) (graph_of H) n ∙ ap (option_map (λ (x : GraphEntry). x.id)) (slice_get-map entry_of H n ∙ ap (option_map entry_of) h)) ∙ named)

-- a write of what stands at a place changes nothing
pub set_same : (rs : List (List ℕ × List UpdateView)) (n : ℕ) (H : List UpdateView) → slice_get (values_of rs) n ≡ Some H → set_value_at rs n H ≡ rs
set_same [] n H h = refl
set_same (r ∷ rs) zero H h = ap (λ (us : List UpdateView). (r.0, us) ∷ rs) (sym (same_Some r.1 H h))
set_same (r ∷ rs) (suc n) H h = ap (λ (t : List (List ℕ × List UpdateView)). r ∷ t) (set_same rs n H h)

-- the versions are as many as the places
pub versions_len : (rs : List (List ℕ × List UpdateView)) (places : List Place) (elements deletions : ℕ) → KeepsBook rs places elements deletions → length (entries_at rs places) ≡ length places
versions_len rs places elements deletions k = placed_len rs places k.placed

pub room_is : (v es ds : ℕ) (B : List Entry) → length B ≡ v → es ≡ sum_of elements_len B → ds ≡ sum_of deletions_len B → (let room : Room = record { versions = 262_144 - v; elements = 16_777_216 - es; deletions = 33_554_432 - ds; width = 1_000 } in room) ≡ room_beside B
room_is v es ds B p q r = λ k. record { versions = 262_144 - sym p k; elements = 16_777_216 - q k; deletions = 33_554_432 - r k; width = 1_000 }

-- the sums with the first entry of a path
pub sum_first : (number : List UpdateView → ℕ) → number [] ≡ 0 → (B : List Entry) (e : Entry) → of_path B e.path ≡ [] → (n : ℕ) → n ≡ number (e.update ∷ []) → (total : ℕ) → total ≡ sum_of number B → total + n ≡ sum_of number (B ++ e ∷ [])
sum_first number none_of B e absent n h total t =
    let sums = sum_push number none_of B e in
    let none : number (of_path B e.path) ≡ 0 = ap number absent ∙ none_of in
    let one : number (of_path B e.path ++ e.update ∷ []) ≡ number (e.update ∷ []) = ap (λ (us : List UpdateView). number (us ++ e.update ∷ [])) absent in
    omega (arith, sums, none, one, h, t)

-- and with a later one
pub sum_later : (number : List UpdateView → ℕ) → number [] ≡ 0 → (B : List Entry) (e : Entry) (before after total : ℕ) → before ≡ number (of_path B e.path) → after ≡ number (of_path B e.path ++ e.update ∷ []) → before ≤ after → total ≡ sum_of number B → total + (after - before) ≡ sum_of number (B ++ e ∷ [])
sum_later number none_of B e before after total b a l t = let sums = sum_push number none_of B e in omega (arith, sums, b, a, l, t)

-- a path without an entry is found by no look-up
pub lookup_none : (rs : List (List ℕ × List UpdateView)) (B : List Entry) (p : List ℕ) → rs ≡ resources_of B → of_path B p ≡ [] → lookup (same_path p) rs ≡ None
lookup_none rs B p e absent = ap (lookup (same_path p)) e ∙ lookup_finds B p ∙ ap (λ (b : Bool). cond b (Some (of_path B p)) None) (absent_from_history B p absent)

-- a resource with its first update
abbrev pub first_entry : List ℕ → ℕ → UpdateView → Entry
first_entry path by u = record { path = path; by = by; update = u }

pub adds_first : (rs new : List (List ℕ × List UpdateView)) (places more : List Place) (elements deletions : ℕ) → KeepsBook rs places elements deletions → (path : List ℕ) (by : ℕ) (us : List UpdateView) → of_path (entries_at rs places) path ≡ []
    → (u : UpdateView) → us ≡ u ∷ [] → IsPut (entries_at rs places) (first_entry path by u) New → (n es ds : ℕ) → n ≡ length rs → more ≡ places ++ (record { resource = n; number = 0; by = by }) ∷ [] → new ≡ rs ++ (path, us) ∷ []
    → es ≡ elements_len us → ds ≡ deletions_len us → Grows new more (elements + es) (deletions + ds) (entries_at rs places ++ first_entry path by u ∷ [])
adds_first rs new places more elements deletions k path by us absent u one put n es ds at push is e d =
    subst (λ (t : List Place). Grows new t (elements + es) (deletions + ds) (B ++ entry ∷ [])) (sym push)
    (grows rs new places elements deletions k entry place (elements + es) (deletions + ds) put fits resources
    (sum_first elements_len refl B entry absent es (e ∙ ap elements_len one) elements k.elements_sum)
    (sum_first deletions_len refl B entry absent ds (d ∙ ap deletions_len one) deletions k.deletions_sum))
  where
    B : List Entry
    B = entries_at rs places

    entry : Entry
    entry = first_entry path by u

    place : Place
    place = record { resource = n; number = 0; by = by }

    number_of_paths : n ≡ length (paths_of B)
    number_of_paths = at ∙ ap length k.resources ∙ length-map (paths_of B) _

    fits : IsPlaceFor B entry place
    fits = record {
      path = ap (λ (ps : List (List ℕ)). slice_get ps n) (paths_new B entry absent) ∙ ap (slice_get (paths_of B ++ path ∷ [])) number_of_paths ∙ slice_get_push (paths_of B) path;
      number = sym (ap length absent);
      by = refl;
    }

    resources : new ≡ resources_of (B ++ entry ∷ [])
    resources = is ∙ ap (λ (t : List (List ℕ × List UpdateView)). t ++ (path, us) ∷ []) k.resources ∙ ap (λ (t : List UpdateView). resources_of B ++ (path, t) ∷ []) one ∙ resource_added B entry absent

-- a resource with one update more
pub adds_later : (rs new : List (List ℕ × List UpdateView)) (places more : List Place) (elements deletions : ℕ) → KeepsBook rs places elements deletions → (e : Entry) → IsPut (entries_at rs places) e New
    → (n : ℕ) → slice_get (paths_of (entries_at rs places)) n ≡ Some e.path → (count es ds : ℕ) → count ≡ length (of_path (entries_at rs places) e.path) → more ≡ places ++ (record { resource = n; number = count; by = e.by }) ∷ []
    → (us : List UpdateView) → us ≡ of_path (entries_at rs places) e.path ++ e.update ∷ [] → new ≡ set_value_at rs n us → es ≡ sum_of elements_len (entries_at rs places ++ e ∷ []) → ds ≡ sum_of deletions_len (entries_at rs places ++ e ∷ [])
    → Grows new more es ds (entries_at rs places ++ e ∷ [])
adds_later rs new places more elements deletions k e put n at count es ds counted push us one is s d =
    subst (λ (t : List Place). Grows new t es ds (B ++ e ∷ [])) (sym push) (grows rs new places elements deletions k e place es ds put fits resources s d)
  where
    B : List Entry
    B = entries_at rs places

    place : Place
    place = record { resource = n; number = count; by = e.by }

    fits : IsPlaceFor B e place
    fits = record {
      path = ap (λ (ps : List (List ℕ)). slice_get ps n) (paths_there B e (there B e n at)) ∙ at;
      number = counted;
      by = refl;
    }

    resources : new ≡ resources_of (B ++ e ∷ [])
    resources = is ∙ ap (λ (t : List (List ℕ × List UpdateView)). set_value_at t n us) k.resources ∙ ap (set_value_at (resources_of B) n) one ∙ resource_grown B e n at

-- the history that stands at a number
pub history_at : (rs : List (List ℕ × List UpdateView)) (B : List Entry) (n : ℕ) (path : List ℕ) (H : List UpdateView) → rs ≡ resources_of B → slice_get (paths_of B) n ≡ Some path → slice_get (values_of rs) n ≡ Some H → H ≡ of_path B path
history_at rs B n path H e at h = same_Some H (of_path B path) (sym h ∙ ap (λ (t : List (List ℕ × List UpdateView)). slice_get (values_of t) n) e ∙ ap (λ (t : List (List UpdateView)). slice_get t n) (values (paths_of B)) ∙ slice_get-map (of_path B) (paths_of B) n ∙ ap (option_map (of_path B)) at)
  where
    values : (ps : List (List ℕ)) → values_of (map {B = List ℕ × List UpdateView} (λ (p : List ℕ). (p, of_path B p)) ps) ≡ map (of_path B) ps
    values [] = refl
    values (p ∷ ps) = ap (λ (t : List (List UpdateView)). of_path B p ∷ t) (values ps)

-- what an answer other than New leaves
pub put_refused : (old new : Contents) (e : Entry) (a : Put) → IsKept old → SameContents old new → IsPut (entries_in old) e a → (Contains (of_path (entries_in old) e.path) e.update → a ≡ Known) → a ≢ New → Puts old new e a
put_refused old new e a k same is known other = record {
  answer = is;
  taken = λ h. absurd (other h);
  same = λ h. same_entries;
  known = known;
  kept = kept_same;
}
  where
    same_entries : entries_in new ≡ entries_in old
    same_entries = λ j. entries_at (same.resources j) (same.places j)

    kept_same : IsKept new
    kept_same =
        subst (λ (rs : List (List ℕ × List UpdateView)). KeepsBook rs new.places.items new.elements new.deletions) (sym same.resources)
        (subst (λ (places : List Place). KeepsBook old.resources.entries places new.elements new.deletions) (sym same.places)
        (subst (λ (es : ℕ). KeepsBook old.resources.entries old.places.items es new.deletions) (sym same.elements)
        (subst (λ (ds : ℕ). KeepsBook old.resources.entries old.places.items old.elements ds) (sym same.deletions) k)))

-- what New leaves
pub put_new : (old new : Contents) (e : Entry) → IsPut (entries_in old) e New → ¬ (Contains (of_path (entries_in old) e.path) e.update) → Grows new.resources.entries new.places.items new.elements new.deletions (entries_in old ++ e ∷ []) → Puts old new e New
put_new old new e is fresh grown = record {
  answer = is;
  taken = λ h. grown.entries;
  same = λ h. absurd (h refl);
  known = λ h. absurd (fresh h);
  kept = grown.kept;
}

pub same_head : (u w : UpdateView) → u ∷ [] ≡ w ∷ [] → u ≡ w
same_head u w h = cc

-- there is a history at each number of a path
pub history_there : (rs : List (List ℕ × List UpdateView)) (B : List Entry) (n : ℕ) (H : List UpdateView) → rs ≡ resources_of B → n < length (paths_of B) → slice_get (values_of rs) n ≡ Some H → (p : List ℕ) × (slice_get (paths_of B) n ≡ Some p) × (H ≡ of_path B p)
history_there rs B n H e l h = let at = slice_get-get_or (paths_of B) n [] l in (_, at, history_at rs B n _ H e at h)

-- nothing changed
pub same_contents : (c : Contents) → SameContents c c
same_contents c = record { resources = refl; places = refl; elements = refl; deletions = refl }

-- contents with the same entries
pub entries_same : (old new : Contents) → SameContents old new → entries_in new ≡ entries_in old
entries_same old new same = λ j. entries_at (same.resources j) (same.places j)

-- the first update of a path may be added, and leaves what New leaves
pub may_add : (old new : Contents) (path key : List ℕ) (by : ℕ) (u : UpdateView) (us : List UpdateView) → SameContents old new → key ≡ path → us ≡ u ∷ [] → IsPut (entries_in old) (first_entry path by u) New → MayAdd new key by us
may_add old new path key by u us same is one put =
    (u, one, subst (λ (k : List ℕ). IsPut (entries_in new) (first_entry k by u) New) (sym is) (subst (λ (B : List Entry). IsPut B (first_entry path by u) New) (sym (entries_same old new same)) put))

pub put_first_new : (old middle new : Contents) (path key : List ℕ) (by : ℕ) (u : UpdateView) (us : List UpdateView) → SameContents old middle → key ≡ path → us ≡ u ∷ [] → IsPut (entries_in old) (first_entry path by u) New → of_path (entries_in old) path ≡ []
    → Adds middle new key by us → IsKept new → Puts old new (first_entry path by u) New
put_first_new old middle new path key by u us same is one put absent adds kept = record {
  answer = put;
  taken = λ h. adds u one ∙ ap (λ (B : List Entry). B ++ first_entry key by u ∷ []) (entries_same old middle same) ∙ ap (λ (k : List ℕ). entries_in old ++ first_entry k by u ∷ []) is;
  same = λ h. absurd (h refl);
  known = λ h. absurd (none_contained (of_path (entries_in old) path) u absent h);
  kept = kept;
}

pub memory_other : Memory ≡ New → ⊥
memory_other h = cc

-- the answer New of an empty resource, where there is room for one more
pub new_fits : (B : List Entry) (path : List ℕ) (by : ℕ) (u : UpdateView) → IsBook B → of_path B path ≡ [] → (4_096 ≤ length (paths_of B) → ⊥) → (room : Room) (H : List UpdateView) → room ≡ room_beside B → H ≡ [] → IsAnswer room H u accepts.New → IsPut B (first_entry path by u) New
new_fits B path by u book absent less room H r h is = fits_by B (first_entry path by u) book (inr (absent, below_from (length (paths_of B)) less)) room H r (h ∙ sym absent) accepts.New is

-- the totals with a later update
pub elements_later : (B : List Entry) (e : Entry) (H us : List UpdateView) → H ≡ of_path B e.path → us ≡ of_path B e.path ++ e.update ∷ [] → (before after total : ℕ) → before ≡ elements_len H → after ≡ elements_len us → total ≡ sum_of elements_len B → total + (after - before) ≡ sum_of elements_len (B ++ e ∷ [])
elements_later B e H us h one before after total b a t =
    let was = b ∙ ap elements_len h in
    let is = a ∙ ap elements_len one in
    let added = elements_added (of_path B e.path) e.update in
    sum_later elements_len refl B e before after total was is (omega (arith, was, is, added)) t

pub deletions_later : (B : List Entry) (e : Entry) (H us : List UpdateView) → H ≡ of_path B e.path → us ≡ of_path B e.path ++ e.update ∷ [] → (before after total : ℕ) → before ≡ deletions_len H → after ≡ deletions_len us → total ≡ sum_of deletions_len B → total + (after - before) ≡ sum_of deletions_len (B ++ e ∷ [])
deletions_later B e H us h one before after total b a t =
    let was = b ∙ ap deletions_len h in
    let is = a ∙ ap deletions_len one in
    let added = deletions_added (of_path B e.path) e.update in
    sum_later deletions_len refl B e before after total was is (omega (arith, was, is, added)) t

-- What a resource answers with the room that the limits leave beside a book, as the book's answer.
use Rattle.std.proofs.Common.{◌≡◌, ◌≢◌, ℕ, ◌+◌, ◌<◌, ◌≤◌, List, [], ◌∷◌, ◌++◌, length, refl, sym, subst, arith, inl, inr, ◌⊎◌}
use Rattle.std.specs.List.{Contains}
use Rattle.std.proofs.lemmas.Bool.{cases_lt}
use Rattle.braid_change.specs.Updates.{UpdateView}
use Rattle.braid_text.specs.Histories.{MayFollow, elements_of, deletions_of}
use Rattle.braid_text.specs.declared.room.Room.{Room}
use Rattle.braid_text.specs.declared.room.Which.{Which}
use Rattle.braid_text.specs.declared.room.Which.TheVariants.{Resources, Versions, Elements, Deletions, Width}
use Rattle.braid_text.specs.declared.accept.Accept.{Accept}
use Rattle.braid_text.specs.declared.accept.Accept.TheVariants as accepts
use Rattle.braid_text.specs.Answers.{needs_of, HasRoom, IsOver, IsAnswer}
use Rattle.braid_store.specs.declared.entry.Entry.{Entry}
use Rattle.braid_store.specs.declared.put.Put.TheVariants.{New, Full}
use Rattle.braid_store.specs.Books.{counts_at, of_path, paths_of}
use Rattle.braid_store.specs.Answers.{limit_of, count_of, place_of, IsWithin, IsFirstOver, IsPut, refused_as, refused_when_full}
use Rattle.braid_store.specs.Inside.{IsBook, room_beside}
use Rattle.braid_store.proofs.Counted.{resources_new, resources_same, versions_grow, elements_grow, deletions_grow, width_grows, history_within, elements_len, deletions_len}
use Rattle.braid_store.proofs.Sums.{one_of_sum_of}

-- the path has a resource, or there is room for one more
abbrev pub HasPlace : List Entry → List ℕ → Type 0
HasPlace B p = (of_path B p ≢ []) ⊎ ((of_path B p ≡ []) × (length (paths_of B) < 4_096))

module _ (B : List Entry) (e : Entry) (book : IsBook B) (place : HasPlace B e.path) where
  few_resources : count_of (counts_at (B ++ e ∷ []) e.path) Resources ≤ 4_096
  few_resources = go place
    where
      go : HasPlace B e.path → length (paths_of (B ++ e ∷ [])) ≤ 4_096
      go (inl d) = let same = resources_same B e d in let few = book.few_resources in omega (arith, same, few)
      go (inr n) = let more = resources_new B e n.0 in let few = n.1 in omega (arith, more, few)

  pub within : HasRoom (needs_of (of_path B e.path) e.update) (room_beside B) → IsWithin (counts_at (B ++ e ∷ []) e.path)
  within room = go
    where
      go : (which : Which) → count_of (counts_at (B ++ e ∷ []) e.path) which ≤ limit_of which
      go Resources = few_resources
      go Versions = let grown = versions_grow B e in let few = book.few_versions in let r = room.versions in omega (arith, grown, few, r)
      go Elements = let grown = elements_grow B e in let few = book.few_elements in let r = room.elements in omega (arith, grown, few, r)
      go Deletions = let grown = deletions_grow B e in let few = book.few_deletions in let r = room.deletions in omega (arith, grown, few, r)
      go Width = let grown = width_grows B e in let r = room.width in omega (arith, grown, r)

  pub over : (which : Which) (need left : ℕ) → IsOver (needs_of (of_path B e.path) e.update) (room_beside B) which need left → IsFirstOver (counts_at (B ++ e ∷ []) e.path) which
  over Resources need left h = absurd h
  over Versions need left (n, l, o) = record { over = (let grown = versions_grow B e in let few = book.few_versions in omega (arith, grown, few, n, l, o)); first = go }
    where
      go : (earlier : Which) → place_of earlier < 1 → count_of (counts_at (B ++ e ∷ []) e.path) earlier ≤ limit_of earlier
      go Resources k = few_resources
      go Versions k = absurd (omega (arith, k))
      go Elements k = absurd (omega (arith, k))
      go Deletions k = absurd (omega (arith, k))
      go Width k = absurd (omega (arith, k))
  over Elements need left (v, n, l, o) = record { over = (let grown = elements_grow B e in let few = book.few_elements in omega (arith, grown, few, n, l, o)); first = go }
    where
      go : (earlier : Which) → place_of earlier < 2 → count_of (counts_at (B ++ e ∷ []) e.path) earlier ≤ limit_of earlier
      go Resources k = few_resources
      go Versions k = let grown = versions_grow B e in let few = book.few_versions in omega (arith, grown, few, v)
      go Elements k = absurd (omega (arith, k))
      go Deletions k = absurd (omega (arith, k))
      go Width k = absurd (omega (arith, k))
  over Deletions need left (v, i, n, l, o) = record { over = (let grown = deletions_grow B e in let few = book.few_deletions in omega (arith, grown, few, n, l, o)); first = go }
    where
      go : (earlier : Which) → place_of earlier < 3 → count_of (counts_at (B ++ e ∷ []) e.path) earlier ≤ limit_of earlier
      go Resources k = few_resources
      go Versions k = let grown = versions_grow B e in let few = book.few_versions in omega (arith, grown, few, v)
      go Elements k = let grown = elements_grow B e in let few = book.few_elements in omega (arith, grown, few, i)
      go Deletions k = absurd (omega (arith, k))
      go Width k = absurd (omega (arith, k))
  over Width need left (v, i, d, n, l, o) = record { over = (let grown = width_grows B e in omega (arith, grown, n, l, o)); first = go }
    where
      go : (earlier : Which) → place_of earlier < 4 → count_of (counts_at (B ++ e ∷ []) e.path) earlier ≤ limit_of earlier
      go Resources k = few_resources
      go Versions k = let grown = versions_grow B e in let few = book.few_versions in omega (arith, grown, few, v)
      go Elements k = let grown = elements_grow B e in let few = book.few_elements in omega (arith, grown, few, i)
      go Deletions k = let grown = deletions_grow B e in let few = book.few_deletions in omega (arith, grown, few, d)
      go Width k = absurd (omega (arith, k))

  pub answer_fits : (a : Accept) → IsAnswer (room_beside B) (of_path B e.path) e.update a → IsPut B e (refused_as a)
  answer_fits accepts.New is = (is.0, within is.1)
  answer_fits accepts.Known is = is
  answer_fits (accepts.Clash v) is = is
  answer_fits (accepts.UnknownParent v) is = is
  answer_fits (accepts.OutOfRange patch len) is = is
  answer_fits (accepts.Full which need left) is = (is.0, over which need left is.1, refl)
  answer_fits accepts.Memory is = is

-- no resource more where there are 4,096
pub no_resource : (B : List Entry) (e : Entry) → of_path B e.path ≡ [] → 4_096 ≤ length (paths_of B) → MayFollow (of_path B e.path) e.update → IsPut B e (Full Resources 4_096)
no_resource B e absent full follows = (follows, record { over = (let more = resources_new B e absent in omega (arith, more, full)); first = λ earlier k. absurd (omega (arith, k)) }, refl)

-- the same, by what the code knows of the room and of the history
pub fits_by : (B : List Entry) (e : Entry) → IsBook B → HasPlace B e.path → (room : Room) (H : List UpdateView) → room ≡ room_beside B → H ≡ of_path B e.path → (a : Accept) → IsAnswer room H e.update a → IsPut B e (refused_as a)
fits_by B e book place room H r h a is = answer_fits B e book place a (subst (λ (K : List UpdateView). IsAnswer (room_beside B) K e.update a) h (subst (λ (t : Room). IsAnswer t H e.update a) r is))

-- there is room for what the limits leave beside a book in each of its resources
pub record FitsResource (H : List UpdateView) (room : Room) : Type 0 where
  pub versions : length H + room.versions ≤ 524_288
  pub elements : length (elements_of H) + room.elements ≤ 33_554_432
  pub deletions : length (deletions_of H) + room.deletions ≤ 67_108_864

pub fits_resource : (B : List Entry) (p : List ℕ) (room : Room) (H : List UpdateView) → IsBook B → room ≡ room_beside B → H ≡ of_path B p → FitsResource H room
fits_resource B p room H book r h = subst (λ (t : Room). FitsResource H t) (sym r) (subst (λ (K : List UpdateView). FitsResource K (room_beside B)) (sym h) (record {
  versions = (let few = book.few_versions in let part = history_within B p in omega (arith, few, part));
  elements = (let few = book.few_elements in let part = one_of_sum_of elements_len refl B p in omega (arith, few, part));
  deletions = (let few = book.few_deletions in let part = one_of_sum_of deletions_len refl B p in omega (arith, few, part));
}))

-- what has no entry has no update
pub none_contained : (H : List UpdateView) (u : UpdateView) → H ≡ [] → Contains H u → ⊥
none_contained H u e c = let m = subst (λ (K : List UpdateView). Contains K u) e c in let l = m.1 in omega (arith, l)

-- and where there are as many resources as there may be
pub full_fits_by : (B : List Entry) (e : Entry) → of_path B e.path ≡ [] → 4_096 ≤ length (paths_of B) → (room : Room) (H : List UpdateView) → H ≡ of_path B e.path → (a : Accept) → IsAnswer room H e.update a → IsPut B e (refused_when_full a)
full_fits_by B e absent full room H h a is = go a (subst (λ (K : List UpdateView). IsAnswer room K e.update a) h is)
  where
    go : (b : Accept) → IsAnswer room (of_path B e.path) e.update b → IsPut B e (refused_when_full b)
    go accepts.New is = no_resource B e absent full is.0
    go accepts.Known is = is
    go (accepts.Clash v) is = is
    go (accepts.UnknownParent v) is = is
    go (accepts.OutOfRange patch len) is = is
    go (accepts.Full which need left) is = no_resource B e absent full is.0
    go accepts.Memory is = is

-- no refusal is New
pub when_full_other : (a : Accept) → refused_when_full a ≡ New → ⊥
when_full_other accepts.New h = cc
when_full_other accepts.Known h = cc
when_full_other (accepts.Clash v) h = cc
when_full_other (accepts.UnknownParent v) h = cc
when_full_other (accepts.OutOfRange patch len) h = cc
when_full_other (accepts.Full which need left) h = cc
when_full_other accepts.Memory h = cc

pub refused_other : (a : Accept) → a ≢ accepts.New → refused_as a ≡ New → ⊥
refused_other accepts.New d h = d refl
refused_other accepts.Known d h = cc
refused_other (accepts.Clash v) d h = cc
refused_other (accepts.UnknownParent v) d h = cc
refused_other (accepts.OutOfRange patch len) d h = cc
refused_other (accepts.Full which need left) d h = cc
refused_other accepts.Memory d h = cc

-- where there are not as many resources as there may be, there is room for one more
pub below_from : (n : ℕ) → (4_096 ≤ n → ⊥) → n < 4_096
below_from n d = elim (cases_lt n 4_096) [ inl l ↦ l | inr m ↦ absurd (d m) ]

-- What the tests on identifiers and versions say.
use Rattle.std.proofs.Common.{◌≡◌, ℕ, List, [], ◌∷◌, Bool, true, false, refl, sym, subst, inl, inr, ◌∙◌, ap}
use Rattle.std.specs.Ordering.{is_eq}
use Rattle.braid_ids.specs.Identifiers.{id_cmp}
use Rattle.braid_tree.specs.Keys.{Key}
use Rattle.braid_text.specs.Versions.{Version, has_version, deletes, version_in, versions_in}
use Rattle.braid_graph.specs.Entries.{has_id, Holds, HoldsAll, ids_of}
use Rattle.braid_rebase.specs.Additions.{has_key}
use Rattle.braid_tree.specs.Trees.{Member}
use Rattle.braid_rebase.proofs.KeyTests.{or_cases, or_left, or_right}
use Rattle.braid_tree.proofs.Keys.{eq_itself, eq_true, ids_strict}
use Rattle.braid_rebase.proofs.Members.{contains_member, member_contains}
use Rattle.braid_change.specs.Updates.{UpdateView}
use Rattle.braid_text.specs.Histories.{Follows, IsLegalLog, graph_of}

pub id_member : (v : List ℕ) (F : List (List ℕ)) → has_id v F ≡ true → Member v F
id_member v [] h = cc
id_member v (w ∷ F) h = elim (or_cases (is_eq (id_cmp v w)) (has_id v F) h) [
  | inl e ↦ inl (sym (eq_true id_cmp ids_strict v w e))
  | inr t ↦ inr (id_member v F t)
]

pub member_id : (v : List ℕ) (F : List (List ℕ)) → Member v F → has_id v F ≡ true
member_id v [] m = absurd m
member_id v (w ∷ F) (inl e) = or_left (is_eq (id_cmp v w)) (has_id v F) (subst (λ (t : List ℕ). is_eq (id_cmp v t) ≡ true) (sym e) (eq_itself id_cmp ids_strict v))
member_id v (w ∷ F) (inr m) = or_right (is_eq (id_cmp v w)) (has_id v F) (member_id v F m)

pub version_member : (i : List ℕ) (vs : List Version) → has_version i vs ≡ true → (v : Version) × Member v vs × (v.id ≡ i)
version_member i [] h = cc
version_member i (v ∷ vs) h = elim (or_cases (is_eq (id_cmp i v.id)) (has_version i vs) h) [
  | inl e ↦ (v, inl refl, sym (eq_true id_cmp ids_strict i v.id e))
  | inr t ↦ wider (version_member i vs t)
]
  where
    wider : (w : Version) × Member w vs × (w.id ≡ i) → (w : Version) × Member w (v ∷ vs) × (w.id ≡ i)
    wider (w, m, e) = (w, inr m, e)

pub member_version : (v : Version) (vs : List Version) → Member v vs → has_version v.id vs ≡ true
member_version v [] m = absurd m
member_version v (w ∷ vs) (inl e) = or_left (is_eq (id_cmp v.id w.id)) (has_version v.id vs) (subst (λ (t : Version). is_eq (id_cmp v.id t.id) ≡ true) (sym e) (eq_itself id_cmp ids_strict v.id))
member_version v (w ∷ vs) (inr m) = or_right (is_eq (id_cmp v.id w.id)) (has_version v.id vs) (member_version v vs m)

pub deletes_member : (k : Key) (vs : List Version) → deletes k vs ≡ true → (v : Version) × Member v vs × (has_key k v.deleted ≡ true)
deletes_member k [] h = cc
deletes_member k (v ∷ vs) h = elim (or_cases (has_key k v.deleted) (deletes k vs) h) [
  | inl e ↦ (v, inl refl, e)
  | inr t ↦ wider (deletes_member k vs t)
]
  where
    wider : (w : Version) × Member w vs × (has_key k w.deleted ≡ true) → (w : Version) × Member w (v ∷ vs) × (has_key k w.deleted ≡ true)
    wider (w, m, e) = (w, inr m, e)

pub member_deletes : (k : Key) (v : Version) (vs : List Version) → Member v vs → has_key k v.deleted ≡ true → deletes k vs ≡ true
member_deletes k v [] m h = absurd m
member_deletes k v (w ∷ vs) (inl e) h = or_left (has_key k w.deleted) (deletes k vs) (subst (λ (t : Version). has_key k t.deleted ≡ true) (sym e) h)
member_deletes k v (w ∷ vs) (inr m) h = or_right (has_key k w.deleted) (deletes k vs) (member_deletes k v vs m h)

-- what a list of updates holds, its versions have, and the other way round
pub held_version : (us : List UpdateView) (i : List ℕ) → Member i (ids_of (graph_of us)) → has_version i (versions_in us) ≡ true
held_version [] i m = absurd m
held_version (u ∷ us) i (inl e) = or_left (is_eq (id_cmp i u.id)) (has_version i (versions_in us)) (subst (λ (t : List ℕ). is_eq (id_cmp i t) ≡ true) (sym e) (eq_itself id_cmp ids_strict i))
held_version (u ∷ us) i (inr m) = or_right (is_eq (id_cmp i u.id)) (has_version i (versions_in us)) (held_version us i m)

pub version_held : (us : List UpdateView) (i : List ℕ) → has_version i (versions_in us) ≡ true → Member i (ids_of (graph_of us))
version_held [] i h = cc
version_held (u ∷ us) i h = elim (or_cases (is_eq (id_cmp i u.id)) (has_version i (versions_in us)) h) [
  | inl e ↦ inl (sym (eq_true id_cmp ids_strict i u.id e))
  | inr t ↦ inr (version_held us i t)
]

pub holds_version : (us : List UpdateView) (i : List ℕ) → Holds (graph_of us) i → has_version i (versions_in us) ≡ true
holds_version us i c = held_version us i (contains_member (ids_of (graph_of us)) i c)

pub version_holds : (us : List UpdateView) (i : List ℕ) → has_version i (versions_in us) ≡ true → Holds (graph_of us) i
version_holds us i h = member_contains (ids_of (graph_of us)) i (version_held us i h)

-- the identifier of an update that may follow is new, and its parents are there
pub new_in : (us : List UpdateView) (u : UpdateView) → Follows us u → has_version u.id (versions_in us) ≡ false
new_in us u follows = go (has_version u.id (versions_in us)) refl
  where
    go : (b : Bool) → has_version u.id (versions_in us) ≡ b → b ≡ false
    go true e = absurd (follows.new (version_holds us u.id e))
    go false e = refl

-- each of these identifiers is a version's
abbrev pub AllHeld : List Version → List (List ℕ) → Type 0
AllHeld vs F = (i : List ℕ) → Member i F → has_version i vs ≡ true

pub holds_all : (us : List UpdateView) (F : List (List ℕ)) → HoldsAll (graph_of us) F → AllHeld (versions_in us) F
holds_all us F held i m = holds_version us i (held i (member_contains F i m))

pub parents_in : (us : List UpdateView) (u : UpdateView) → Follows us u → AllHeld (versions_in us) u.parents
parents_in us u follows = holds_all us u.parents follows.parents_held

pub has_version_more : (i : List ℕ) (v : Version) (vs : List Version) → has_version i vs ≡ true → has_version i (v ∷ vs) ≡ true
has_version_more i v vs h = more (version_member i vs h)
  where
    more : (w : Version) × Member w vs × (w.id ≡ i) → has_version i (v ∷ vs) ≡ true
    more (w, m, e) = subst (λ (t : List ℕ). has_version t (v ∷ vs) ≡ true) e (member_version w (v ∷ vs) (inr m))

-- an update of a log has its version
pub update_version : (us : List UpdateView) (u : UpdateView) → Member u us → has_version u.id (versions_in us) ≡ true
update_version [] u m = absurd m
update_version (w ∷ us) u (inl e) = subst (λ (t : UpdateView). has_version t.id (versions_in (w ∷ us)) ≡ true) e (member_version (version_in w (versions_in us)) (versions_in (w ∷ us)) (inl refl))
update_version (w ∷ us) u (inr m) = has_version_more u.id (version_in w (versions_in us)) (versions_in us) (update_version us u m)

-- updates of a legal log differ in their identifiers
pub one_update : (us : List UpdateView) → IsLegalLog us → (a b : UpdateView) → Member a us → Member b us → a.id ≡ b.id → a ≡ b
one_update [] legal a b m n e = absurd m
one_update (u ∷ us) legal a b (inl f) (inl g) e = sym f ∙ g
one_update (u ∷ us) legal a b (inl f) (inr n) e = absurd (let t : has_version u.id (versions_in us) ≡ true = subst (λ (i : List ℕ). has_version i (versions_in us) ≡ true) (sym e ∙ ap (λ (t : UpdateView). t.id) (sym f)) (update_version us b n) in let g = new_in us u legal.0 in cc)
one_update (u ∷ us) legal a b (inr m) (inl g) e = absurd (let t : has_version u.id (versions_in us) ≡ true = subst (λ (i : List ℕ). has_version i (versions_in us) ≡ true) (e ∙ ap (λ (t : UpdateView). t.id) (sym g)) (update_version us a m) in let f = new_in us u legal.0 in cc)
one_update (u ∷ us) legal a b (inr m) (inr n) e = one_update us legal.1 a b m n e

-- a version comes from an update
pub update_of : (os : List UpdateView) (w : Version) → Member w (versions_in os) → (a : UpdateView) × Member a os × (a.id ≡ w.id)
update_of [] w m = absurd m
update_of (o ∷ os) w (inl e) = (o, inl refl, ap (λ (t : Version). t.id) e)
update_of (o ∷ os) w (inr m) = wider (update_of os w m)
  where
    wider : (a : UpdateView) × Member a os × (a.id ≡ w.id) → (a : UpdateView) × Member a (o ∷ os) × (a.id ≡ w.id)
    wider (a, k, f) = (a, inr k, f)
